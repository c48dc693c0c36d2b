-- `places_of` seeks the first record with that x, and from there the first with another. Assumes nothing.
use Rattle.std.proofs.Common.{rules}
use native.Mathlib.Omega.{arith}
use borrow.Author.Tests.{tests}
use Rattle.section.proofs.RunLaws.{its, others, start-found, start-in, end-found, end-in, places-none, places-run}
use Rattle.section.proofs.places_of.Goals as goal

pub first_from-end-requires-clause-inside : goal.first_from-end-requires-clause-inside
first_from-end-requires-clause-inside c = let x = c.args.x in
    let l = c.args.listing.now in
    omega (arith, start-found x l (c.first_from-first.ensures (its x) (λ w r k. search (rules, tests))), start-in x l)

pub returns-then-first-end : goal.returns-then-first-end
returns-then-first-end c = let x = c.args.x in
    let l = c.args.listing.now in
    let f = start-found x l (c.first_from-first.ensures (its x) (λ w r k. search (rules, tests))) in
    places-none x l f (end-found x l f (c.first_from-end.ensures (others x) (λ w r k. search (rules, tests)))) c.if-first-end.true

pub overflow_mul-result : goal.overflow_mul-result
overflow_mul-result c = let x = c.args.x in
    let l = c.args.listing.now in
    record { fits = omega (arith, start-found x l (c.first_from-first.ensures (its x) (λ w r k. search (rules, tests))), start-in x l) }

pub overflow_mul-result-2 : goal.overflow_mul-result-2
overflow_mul-result-2 c = let x = c.args.x in
    let l = c.args.listing.now in
    let f = start-found x l (c.first_from-first.ensures (its x) (λ w r k. search (rules, tests))) in
    record { fits = omega (arith, end-found x l f (c.first_from-end.ensures (others x) (λ w r k. search (rules, tests))), end-in x l) }

pub returns : goal.returns
returns c = let x = c.args.x in
    let l = c.args.listing.now in
    let f = start-found x l (c.first_from-first.ensures (its x) (λ w r k. search (rules, tests))) in
    places-run x l f (end-found x l f (c.first_from-end.ensures (others x) (λ w r k. search (rules, tests)))) c.if-first-end.false
