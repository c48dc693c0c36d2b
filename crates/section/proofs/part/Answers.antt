-- `part` hands back what lies between the places.
use native.Mathlib.Omega.{arith}
use Rattle.section.proofs.RunLaws.{places-in, part-found}
use Rattle.section.proofs.part.Goals as goal

pub slice_bounds-result-count : goal.slice_bounds-result-count
slice_bounds-result-count c = let found = c.places_of-first.ensures in rw found (places-in c.args.listing.now c.args.x).0

pub slice_bounds-result-start : goal.slice_bounds-result-start
slice_bounds-result-start c = let found = c.places_of-first.ensures in rw found (omega (arith, places-in c.args.listing.now c.args.x))

pub slice_bounds-result-end : goal.slice_bounds-result-end
slice_bounds-result-end c = let found = c.places_of-first.ensures in rw found (places-in c.args.listing.now c.args.x).1

pub returns : goal.returns
returns c = part-found c.args.listing.now c.args.x c.places_of-first.ensures
