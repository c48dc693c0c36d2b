-- A list that goes into a lent slice part by part: what is written, and what is still to come. Assumes nothing.
use mathlib.Core.Path.{◌≡◌, refl, sym, ap, ◌∙◌}
use mathlib.Core.List.{List, [], ◌++◌, append_assoc, append-nil}
use Prim.Native.Nat.{ℕ, ◌+◌, ◌≤◌}
use native.Mathlib.Omega.{arith}
use lib.ListN.{length, drop, length-append}
use Rattle.buffer.specs.Wrote.{Wrote, in_front}
use Rattle.buffer.proofs.WroteLaws.{wrote_none, wrote_as, wrote-length, wrote_then}

-- of the list `all`, which goes in from place `at` on, the part up to place `next` is written, and `rest` is to come
pub record Underway (all before now : List ℕ) (at next : ℕ) (rest : List ℕ) : Type 0 where
  pub done : List ℕ
  pub wrote : Wrote before now at next done
  pub is : done ++ rest ≡ all

pub underway-none : (all before : List ℕ) (at : ℕ) → at ≤ length before → Underway all before before at at all
underway-none all before at h = record { done = []; wrote = wrote_none before at h; is = refl }

module _ {all before now : List ℕ} {at next : ℕ} {rest : List ℕ} (u : Underway all before now at next rest) where
  -- nothing is to come
  pub underway-all : rest ≡ [] → Wrote before now at next all
  underway-all e = wrote_as (sym (append-nil u.done) ∙ (ap (λ (l : List ℕ). u.done ++ l) (sym e) ∙ u.is)) u.wrote

  -- the next part
  module _ (part later : List ℕ) (e : rest ≡ part ++ later) where
    parts : (u.done ++ part) ++ later ≡ all
    parts = append_assoc u.done part later ∙ (ap (λ (l : List ℕ). u.done ++ l) (sym e) ∙ u.is)

    pub underway-room : at + length all ≤ length before → next + length part ≤ length now
    underway-room h = omega (arith, u.wrote.next, ap length parts, length-append (u.done ++ part) later, length-append u.done part, wrote-length u.wrote)

    pub underway-more : {then : List ℕ} {after : ℕ} → Wrote now then next after part → Underway all before then at after later
    underway-more w = record { done = u.done ++ part; wrote = wrote_then u.wrote w; is = parts }

-- a list that is written at the front
pub wrote-front : {before now : List ℕ} {next : ℕ} {xs : List ℕ} → Wrote before now 0 next xs → now ≡ in_front xs before
wrote-front {before} {now} {next} {xs} w =
    let e : next ≡ length xs = omega (arith, w.next) in
    w.is ∙ ap (λ (n : ℕ). xs ++ drop n before) e
