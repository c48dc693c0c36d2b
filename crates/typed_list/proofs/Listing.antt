-- The lines of a text one after another: what the lines above say, and one more. Assumes nothing.
use mathlib.Core.Path.{◌≡◌, refl, sym, ap, subst, ◌∙◌}
use mathlib.Core.Bool.{Bool, true, false, cond}
use mathlib.Core.List.{List, [], ◌∷◌, ◌++◌}
use Prim.Native.Nat.{ℕ, suc, ◌+◌, ◌≤◌, ◌<◌}
use native.Mathlib.Numerals.{add-one}
use native.Mathlib.Omega.{arith}
use lib.Dec.{ltb}
use lib.ListN.{length, drop, get_or, length-append, drop_of_length-le}
use lib.Seq.{drop-cons}
use borrow.Author.Tests.{ltb-true}
use Rattle.buffer.specs.Wrote.{in_front}
use Rattle.job.specs.Job.{shot_count, place_of}
use Rattle.typed_line.specs.declared.entry.Setting.{Setting}
use Rattle.typed_line.specs.declared.entry.Setting.TheVariants.{Field, Edge, Grid}
use Rattle.typed_line.specs.declared.entry.Mistake.{Mistake}
use Rattle.typed_line.specs.declared.entry.Mistake.TheVariants.{TooManyShots, NoPlace}
use Rattle.typed_line.specs.declared.entry.Entry.{Entry}
use Rattle.typed_line.specs.declared.entry.Entry.TheVariants.{Nothing, Setting as Settled, Shot}
use Rattle.typed_draft.specs.declared.Draft.{Draft}
use Rattle.job.specs.declared.Stored.{Stored}
use Rattle.typed_list.specs.declared.MistakeAt.{MistakeAt}
use Rattle.std.proofs.Common.{zero-add}
use Rattle.std.specs.Prelude.{Option, Result, Ok, Err, MatchResult, IsErrAnd}
use Rattle.std.specs.List.{slice_split, enumerate_from}
use Rattle.std.proofs.lemmas.List.FromFn.{length-enumerate_from, get_or-enumerate_from}
use Rattle.typed_line.specs.Entries.{line_entry}
use Rattle.typed_draft.specs.Drafts.{nothing_yet, once, on_once, settled, shot_more, then}
use Rattle.typed_list.specs.Lists.{stored, listed, mistaken, on_next, typed_from, typed_list, coords_of, shots_in, coords_left, typed_coords}
use Rattle.typed_line.specs.Words.{newline, lines_of}
use Rattle.typed_line.proofs.Cutting.{lines-split}

-- ---- the lines, one after another
module _ (text : List ℕ) (i : ℕ) where
  -- the line of a turn, and those after it
  pub line-turn : {l : List ℕ} → (i < length (slice_split newline text)) × (l ≡ get_or (slice_split newline text) i l) → drop i (lines_of text) ≡ l ∷ drop (i + 1) (lines_of text)
  line-turn {l} h =
      let e = lines-split text in
      rw (add-one i) (ap (drop i) (sym e) ∙ (drop-cons (slice_split newline text) i l h.0 ∙ (ap (λ k. k ∷ drop (suc i) (slice_split newline text)) (sym h.1) ∙ ap (λ k. l ∷ drop (suc i) k) e)))

  -- the same with the number of lines above it
  pub line-count : {k : ℕ} {l : List ℕ} → (i < length (enumerate_from 0 (slice_split newline text))) × ((k, l) ≡ get_or (enumerate_from 0 (slice_split newline text)) i (k, l)) → (k ≡ i) × (drop i (lines_of text) ≡ l ∷ drop (i + 1) (lines_of text))
  line-count {k} {l} h =
      let here : i < length (slice_split newline text) = omega (arith, h.0, length-enumerate_from 0 (slice_split newline text)) in
      let e : (k, l) ≡ (0 + i, get_or (slice_split newline text) i l) = h.1 ∙ get_or-enumerate_from 0 (slice_split newline text) i (k, l) here in
      let at : k ≡ i = ap (λ (p : ℕ × List ℕ). p.0) e ∙ zero-add i in
      let is : l ≡ get_or (slice_split newline text) i l = ap (λ (p : ℕ × List ℕ). p.1) e in
      (at, line-turn (here, is))

  pub lines-over : i ≡ length (slice_split newline text) → drop i (lines_of text) ≡ []
  lines-over e = drop_of_length-le (lines_of text) (omega (arith, ap length (lines-split text)))

-- ---- a line more, by way of `map_err`
module _ (P : Mistake → MistakeAt → Type 0) (r : Result Draft Mistake) where
  pub goes : (s : Result Draft MistakeAt) {d : Draft} → MatchResult r (λ x. s ≡ Ok x) (λ m. IsErrAnd s (P m)) → s ≡ Ok d → Ok d ≡ r
  goes s {d} h e = go r h
    where
      go : (k : Result Draft Mistake) → MatchResult k (λ x. s ≡ Ok x) (λ m. IsErrAnd s (P m)) → Ok d ≡ k
      go (Ok x) f = cc
      go (Err m) f = absurd (subst (λ k. IsErrAnd k (P m)) e f)

  pub stops : (s : Result Draft MistakeAt) {at : MistakeAt} → MatchResult r (λ x. s ≡ Ok x) (λ m. IsErrAnd s (P m)) → s ≡ Err at → (m : Mistake) × (Err m ≡ r) × P m at
  stops s {at} h e = go r h
    where
      go : (k : Result Draft Mistake) → MatchResult k (λ x. s ≡ Ok x) (λ m. IsErrAnd s (P m)) → (m : Mistake) × (Err m ≡ k) × P m at
      go (Ok x) f = cc
      go (Err m) f = (m, refl, subst (λ k. IsErrAnd k (P m)) e f)

-- ---- the text, from a line on
module _ (places : ℕ) (d : Draft) (line : ℕ) where
  typed-line : {lines rest : List (List ℕ)} {l : List ℕ} → lines ≡ l ∷ rest → (n : Result Draft Mistake) → n ≡ then places d (line_entry l) → typed_from places d line lines ≡ on_next n line (λ d'. typed_from places d' (suc line) rest)
  unfolding typed_from
  typed-line e n q = rw (e, q)

  pub typed-end : typed_from places d line [] ≡ listed d
  unfolding typed_from
  typed-end = refl

  module _ {lines rest : List (List ℕ)} {l : List ℕ} (e : lines ≡ l ∷ rest) {entry : Result Entry Mistake} (q : entry ≡ line_entry l) where
    pub typed-stops : {m : Mistake} → Err m ≡ then places d entry → typed_from places d line lines ≡ mistaken line m
    typed-stops {m} k = typed-line e (Err m) (k ∙ ap (then places d) q)

    pub typed-goes : {d' : Draft} → Ok d' ≡ then places d entry → typed_from places d line lines ≡ typed_from places d' (line + 1) rest
    typed-goes {d'} k = typed-line e (Ok d') (k ∙ ap (then places d) q) ∙ ap (λ i. typed_from places d' i rest) (sym (add-one line))

-- ---- how many coordinates there are
-- the shots of the lines above fit, and one line more adds its coordinates
pub record Adds (places : ℕ) (d d' : Draft) (e : Result Entry Mistake) : Type 0 where
  pub fits : d'.shots ≤ places
  pub adds : place_of d'.shots ≡ place_of d.shots + length (coords_of e)

module _ {places : ℕ} (d : Draft) {d' : Draft} (h : d.shots ≤ places) where
  adds_none : (e : Result Entry Mistake) → length (coords_of e) ≡ 0 → d.shots ≡ d'.shots → Adds places d d' e
  adds_none e n s = record { fits = omega arith; adds = omega arith }

  adds-once : (r : Result (Option ℕ) Mistake) (make : Option ℕ → Draft) → ((o : Option ℕ) → (make o).shots ≡ d.shots) → on_once r make ≡ Ok d' → d.shots ≡ d'.shots
  adds-once (Ok o) make h e = let q : make o ≡ d' = cc in sym (h o) ∙ ap (λ (k : Draft). k.shots) q
  adds-once (Err m) make h e = cc

  adds-setting : (s : Setting) (n : ℕ) → settled d s n ≡ Ok d' → Adds places d d' (Ok (Settled s n))
  unfolding settled
  adds-setting Field n e = adds_none (Ok (Settled Field n)) refl (adds-once (once d.field n) (λ o. record d { field = o }) (λ o. refl) e)
  adds-setting Edge n e = adds_none (Ok (Settled Edge n)) refl (adds-once (once d.edge n) (λ o. record d { edge = o }) (λ o. refl) e)
  adds-setting Grid n e = adds_none (Ok (Settled Grid n)) refl (adds-once (once d.grid n) (λ o. record d { grid = o }) (λ o. refl) e)

  adds-shot : (x y z : ℕ) → shot_more places d ≡ Ok d' → Adds places d d' (Ok (Shot x y z))
  unfolding shot_more
  adds-shot x y z e = go (ltb d.shots 4096) (ltb d.shots places) refl e
    where
      go : (t u : Bool) → ltb d.shots places ≡ u → cond t (cond u (Ok (record d { shots = d.shots + 1 })) (Err NoPlace)) (Err TooManyShots) ≡ Ok d' → Adds places d d' (Ok (Shot x y z))
      go true true u e =
          let q : record d { shots = d.shots + 1 } ≡ d' = cc in
          let s : d.shots + 1 ≡ d'.shots = ap (λ (k : Draft). k.shots) q in
          record { fits = omega (arith, ltb-true d.shots places u); adds = omega arith }
      go true false u e = cc
      go false u q e = cc

  then-adds : (e : Result Entry Mistake) → then places d e ≡ Ok d' → Adds places d d' e
  unfolding then
  then-adds (Ok Nothing) e = let q : d ≡ d' = cc in adds_none (Ok Nothing) refl (ap (λ (k : Draft). k.shots) q)
  then-adds (Ok (Settled s n)) e = adds-setting s n e
  then-adds (Ok (Shot x y z)) e = adds-shot x y z e
  then-adds (Err m) e = cc

-- a list has places for its shots
pub record ShotCounts (places : ℕ) (coords : List ℕ) (before shots : ℕ) : Type 0 where
  pub room : shots ≤ places
  pub count : place_of shots ≡ place_of before + length coords

pub typed-counts : (places : ℕ) (d : Draft) (line : ℕ) (lines : List (List ℕ)) {list : Stored}
    → d.shots ≤ places
    → typed_from places d line lines ≡ Ok list
    → ShotCounts places (shots_in lines) d.shots list.shots
unfolding typed_from shots_in
typed-counts places d line [] {list} h e =
    let r : stored d ≡ list = cc in
    let q : d.shots ≡ list.shots = ap (λ (k : Stored). k.shots) r in
    record { room = omega arith; count = omega arith }
typed-counts places d line (l ∷ lines) {list} h e = go (then places d (line_entry l)) refl (λ d' h' e'. typed-counts places d' (suc line) lines h' e') e
  where
    go : (n : Result Draft Mistake) → then places d (line_entry l) ≡ n
        → ((d' : Draft) → d'.shots ≤ places → typed_from places d' (suc line) lines ≡ Ok list → ShotCounts places (shots_in lines) d'.shots list.shots)
        → on_next n line (λ d'. typed_from places d' (suc line) lines) ≡ Ok list → ShotCounts places (coords_of (line_entry l) ++ shots_in lines) d.shots list.shots
    go (Ok d') q more e =
        let a = then-adds d h (line_entry l) q in
        let r = more d' a.fits e in
        record { room = r.room; count = omega (arith, r.count, a.adds, length-append (coords_of (line_entry l)) (shots_in lines)) }
    go (Err m) q more e = cc

-- ---- storing
-- the shots of a line, and then those of the others
pub shots-cons : (l : List ℕ) (lines : List (List ℕ)) → shots_in (l ∷ lines) ≡ coords_of (line_entry l) ++ shots_in lines
unfolding shots_in
shots-cons l lines = refl

pub shots-none : shots_in [] ≡ []
unfolding shots_in
shots-none = refl

pub shots-line : {lines rest : List (List ℕ)} {l : List ℕ} {entry : Result Entry Mistake} → lines ≡ l ∷ rest → entry ≡ line_entry l → shots_in lines ≡ coords_of entry ++ shots_in rest
shots-line {lines} {rest} {l} e q = ap shots_in e ∙ (shots-cons l rest ∙ ap (λ (k : Result Entry Mistake). coords_of k ++ shots_in rest) (sym q))

-- ---- the whole text
pub typed-start : (places : ℕ) (text : List ℕ) {d : Draft} → d ≡ nothing_yet → typed_from places d 1 (lines_of text) ≡ typed_list places text
unfolding typed_list
typed-start places text e = rw e

pub typed-places : (text : List ℕ) {m n : ℕ} {t : Result Stored MistakeAt} → t ≡ typed_list m text → m ≡ n → t ≡ typed_list n text
typed-places text e k = e ∙ ap (λ (i : ℕ). typed_list i text) k

module _ (places : ℕ) (text : List ℕ) {list : Stored} (e : typed_list places text ≡ Ok list) where
  list_counts : ShotCounts places (shots_in (lines_of text)) 0 list.shots
  unfolding typed_list nothing_yet
  list_counts = typed-counts places nothing_yet 1 (lines_of text) (omega arith) e

  -- the shots of a list have places
  pub list-shots : list.shots ≤ places
  list-shots = list_counts.room

module _ (text before : List ℕ) where
  module _ {list : Stored} (e : typed_list (shot_count before) text ≡ Ok list) where
    pub list-room : length (shots_in (lines_of text)) ≤ length before
    list-room = let k = list_counts (shot_count before) text e in omega (arith, k.room, k.count)

    pub list-stored : typed_coords text before ≡ in_front (shots_in (lines_of text)) before
    unfolding coords_left
    list-stored = rw e

  pub mistake-stored : {line : ℕ} {m : Mistake} → typed_list (shot_count before) text ≡ mistaken line m → typed_coords text before ≡ before
  unfolding coords_left
  mistake-stored e = rw e
