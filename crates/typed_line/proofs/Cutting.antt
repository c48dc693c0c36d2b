-- How a text is cut at its newlines and a line at its blanks. Assumes nothing.
use mathlib.Core.Path.{◌≡◌, refl, sym, ap, ◌∙◌}
use mathlib.Core.Bool.{Bool, true, false, not, cond}
use mathlib.Core.List.{List, [], ◌∷◌, ◌++◌, append_assoc, append-nil}
use Prim.Native.Nat.{ℕ, suc, ◌+◌, ◌≤◌, ◌<◌}
use native.Mathlib.Omega.{arith}
use lib.Dec.{ltb}
use lib.ListN.{length, take, drop}
use borrow.Author.Tests.{ltb-false}
use Rattle.std.specs.Prelude.{Option, Some, None, unwrap_or}
use Rattle.std.specs.List.{position_or_len, slice_split, onto_first}
use Rattle.std.proofs.lemmas.List.{take-append-drop}
use Rattle.std.proofs.lemmas.List.Recursion.{is_position_or_len}
use Rattle.typed_line.specs.Words.{before, newline, blank, inked, past_blanks, lines_from, lines_of, ended, words_from, words_of}

-- ---- the bytes before the first that passes a test
module _ (p : ℕ → Bool) where
  before-length : (s : List ℕ) → length (before p s) ≤ length s
  unfolding before
  before-length [] = omega arith
  before-length (b ∷ s) = go (p b) (before-length s)
    where
      go : (t : Bool) → length (before p s) ≤ length s → length (cond t [] (b ∷ before p s)) ≤ suc (length s)
      go true h = omega arith
      go false h = omega arith

  pub before-take : (s : List ℕ) → take (length (before p s)) s ≡ before p s
  unfolding before
  before-take [] = refl
  before-take (b ∷ s) = go (p b) (before-take s)
    where
      go : (t : Bool) → take (length (before p s)) s ≡ before p s → take (length (cond t [] (b ∷ before p s))) (b ∷ s) ≡ cond t [] (b ∷ before p s)
      go true e = refl
      go false e = ap (λ l. b ∷ l) e

  before-place : (s : List ℕ) → length (before p s) ≡ position_or_len p s
  unfolding before
  before-place s = is_position_or_len (λ k. length (before p k)) p refl (λ b k. step (p b) b k) s
    where
      step : (t : Bool) (b : ℕ) (k : List ℕ) → length (cond t [] (b ∷ before p k)) ≡ cond t 0 (1 + length (before p k))
      step true b k = refl
      step false b k = omega arith

  -- the place that `position` finds, or the end
  pub before-found : (s : List ℕ) {r : Option ℕ} {n : ℕ} → r ≡ cond (ltb (position_or_len p s) (length s)) (Some (position_or_len p s)) None → n ≡ unwrap_or r (length s) → n ≡ length (before p s)
  before-found s {r} {n} e k = k ∙ (ap (λ o. unwrap_or o (length s)) e ∙ go (ltb (position_or_len p s) (length s)) refl)
    where
      go : (t : Bool) → ltb (position_or_len p s) (length s) ≡ t → unwrap_or (cond t (Some (position_or_len p s)) None) (length s) ≡ length (before p s)
      go true q = sym (before-place s)
      go false q = omega (arith, before-place s, before-length s, ltb-false (position_or_len p s) (length s) q)

-- ---- lines
-- bytes in front of the first part
onto : List ℕ → List (List ℕ) → List (List ℕ)
onto [] parts = parts
onto (b ∷ l) parts = onto_first b (onto l parts)

onto-more : (l : List ℕ) (b : ℕ) (parts : List (List ℕ)) → onto (l ++ (b ∷ [])) parts ≡ onto l (onto_first b parts)
unfolding onto
onto-more [] b parts = refl
onto-more (a ∷ l) b parts = ap (onto_first a) (onto-more l b parts)

onto-none : (l : List ℕ) (parts : List (List ℕ)) → onto l ([] ∷ parts) ≡ l ∷ parts
unfolding onto
onto-none [] parts = refl
onto-none (a ∷ l) parts = ap (onto_first a) (onto-none l parts)

onto-split : (line s : List ℕ) → lines_from line s ≡ onto line (slice_split newline s)
unfolding lines_from onto
onto-split line [] = sym (onto-none line [])
onto-split line (b ∷ s) = go (newline b) (onto-split [] s) (onto-split (line ++ (b ∷ [])) s)
  where
    go : (t : Bool) → lines_from [] s ≡ slice_split newline s → lines_from (line ++ (b ∷ [])) s ≡ onto (line ++ (b ∷ [])) (slice_split newline s)
        → cond t (line ∷ lines_from [] s) (lines_from (line ++ (b ∷ [])) s) ≡ onto line (cond t ([] ∷ slice_split newline s) (onto_first b (slice_split newline s)))
    go true e f = ap (λ k. line ∷ k) e ∙ sym (onto-none line (slice_split newline s))
    go false e f = f ∙ onto-more line b (slice_split newline s)

-- the lines are the parts between the newlines
pub lines-split : (text : List ℕ) → slice_split newline text ≡ lines_of text
unfolding onto
lines-split text = sym (onto-split [] text)

-- the lines after a newline, if there is one
unfoldable pub lines_after : List ℕ → List (List ℕ)
lines_after [] = []
lines_after (b ∷ s) = lines_of s

pub lines_cut : (line s : List ℕ) → lines_from line s ≡ (line ++ before newline s) ∷ lines_after (drop (length (before newline s)) s)
unfolding lines_from before lines_after
lines_cut line [] = ap (λ l. l ∷ []) (sym (append-nil line))
lines_cut line (b ∷ s) = go (newline b) (lines_cut (line ++ (b ∷ [])) s)
  where
    go : (t : Bool) → lines_from (line ++ (b ∷ [])) s ≡ ((line ++ (b ∷ [])) ++ before newline s) ∷ lines_after (drop (length (before newline s)) s)
        → cond t (line ∷ lines_from [] s) (lines_from (line ++ (b ∷ [])) s)
        ≡ (line ++ cond t [] (b ∷ before newline s)) ∷ lines_after (drop (length (cond t [] (b ∷ before newline s))) (b ∷ s))
    go true e = ap (λ l. l ∷ lines_from [] s) (sym (append-nil line))
    go false e = e ∙ ap (λ l. l ∷ lines_after (drop (length (before newline s)) s)) (append_assoc line (b ∷ []) (before newline s))

-- ---- words
pub words-blank : (b : ℕ) (s : List ℕ) → blank b ≡ true → words_of (b ∷ s) ≡ words_of s
unfolding words_from
words-blank b s e = rw e

pub words-cut : (word s : List ℕ) → words_from word s ≡ ended (word ++ before blank s) (words_of (drop (length (before blank s)) s))
unfolding words_from before
words-cut word [] = ap (λ l. ended l []) (sym (append-nil word))
words-cut word (b ∷ s) = go (blank b) refl (words-cut (word ++ (b ∷ [])) s)
  where
    go : (t : Bool) → blank b ≡ t → words_from (word ++ (b ∷ [])) s ≡ ended ((word ++ (b ∷ [])) ++ before blank s) (words_from [] (drop (length (before blank s)) s))
        → cond t (ended word (words_from [] s)) (words_from (word ++ (b ∷ [])) s)
        ≡ ended (word ++ cond t [] (b ∷ before blank s)) (words_from [] (drop (length (cond t [] (b ∷ before blank s))) (b ∷ s)))
    go true q e = ap (λ l. ended l (words_from [] s)) (sym (append-nil word)) ∙ ap (ended (word ++ [])) (sym (words-blank b s q))
    go false q e = e ∙ ap (λ l. ended l (words_from [] (drop (length (before blank s)) s))) (append_assoc word (b ∷ []) (before blank s))

pub words-none : words_of [] ≡ []
unfolding words_from
words-none = refl

pub words-empty : (s : List ℕ) → length s ≡ 0 → words_of s ≡ []
words-empty [] h = words-none
words-empty (b ∷ s) h = absurd (omega arith)

pub ended_some : (word : List ℕ) (words : List (List ℕ)) → 0 < length word → ended word words ≡ word ∷ words
ended_some [] words h = absurd (omega arith)
ended_some (b ∷ word) words h = refl

past-words : (line : List ℕ) → words_of line ≡ words_of (past_blanks line)
unfolding before
past-words [] = refl
past-words (b ∷ s) = go (blank b) refl (past-words s)
  where
    go : (t : Bool) → blank b ≡ t → words_of s ≡ words_of (past_blanks s) → words_of (b ∷ s) ≡ words_of (drop (length (cond (not t) [] (b ∷ before inked s))) (b ∷ s))
    go true q e = words-blank b s q ∙ e
    go false q e = refl

past_some : (line : List ℕ) → 0 < length (past_blanks line) → 0 < length (before blank (past_blanks line))
unfolding before
past_some [] h = absurd (omega arith)
past_some (b ∷ s) h = go (blank b) refl (past_some s) h
  where
    go : (t : Bool) → blank b ≡ t → (0 < length (past_blanks s) → 0 < length (before blank (past_blanks s)))
        → 0 < length (drop (length (cond (not t) [] (b ∷ before inked s))) (b ∷ s)) → 0 < length (before blank (drop (length (cond (not t) [] (b ∷ before inked s))) (b ∷ s)))
    go true q e k = e k
    go false q e k = rw q (omega arith)

module _ (line : List ℕ) {words : List ℕ} (e : words ≡ past_blanks line) where
  pub word-none : length words ≡ 0 → words_of line ≡ []
  word-none h = past-words line ∙ (ap words_of (sym e) ∙ words-empty words h)

  pub word-some : {word rest : List ℕ} → 0 < length words → word ≡ before blank words → rest ≡ drop (length (before blank words)) words → words_of line ≡ word ∷ words_of rest
  word-some {word} {rest} h q r =
      past-words line
      ∙ (ap words_of (sym e)
      ∙ (words-cut [] words
      ∙ (ended_some (before blank words) (words_of (drop (length (before blank words)) words)) some
      ∙ (ap (λ l. l ∷ words_of (drop (length (before blank words)) words)) (sym q)
      ∙ ap (λ l. word ∷ words_of l) (sym r)))))
    where
      some : 0 < length (before blank words)
      some = rw e (past_some line (rw (← e) h))

  -- the word and what stands behind it are what is left of the line
  pub word-place : {word rest : List ℕ} → word ≡ before blank words → rest ≡ drop (length (before blank words)) words → word ++ rest ≡ past_blanks line
  word-place {word} {rest} q r =
      ap (λ l. l ++ rest) (q ∙ sym (before-take blank words))
      ∙ (ap (λ l. take (length (before blank words)) words ++ l) r
      ∙ (take-append-drop (length (before blank words)) words
      ∙ e))
