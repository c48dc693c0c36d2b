-- Text that is printed reads back: lines that end with a newline, words and decimal numbers with spaces between them, and comments. Assumes nothing.
use mathlib.Core.Path.{◌≡◌, refl, sym, ap, ◌∙◌}
use mathlib.Core.Bool.{Bool, true, false, not, cond, ◌&&◌}
use mathlib.Core.List.{List, [], ◌∷◌, ◌++◌, append-nil}
use Prim.Native.Nat.{ℕ, zero, suc, ◌+◌, ◌/◌, ◌%◌, ◌≤◌, ◌<◌}
use native.Mathlib.Omega.{arith}
use lib.Dec.{ltb}
use lib.ListN.{length, drop, length-append}
use lib.Seq.{drop-append_seam}
use borrow.Author.Tests.{le-leb, ne_eqb, not-true}
use Rattle.text_parts.specs.Decimal.{digits, decimal}
use Rattle.text_parts.proofs.LineLaws.{decimal-value}
use Rattle.typed_line.specs.declared.entry.Setting.{Setting}
use Rattle.std.specs.Prelude.{Ok}
use Rattle.typed_line.specs.declared.entry.Entry.TheVariants.{Setting as Settled, Shot}
use Rattle.typed_line.specs.Words.{before, newline, hash, blank, lines_of, ended, words_of}
use Rattle.typed_line.specs.Entries.{digits_only, word_number, setting_of, shot_of}
use Rattle.typed_line.proofs.Cutting.{lines_after, lines_cut, words-cut, words-blank, words-none, ended_some}
use Rattle.ground.proofs.Bools.{and-true}
use Rattle.typed_line.proofs.Numbers.{number_is}

-- ---- bytes that a test does not meet
-- no byte passes the test
pub data Free (p : ℕ → Bool) : List ℕ → Type 0 where
  no_byte : Free p []
  no-pass : {b : ℕ} {s : List ℕ} → p b ≡ false → Free p s → Free p (b ∷ s)

pub free-append : {p : ℕ → Bool} {a b : List ℕ} → Free p a → Free p b → Free p (a ++ b)
free-append no_byte g = g
free-append (no-pass e f) g = no-pass e (free-append f g)

-- the same as a test that computes
unfoldable pub freely : (ℕ → Bool) → List ℕ → Bool
freely p [] = true
freely p (b ∷ s) = not (p b) && freely p s

pub free-tested : (p : ℕ → Bool) (s : List ℕ) → freely p s ≡ true → Free p s
unfolding freely
free-tested p [] e = no_byte
free-tested p (b ∷ s) e = let k = and-true (not (p b)) (freely p s) e in no-pass (not-true (p b) k.0) (free-tested p s k.1)

-- what stands before the first byte that passes, past bytes that do not
pub before-append : {p : ℕ → Bool} {a : List ℕ} (s : List ℕ) → Free p a → before p (a ++ s) ≡ a ++ before p s
unfolding before
before-append s no_byte = refl
before-append s (no-pass {b = b} e f) = rw e (ap (λ l. b ∷ l) (before-append s f))

-- ---- lines and words
-- a line and what follows its newline
pub line-printed : (line rest : List ℕ) → Free newline line → lines_of (line ++ (10 ∷ rest)) ≡ line ∷ lines_of rest
unfolding lines_after before
line-printed line rest f =
    let e : before newline (line ++ (10 ∷ rest)) ≡ line = before-append (10 ∷ rest) f ∙ append-nil line in
    lines_cut [] (line ++ (10 ∷ rest)) ∙ (ap (λ l. l ∷ lines_after (drop (length l) (line ++ (10 ∷ rest)))) e ∙ ap (λ l. line ∷ lines_after l) (drop-append_seam line (10 ∷ rest)))

-- a word and what follows the space after it
pub word-printed : (word rest : List ℕ) → Free blank word → 0 < length word → words_of (word ++ (32 ∷ rest)) ≡ word ∷ words_of rest
unfolding before
word-printed word rest f h =
    let e : before blank (word ++ (32 ∷ rest)) ≡ word = before-append (32 ∷ rest) f ∙ append-nil word in
    words-cut [] (word ++ (32 ∷ rest))
    ∙ (ap (λ l. ended l (words_of (drop (length l) (word ++ (32 ∷ rest))))) e
    ∙ (ended_some word (words_of (drop (length word) (word ++ (32 ∷ rest)))) h
    ∙ (ap (λ l. word ∷ words_of l) (drop-append_seam word (32 ∷ rest))
    ∙ ap (λ l. word ∷ l) (words-blank 32 rest refl))))

before-empty : (word : List ℕ) → word ++ before blank [] ≡ word
unfolding before
before-empty word = append-nil word

-- the last word of a line
pub word-last : (word : List ℕ) → Free blank word → 0 < length word → words_of word ≡ word ∷ []
word-last word f h =
    let e : before blank word ≡ word = ap (before blank) (sym (append-nil word)) ∙ (before-append [] f ∙ before-empty word) in
    words-cut [] word
    ∙ (ap (λ l. ended l (words_of (drop (length l) word))) e
    ∙ (ended_some word (words_of (drop (length word) word)) h
    ∙ (ap (λ l. word ∷ words_of l) (ap (drop (length word)) (sym (append-nil word)) ∙ drop-append_seam word [])
    ∙ ap (λ l. word ∷ l) words-none)))

-- ---- decimal numbers
pub data Digits : List ℕ → Type 0 where
  no_digit : Digits []
  one-digit : {b : ℕ} {s : List ℕ} → 48 ≤ b → b ≤ 57 → Digits s → Digits (b ∷ s)

digits_append : {a b : List ℕ} → Digits a → Digits b → Digits (a ++ b)
digits_append no_digit g = g
digits_append (one-digit l h f) g = one-digit l h (digits_append f g)

digits_are : (n a : ℕ) → Digits (digits n a)
unfolding digits
digits_are zero a = no_digit
digits_are (suc n) a = digits_append (go (ltb a 10) (digits_are n (a / 10))) (one-digit (omega arith) (omega arith) no_digit)
  where
    go : (t : Bool) → Digits (digits n (a / 10)) → Digits (cond t [] (digits n (a / 10)))
    go true f = no_digit
    go false f = f

-- a digit is no blank, no `#` and no newline
module _ (b : ℕ) (low : 48 ≤ b) where
  digit-newline : newline b ≡ false
  digit-newline = ne_eqb b 10 (λ e. omega arith)

  digit-hash : hash b ≡ false
  digit-hash = ne_eqb b 35 (λ e. omega arith)

  digit-blank : blank b ≡ false
  digit-blank = rw (ne_eqb b 32 (λ e. omega arith), ne_eqb b 9 (λ e. omega arith)) (ne_eqb b 13 (λ e. omega arith))

digits-free : {p : ℕ → Bool} {s : List ℕ} → ((b : ℕ) → 48 ≤ b → p b ≡ false) → Digits s → Free p s
digits-free h no_digit = no_byte
digits-free h (one-digit {b = b} l m f) = no-pass (h b l) (digits-free h f)

digits-only : {s : List ℕ} → Digits s → digits_only s ≡ true
unfolding digits_only
digits-only no_digit = refl
digits-only (one-digit {b = b} l m f) = rw (le-leb 48 b l, le-leb b 57 m) (digits-only f)

digits-some : (n a : ℕ) → 0 < length (digits (suc n) a)
unfolding digits
digits-some n a = omega (arith, length-append (cond (ltb a 10) [] (digits n (a / 10))) ((48 + a % 10) ∷ []))

module _ (a : ℕ) where
  pub decimal-newline : Free newline (decimal a)
  decimal-newline = digits-free digit-newline (digits_are 20 a)

  pub decimal-hash : Free hash (decimal a)
  decimal-hash = digits-free digit-hash (digits_are 20 a)

  pub decimal-blank : Free blank (decimal a)
  decimal-blank = digits-free digit-blank (digits_are 20 a)

  pub decimal-some : 0 < length (decimal a)
  decimal-some = digits-some 19 a

  -- a number of 16 bits, read back from its digits
  decimal-number : a ≤ 65535 → word_number (decimal a) ≡ Ok a
  decimal-number h = sym (number_is (decimal a) a (digits-only (digits_are 20 a)) (decimal-value a (omega arith)) h)

-- ---- a setting and a shot
pub setting-printed : (s : Setting) (n : ℕ) → n ≤ 65535 → setting_of s (decimal n ∷ []) ≡ Ok (Settled s n)
unfolding setting_of
setting-printed s n h = rw (decimal-number n h)

pub shot-printed : (x y z : ℕ) → x ≤ 65535 → y ≤ 65535 → z ≤ 65535 → shot_of (decimal x ∷ decimal y ∷ decimal z ∷ []) ≡ Ok (Shot x y z)
unfolding shot_of
shot-printed x y z hx hy hz = simp (decimal-number x hx, decimal-number y hy, decimal-number z hz)
