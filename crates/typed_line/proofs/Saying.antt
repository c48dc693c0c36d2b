-- What a line says, by its words. Assumes nothing.
use mathlib.Core.Path.{◌≡◌, ap}
use mathlib.Core.Bool.{true, false}
use mathlib.Core.List.{List, [], ◌∷◌}
use Prim.Native.Nat.{ℕ}
use Rattle.std.specs.Prelude.{Ok, Err}
use Rattle.text_parts.specs.Text.{text}
use Rattle.text_same.specs.Same.{same}
use Rattle.typed_line.specs.declared.entry.Setting.{Setting}
use Rattle.typed_line.specs.declared.entry.Setting.TheVariants.{Field, Edge, Grid}
use Rattle.typed_line.specs.declared.entry.Command.{Command}
use Rattle.typed_line.specs.declared.entry.Command.TheVariants.{Set, Shoot}
use Rattle.typed_line.specs.declared.entry.Mistake.{Mistake}
use Rattle.typed_line.specs.declared.entry.Mistake.TheVariants.{UnknownWord, TooFewWords}
use Rattle.typed_line.specs.declared.entry.Entry.TheVariants.{Nothing, Setting as Settled, Shot}
use Rattle.typed_line.specs.Cursors.{only_word}
use Rattle.typed_line.specs.Entries.{word_number, command_of, on_number, setting_of, shot_of, commanded, entry_of}

-- ---- the first word
module _ (w : List ℕ) where
  pub is_field : same w (text "field") ≡ true → Ok (Set Field) ≡ command_of w
  unfolding command_of
  is_field e = rw e

  module _ (a : same w (text "field") ≡ false) where
    pub is-edge : same w (text "edge") ≡ true → Ok (Set Edge) ≡ command_of w
    unfolding command_of
    is-edge e = rw (a, e)

    module _ (b : same w (text "edge") ≡ false) where
      pub is-grid : same w (text "grid") ≡ true → Ok (Set Grid) ≡ command_of w
      unfolding command_of
      is-grid e = rw (a, b, e)

      module _ (c : same w (text "grid") ≡ false) where
        pub is_shot : same w (text "shot") ≡ true → Ok Shoot ≡ command_of w
        unfolding command_of
        is_shot e = rw (a, b, c, e)

        pub is-unknown : same w (text "shot") ≡ false → Err UnknownWord ≡ command_of w
        unfolding command_of
        is-unknown e = rw (a, b, c, e)

-- ---- the words after it
module _ (s : Setting) where
  pub setting-wrong : (words : List (List ℕ)) {m : Mistake} → only_word words ≡ Err m → Err m ≡ setting_of s words
  unfolding setting_of
  setting-wrong [] e = cc
  setting-wrong (n ∷ []) e = cc
  setting-wrong (n ∷ k ∷ words) e = cc

  pub setting-one : (words : List (List ℕ)) {n : List ℕ} → only_word words ≡ Ok n → on_number (word_number n) (λ a. Ok (Settled s a)) ≡ setting_of s words
  unfolding setting_of
  setting-one [] e = cc
  setting-one (k ∷ []) {n} e = let q : n ≡ k = cc in ap (λ w. on_number (word_number w) (λ a. Ok (Settled s a))) q
  setting-one (k ∷ j ∷ words) e = cc

pub shot-none : {words : List (List ℕ)} → words ≡ [] → Err TooFewWords ≡ shot_of words
unfolding shot_of
shot-none e = rw e

module _ {words after : List (List ℕ)} {x : List ℕ} (e : words ≡ x ∷ after) where
  pub shot-one : after ≡ [] → Err TooFewWords ≡ shot_of words
  unfolding shot_of
  shot-one q = rw (e, q)

  module _ {last : List (List ℕ)} {y : List ℕ} (f : after ≡ y ∷ last) where
    pub shot-wrong : {m : Mistake} → only_word last ≡ Err m → Err m ≡ shot_of words
    unfolding shot_of
    shot-wrong {m} q = rw (e, f) (go last q)
      where
        go : (k : List (List ℕ)) → only_word k ≡ Err m → Err m ≡ shot_of (x ∷ y ∷ k)
        go [] h = cc
        go (z ∷ []) h = cc
        go (z ∷ w ∷ k) h = cc

    pub shot-three : {z : List ℕ} → only_word last ≡ Ok z → on_number (word_number x) (λ a. on_number (word_number y) (λ b. on_number (word_number z) (λ c. Ok (Shot a b c)))) ≡ shot_of words
    unfolding shot_of
    shot-three {z} q = rw (e, f) (go last q)
      where
        go : (k : List (List ℕ)) → only_word k ≡ Ok z → on_number (word_number x) (λ a. on_number (word_number y) (λ b. on_number (word_number z) (λ c. Ok (Shot a b c)))) ≡ shot_of (x ∷ y ∷ k)
        go [] h = cc
        go (w ∷ []) h = let q : z ≡ w = cc in ap (λ k. on_number (word_number x) (λ a. on_number (word_number y) (λ b. on_number (word_number k) (λ c. Ok (Shot a b c))))) q
        go (w ∷ v ∷ k) h = cc

-- ---- the line
pub says_nothing : {words : List (List ℕ)} → words ≡ [] → Ok Nothing ≡ entry_of words
unfolding entry_of
says_nothing e = rw e

module _ {words rest : List (List ℕ)} {word : List ℕ} (e : words ≡ word ∷ rest) where
  pub says-wrong : {m : Mistake} → Err m ≡ command_of word → Err m ≡ entry_of words
  unfolding commanded entry_of
  says-wrong q = rw (e, ← q)

  pub says-set : {k : Command} {s : Setting} → Ok k ≡ command_of word → k ≡ Set s → setting_of s rest ≡ entry_of words
  unfolding commanded entry_of
  says-set q h = rw (e, ← q, h)

  pub says-shot : {k : Command} → Ok k ≡ command_of word → k ≡ Shoot → shot_of rest ≡ entry_of words
  unfolding commanded entry_of
  says-shot q h = rw (e, ← q, h)
