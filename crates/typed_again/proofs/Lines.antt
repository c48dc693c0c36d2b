-- The lines that are printed for settings and shots, read back as typed lines. Assumes nothing.
use mathlib.Core.Path.{◌≡◌, refl, sym, ap, ◌∙◌}
use mathlib.Core.Bool.{Bool, true, false, cond}
use mathlib.Core.List.{List, [], ◌∷◌, ◌++◌, append_assoc, append-nil}
use Prim.Native.Nat.{ℕ, ◌≤◌, ◌<◌}
use native.Mathlib.Omega.{arith}
use lib.Dec.{eqb}
use lib.ListN.{length}
use Rattle.text_parts.specs.Text.{text}
use Rattle.text_parts.specs.Decimal.{decimal}
use Rattle.text_same.specs.Same.{same}
use Rattle.shotfile_lines.specs.Lines.{note, setting_line, shot_line}
use Rattle.typed_line.specs.declared.entry.Setting.{Setting}
use Rattle.std.specs.Prelude.{Result, Ok}
use Rattle.typed_line.specs.declared.entry.Command.{Command}
use Rattle.typed_line.specs.declared.entry.Command.TheVariants.{Set}
use Rattle.typed_line.specs.declared.entry.Mistake.{Mistake}
use Rattle.typed_line.specs.declared.entry.Entry.{Entry}
use Rattle.typed_line.specs.declared.entry.Entry.TheVariants.{Setting as Settled, Shot}
use Rattle.typed_line.specs.Words.{before, newline, hash, blank, lines_of, words_of}
use Rattle.typed_line.specs.Entries.{command_of, commanded, entry_of, line_entry}
use Rattle.typed_line.proofs.Cutting.{words-none}
use Rattle.typed_line.proofs.Printed.{Free, no-pass, free-append, freely, free-tested, before-append, line-printed, word-printed, word-last, decimal-newline, decimal-hash, decimal-blank, decimal-some, setting-printed, shot-printed}

-- a text begins with a line that says an entry, and then the rest follows
pub record Line (t rest : List ℕ) (entry : Entry) : Type 0 where
  pub line : List ℕ
  pub first : lines_of t ≡ line ∷ lines_of rest
  pub says : line_entry line ≡ Ok entry

-- past a word without `#` and the space after it
past : {word : List ℕ} (rest : List ℕ) {code : List ℕ} → Free hash word → before hash rest ≡ code → before hash (word ++ (32 ∷ rest)) ≡ word ++ (32 ∷ code)
unfolding before
past {word} rest {code} f e = before-append (32 ∷ rest) f ∙ ap (λ l. word ++ (32 ∷ l)) e

-- a comment after the last word
ended-comment : (word comment : List ℕ) → Free hash word → before hash (word ++ (32 ∷ 35 ∷ comment)) ≡ word ++ (32 ∷ [])
unfolding before
ended-comment word comment f = before-append (32 ∷ 35 ∷ comment) f

ended-bare : (word : List ℕ) → Free hash word → before hash (word ++ []) ≡ word ++ []
unfolding before
ended-bare word f = before-append [] f

-- the words of a number that ends a line
last-spaced : (a : ℕ) → words_of (decimal a ++ (32 ∷ [])) ≡ decimal a ∷ []
last-spaced a = word-printed (decimal a) [] (decimal-blank a) (decimal-some a) ∙ ap (λ l. decimal a ∷ l) words-none

last-bare : (a : ℕ) → words_of (decimal a ++ []) ≡ decimal a ∷ []
last-bare a = ap words_of (append-nil (decimal a)) ∙ word-last (decimal a) (decimal-blank a) (decimal-some a)

-- ---- a setting
-- a word of a line: no byte of it is a newline, a `#` or a blank
pub record Plain (word : List ℕ) : Type 0 where
  pub no-newline : Free newline word
  pub no-hash : Free hash word
  pub no-blank : Free blank word
  pub some : 0 < length word

pub plain : (word : List ℕ) → freely newline word ≡ true → freely hash word ≡ true → freely blank word ≡ true → 0 < length word → Plain word
plain word a b c d = record { no-newline = free-tested newline word a; no-hash = free-tested hash word b; no-blank = free-tested blank word c; some = d }

module _ {word : List ℕ} (w : Plain word) {s : Setting} (c : command_of word ≡ Ok (Set s)) (a : ℕ) (small : a ≤ 65535) where
  setting-says : (line code : List ℕ) → before hash line ≡ word ++ (32 ∷ code) → words_of code ≡ decimal a ∷ [] → line_entry line ≡ Ok (Settled s a)
  unfolding commanded entry_of
  setting-says line code e q =
      ap (λ l. entry_of (words_of l)) e
      ∙ (ap entry_of (word-printed word code w.no-blank w.some ∙ ap (λ l. word ∷ l) q)
      ∙ (ap (λ (k : Result Command Mistake). commanded k (decimal a ∷ [])) c
      ∙ setting-printed s a small))

  noted : (t : Bool) (rest : List ℕ) → Line ((word ++ (32 ∷ [])) ++ decimal a ++ (cond t (text " # default") [] ++ text "\n") ++ rest) rest (Settled s a)
  unfolding freely
  noted true rest =
      record {
        line = word ++ (32 ∷ (decimal a ++ text " # default"));
        first = ap lines_of (simp append_assoc) ∙ line-printed (word ++ (32 ∷ (decimal a ++ text " # default"))) rest (free-append w.no-newline (no-pass refl (free-append (decimal-newline a) (free-tested newline (text " # default") refl))));
        says = setting-says (word ++ (32 ∷ (decimal a ++ text " # default"))) (decimal a ++ (32 ∷ [])) (past (decimal a ++ text " # default") w.no-hash (ended-comment (decimal a) (text " default") (decimal-hash a))) (last-spaced a);
      }
  noted false rest =
      record {
        line = word ++ (32 ∷ (decimal a ++ []));
        first = ap lines_of (simp (append_assoc, append-nil)) ∙ line-printed (word ++ (32 ∷ (decimal a ++ []))) rest (free-append w.no-newline (no-pass refl (free-append (decimal-newline a) (free-tested newline [] refl))));
        says = setting-says (word ++ (32 ∷ (decimal a ++ []))) (decimal a ++ []) (past (decimal a ++ []) w.no-hash (ended-bare (decimal a) (decimal-hash a))) (last-bare a);
      }

  pub setting-line : (bit : ℕ) (rest : List ℕ) → Line (setting_line (word ++ (32 ∷ [])) a bit ++ rest) rest (Settled s a)
  unfolding setting_line note
  setting-line bit rest = noted (eqb bit 0) rest

-- ---- a shot
-- parts of a line one after another, as they are printed and as they are read
module _ (s x b y c z n i p a : List ℕ) where
  printed : (e rest : List ℕ) → ((s ++ x) ++ ((b ++ y) ++ ((c ++ z) ++ ((n ++ i) ++ ((p ++ a) ++ e))))) ++ rest ≡ s ++ (x ++ (b ++ (y ++ (c ++ (z ++ (n ++ (i ++ (p ++ (a ++ (e ++ rest))))))))))
  printed e rest = simp append_assoc

  joined : (rest : List ℕ) → (s ++ (x ++ (b ++ (y ++ (c ++ (z ++ (n ++ (i ++ (p ++ a))))))))) ++ rest ≡ s ++ (x ++ (b ++ (y ++ (c ++ (z ++ (n ++ (i ++ (p ++ (a ++ rest)))))))))
  joined rest = simp append_assoc

module _ (x y z n at : ℕ) (hx : x ≤ 65535) (hy : y ≤ 65535) (hz : z ≤ 65535) where
  abbrev comment : List ℕ
  comment = text " number " ++ (decimal n ++ (text ", byte " ++ decimal at))

  abbrev shot-text : List ℕ
  shot-text = text "shot" ++ (32 ∷ (decimal x ++ (32 ∷ (decimal y ++ (32 ∷ (decimal z ++ (32 ∷ 35 ∷ comment)))))))

  shot-free : Free newline shot-text
  unfolding freely
  shot-free =
      free-append (free-tested newline (text "shot") refl)
      (no-pass refl
      (free-append (decimal-newline x)
      (no-pass refl
      (free-append (decimal-newline y)
      (no-pass refl
      (free-append (decimal-newline z)
      (free-append (free-tested newline (text " # number ") refl)
      (free-append (decimal-newline n)
      (free-append (free-tested newline (text ", byte ") refl)
      (decimal-newline at))))))))))

  shot-code : before hash shot-text ≡ text "shot" ++ (32 ∷ (decimal x ++ (32 ∷ (decimal y ++ (32 ∷ (decimal z ++ (32 ∷ [])))))))
  unfolding freely
  shot-code =
      past (decimal x ++ (32 ∷ (decimal y ++ (32 ∷ (decimal z ++ (32 ∷ 35 ∷ comment)))))) (free-tested hash (text "shot") refl)
      (past (decimal y ++ (32 ∷ (decimal z ++ (32 ∷ 35 ∷ comment)))) (decimal-hash x)
      (past (decimal z ++ (32 ∷ 35 ∷ comment)) (decimal-hash y) (ended-comment (decimal z) comment (decimal-hash z))))

  shot-words : words_of (text "shot" ++ (32 ∷ (decimal x ++ (32 ∷ (decimal y ++ (32 ∷ (decimal z ++ (32 ∷ [])))))))) ≡ text "shot" ∷ decimal x ∷ decimal y ∷ decimal z ∷ []
  unfolding freely
  shot-words =
      word-printed (text "shot") (decimal x ++ (32 ∷ (decimal y ++ (32 ∷ (decimal z ++ (32 ∷ [])))))) (free-tested blank (text "shot") refl) (omega arith)
      ∙ ap (λ l. text "shot" ∷ l)
      (word-printed (decimal x) (decimal y ++ (32 ∷ (decimal z ++ (32 ∷ [])))) (decimal-blank x) (decimal-some x)
      ∙ ap (λ l. decimal x ∷ l)
      (word-printed (decimal y) (decimal z ++ (32 ∷ [])) (decimal-blank y) (decimal-some y)
      ∙ ap (λ l. decimal y ∷ l) (last-spaced z)))

  shot-says : line_entry shot-text ≡ Ok (Shot x y z)
  unfolding same command_of commanded entry_of
  shot-says = ap (λ l. entry_of (words_of l)) shot-code ∙ (ap entry_of shot-words ∙ shot-printed x y z hx hy hz)

  pub shot-line : (rest : List ℕ) → Line (shot_line (record { first = x; second = y; third = z }) n at ++ rest) rest (Shot x y z)
  unfolding shot_line
  shot-line rest =
      record {
        line = shot-text;
        first = ap lines_of (printed (text "shot ") (decimal x) (text " ") (decimal y) (text " ") (decimal z) (text " # number ") (decimal n) (text ", byte ") (decimal at) (text "\n") rest ∙ sym (joined (text "shot ") (decimal x) (text " ") (decimal y) (text " ") (decimal z) (text " # number ") (decimal n) (text ", byte ") (decimal at) (10 ∷ rest))) ∙ line-printed shot-text rest shot-free;
        says = shot-says;
      }
