-- A test of all patterns, or of all figures, that is computed once holds at each.
use mathlib.Core.Path.{◌≡◌, refl, subst, fun_ext}
use mathlib.Core.Bool.{Bool, true, false, ◌&&◌}
use lib.Dec.{T}
use Rattle.ground.proofs.Bools.{and_left, and_right}
use Rattle.ground.proofs.Cases.{each_four, each_four-at}
use Rattle.lattice.specs.Pattern.{Pattern}
use Rattle.lattice.specs.Figures.{Figure, Volume, Area, EdgeLength, InnerLength}

-- two layers of four cells make a pattern
abbrev layers : (Bool → Bool → Bool) → (Bool → Bool → Bool) → Pattern
layers l h false = l
layers l h true = h

layers-of : (p : Pattern) (a : Bool) → layers (p false) (p true) a ≡ p a
layers-of p false = refl
layers-of p true = refl

abbrev pub each_pattern : (Pattern → Bool) → Bool
each_pattern f = each_four λ l. each_four λ h. f (layers l h)

pub each_pattern-at : (f : Pattern → Bool) → T (each_pattern f) → (p : Pattern) → T (f p)
each_pattern-at f t p =
    subst (λ (r : Pattern). T (f r)) (fun_ext (layers-of p))
    (each_four-at (λ h. f (layers (p false) h)) (each_four-at (λ l. each_four λ h. f (layers l h)) t (p false)) (p true))

-- the figures
pub by-figure : (P : Figure → Type 0) → P Volume → P Area → P EdgeLength → P InnerLength → (f : Figure) → P f
by-figure P v a e i Volume = v
by-figure P v a e i Area = a
by-figure P v a e i EdgeLength = e
by-figure P v a e i InnerLength = i

abbrev pub each_figure : (Figure → Bool) → Bool
each_figure g = g Volume && (g Area && (g EdgeLength && g InnerLength))

pub each_figure-at : (g : Figure → Bool) → T (each_figure g) → (f : Figure) → T (g f)
each_figure-at g t =
    let lengths : Bool = g EdgeLength && g InnerLength in
    let past-volume : T (g Area && lengths) = and_right (g Volume) (g Area && lengths) t in
    let past-area : T lengths = and_right (g Area) lengths past-volume in
    by-figure (λ f. T (g f)) (and_left (g Volume) (g Area && lengths) t) (and_left (g Area) lengths past-volume)
    (and_left (g EdgeLength) (g InnerLength) past-area) (and_right (g EdgeLength) (g InnerLength) past-area)
