-- Boxes: the cell that ends at a point, and the field that boxes stay in.
use mathlib.Core.Path.{◌≡◌, sym, ◌∙◌, ap, ap₂}
use mathlib.Core.Bool.{false, ◌&&◌, and-false}
use mathlib.Core.List.{List}
use Prim.Native.Nat.{ℕ, zero, suc, ◌<◌}
use native.Mathlib.Omega.{arith}
use lib.Dec.{T, leb, ltb, ltb→lt, leb-suc-suc, leb-suc-zero}
use Rattle.ground.specs.Numbers.{any_to}
use Rattle.ground.proofs.Bools.{and-elim}
use Rattle.ground.proofs.AnyLaws.{any-to-ext, any-to-none, any-to-some}
use Rattle.lattice.specs.Cells.{Within, below}
use Rattle.lattice.specs.Boxes.{Box, lies, box_covers, box_at, box_cells, BoxIn}

-- ---- the cell that ends at a point
lies-ends : (a b i : ℕ) → lies a b i ≡ (ltb a (suc i) && leb (suc i) b)
lies-ends a b i = ap (λ c. c && ltb i b) (sym (leb-suc-suc a i))

nothing_ends : (a b : ℕ) → (ltb a 0 && leb 0 b) ≡ false
nothing_ends a b = ap (λ c. c && leb 0 b) (leb-suc-zero a)

pub below-boxes : (b : List ℕ) (n x y z : ℕ) → below (box_cells b n) x y z
    ≡ any_to n (λ q. (ltb (box_at b q).x x && leb x (box_at b q).x_end)
    && ((ltb (box_at b q).y y && leb y (box_at b q).y_end) && (ltb (box_at b q).z z && leb z (box_at b q).z_end)))
below-boxes b n zero y z = sym (any-to-none n (λ q l. rw (nothing_ends (box_at b q).x (box_at b q).x_end)))
below-boxes b n (suc i) zero z = sym (any-to-none n (λ q l. rw (nothing_ends (box_at b q).y (box_at b q).y_end) (and-false (ltb (box_at b q).x (suc i) && leb (suc i) (box_at b q).x_end))))
below-boxes b n (suc i) (suc j) zero = sym (any-to-none n (λ q l. rw (nothing_ends (box_at b q).z (box_at b q).z_end)
    (ap (λ c. (ltb (box_at b q).x (suc i) && leb (suc i) (box_at b q).x_end) && c) (and-false (ltb (box_at b q).y (suc j) && leb (suc j) (box_at b q).y_end))
    ∙ and-false (ltb (box_at b q).x (suc i) && leb (suc i) (box_at b q).x_end))))
below-boxes b n (suc i) (suc j) (suc k) = any-to-ext n (λ q l.
    ap₂ ◌&&◌ (lies-ends (box_at b q).x (box_at b q).x_end i) (ap₂ ◌&&◌ (lies-ends (box_at b q).y (box_at b q).y_end j) (lies-ends (box_at b q).z (box_at b q).z_end k)))

-- ---- boxes that stay in a field have all their cells in it
lies-end : (a b i : ℕ) → T (lies a b i) → i < b
lies-end a b i t = ltb→lt i b (and-elim (leb a i) (ltb i b) t).1

pub boxes-within : (n : ℕ) (b : List ℕ) (m : ℕ) → ((q : ℕ) → q < m → BoxIn n (box_at b q)) → Within n (box_cells b m)
boxes-within n b m h i j k t =
    let r = any-to-some m (λ q. box_covers (box_at b q) i j k) t in
    let o : Box = box_at b r.0 in
    let s = h r.0 r.1 in
    let cx = and-elim (lies o.x o.x_end i) (lies o.y o.y_end j && lies o.z o.z_end k) r.2 in
    let cy = and-elim (lies o.y o.y_end j) (lies o.z o.z_end k) cx.1 in
    let hx = lies-end o.x o.x_end i cx.0 in
    let hy = lies-end o.y o.y_end j cy.0 in
    let hz = lies-end o.z o.z_end k cy.1 in
    (omega (arith, s.x_in), omega (arith, s.y_in), omega (arith, s.z_in))
