-- When an interval of an axis meets a span, and how many intervals do.
use Rattle.std.proofs.Common.{◌≡◌, ℕ, ◌+◌, ◌-◌, ◌*◌, ◌%◌, ◌<◌, ◌≤◌, Bool, true, false, ◌&&◌, leb, refl, ap, ◌∙◌, add-mul, mul-le-mul, one-mul, arith, w32, Fits, leb-false, leb-true}
use borrow.Author.Tests.{lt-leb}
use Rattle.ground.proofs.Tests.{leb-alike}
use Rattle.grid.specs.Grid.{meets}

-- a 16-bit number and one up to 2 ^ 16 have a 32-bit product
pub product-fits : (a b : ℕ) → a ≤ 65536 → b ≤ 65535 → Fits w32 (a * b)
product-fits a b h k = record { fits = omega (arith, mul-le-mul {n₁ = a} {m₁ = b} {n₂ = 65536} {m₂ = 65535} h k) }

-- the difference of two 32-bit numbers, modulo 2 ^ 32, and the second are the first
wrapped-back : (x y : ℕ) → x < 4294967296 → y < 4294967296 → ((x + (4294967296 - y)) % 4294967296 + y) % 4294967296 ≡ x
wrapped-back x y h k = omega arith

-- the difference d of where a span ends and where an interval begins, modulo 2 ^ 32, tells whether they meet
module _ (s g c e : ℕ) (hs : s ≤ 65535) (hg : g ≤ 65535) (hc : c ≤ 65535) (he : e ≤ 65535) where
  few : g * s ≤ 4294836225
  few = mul-le-mul {n₁ = g} {m₁ = s} {n₂ = 65535} {m₂ = 65535} hg hs

  next : (g + 1) * s ≡ g * s + s
  next = add-mul g 1 s ∙ ap (λ (n : ℕ). g * s + n) (one-mul s)

  meets-by : (d : ℕ) → d < 4294967296 → (d + g * s) % 4294967296 ≡ c + e → leb d (s + e) ≡ meets s g c e
  unfolding meets
  meets-by d hd w = one (leb (g * s) (c + e)) refl
    where
      one : (t : Bool) → leb (g * s) (c + e) ≡ t → leb d (s + e) ≡ (t && leb c ((g + 1) * s))
      one true k =
          let l = leb-true (g * s) (c + e) k in
          leb-alike d (s + e) c ((g + 1) * s) (λ h. omega (arith, next, few)) (λ h. omega (arith, next, few))
      one false k = let l = leb-false (g * s) (c + e) k in lt-leb d (s + e) (omega (arith, few))

  pub meets-wrapped : leb ((c + e + (4294967296 - g * s)) % 4294967296) (s + e) ≡ meets s g c e
  meets-wrapped = meets-by ((c + e + (4294967296 - g * s)) % 4294967296) (omega arith) (wrapped-back (c + e) (g * s) (omega arith) (omega (arith, few)))
