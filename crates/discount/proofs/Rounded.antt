-- From the root of what is just below 10^8 × q / d² to 10,000 × (1 − √q / d), rounded down. Assumes nothing.
use mathlib.Core.Path.{◌≡◌}
use Prim.Native.Nat.{ℕ, ◌+◌, ◌-◌, ◌*◌, ◌/◌, ◌<◌, ◌≤◌}
use native.Mathlib.Nat.{mul-le-mul, mul-le-mul_right, div-lt_iff_lt-mul, le-div_iff_mul-le, lt_of_not-le, le_of_suc-le-suc}
use native.Mathlib.Omega.{arith}
use mir.Val.{Fits}
use mir.Syntax.{w32}
use Rattle.discount.specs.Discount.{square, rounded_down}
use Rattle.discount.specs.Bounds.{root_limit}
use Rattle.discount.proofs.Meaning.{rounded_down_only}

-- what is not above 10^8 × q, over d²
module _ (q d k : ℕ) (h : q < d * d) (le : k ≤ 100000000 * q) where
  pub quotient_small : k / (d * d) < root_limit
  quotient_small = (div-lt_iff_lt-mul {k = d * d} {x = k} {y = root_limit} (omega arith)).1 (omega arith)

  pub quotient_fits : Fits w32 (k / (d * d))
  quotient_fits = omega (arith, quotient_small)

pub root_small : (n r : ℕ) → n < root_limit → r * r ≤ n → r ≤ 9999
root_small n r h low = le_of_suc-le-suc (lt_of_not-le (λ (g : 10000 ≤ r). omega (arith, mul-le-mul g g)))

module _ (q d : ℕ) (h₁ : 0 < q) (h₂ : q < d * d) where
  abbrev quotient : ℕ
  quotient = (100000000 * q - 1) / (d * d)

  positive : 0 < d * d
  positive = omega arith

  module _ (r : ℕ) (low : r * r ≤ quotient) (high : quotient < (r + 1) * (r + 1)) where
    -- r × d is below 10,000 × √q, by the squares, and (r + 1) × d is not
    below : r * r * (d * d) < 100000000 * q
    below = let s : r * r * (d * d) ≤ 100000000 * q - 1 = (le-div_iff_mul-le positive).0 low in omega arith

    not_below : 100000000 * q ≤ (r + 1) * (r + 1) * (d * d)
    not_below = let s : 100000000 * q - 1 < (r + 1) * (r + 1) * (d * d) = (div-lt_iff_lt-mul positive).0 high in omega arith

    falls : (k : ℕ) → k ≤ r → square (k * d) ≤ r * r * (d * d)
    falls k h = let s : k * d ≤ r * d = mul-le-mul_right d h in omega (arith, mul-le-mul s s)

    pub root_rounded : 9999 - r ≡ rounded_down q d
    root_rounded =
        let s = root_small quotient r (quotient_small q d (100000000 * q - 1) h₂ (omega arith)) low in
        let k : 10000 - (9999 - r) ≡ r + 1 = omega arith in
        rounded_down_only q d (9999 - r) (omega arith)
        (record {
          within = omega arith;
          at_least = rw k (omega (arith, not_below));
          above = λ m g₁ g₂. omega (arith, falls (10000 - m) (omega arith), below);
        })

pub ruleset roots = (quotient_small, quotient_fits, root_small, root_rounded)
