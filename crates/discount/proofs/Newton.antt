-- The root of a whole number, rounded down, by Newton's steps: a step from any number above 0 is not below it, and a step from above it falls. Assumes nothing.
use mathlib.Core.Path.{◌≡◌, ap}
use Prim.Native.Nat.{ℕ, suc, ◌+◌, ◌-◌, ◌*◌, ◌/◌, ◌<◌, ◌≤◌}
use native.Mathlib.Nat.{mul-le-mul, mul-le-mul_right, div-lt_iff_lt-mul, lt-suc_self, div-le_self, le_of_lt, lt_of_not-le, pos_of_ne-zero}
use native.Mathlib.Decide.{dec_le}
use native.Mathlib.Omega.{arith}
use Rattle.discount.specs.Discount.{square}

-- twice a product is at most the sum of the squares
at_distance : (a d : ℕ) → 2 * (a * (a + d)) ≤ square a + square (a + d)
at_distance a d = omega arith

product_le : (a b : ℕ) → 2 * (a * b) ≤ square a + square b
product_le a b = either (dec_le a b)
  where
    ordered : (a b : ℕ) → a ≤ b → 2 * (a * b) ≤ square a + square b
    ordered a b h = let e : b ≡ a + (b - a) = omega arith in rw e (at_distance a (b - a))

    either : Dec (a ≤ b) → 2 * (a * b) ≤ square a + square b
    either (yes h) = ordered a b h
    either (no f) = omega (arith, ordered b a (le_of_lt (lt_of_not-le f)))

pub step_above : (n r s : ℕ) → 0 < r → s ≡ (r + n / r) / 2 → n < square (s + 1)
step_above n r s h e =
    let next : n < suc (n / r) * r = (div-lt_iff_lt-mul h).0 (lt-suc_self (n / r)) in
    let twice : (r + n / r + 1) * r ≤ (2 * (s + 1)) * r = mul-le-mul_right r (omega arith) in
    omega (arith, product_le (s + 1) r)

pub root_positive : (n r : ℕ) → n < square r → 0 < r
root_positive n r h = pos_of_ne-zero (λ (z : r ≡ 0). omega (arith, ap (λ (x : ℕ). x * x) z))

pub step_falls : (n r s : ℕ) → n < square r → s ≡ (r + n / r) / 2 → s < r
step_falls n r s h e =
    let less : n / r < r = (div-lt_iff_lt-mul (root_positive n r h)).1 h in
    omega arith

-- a step keeps to the bound of n, and to half of what it came from
pub record Between (least most r : ℕ) : Type 0 where
  pub low : least ≤ r
  pub high : r ≤ most

pub step_between : (n r s least most : ℕ) → n ≤ most → Between (2 * least) most r → s ≡ (r + n / r) / 2 → Between least most s
step_between n r s least most h b e =
    let low = b.low in
    let high = b.high in
    record { low = omega arith; high = omega (arith, div-le_self n r) }

pub ruleset steps = (div-le_self, mul-le-mul, root_positive, step_above, step_falls)
