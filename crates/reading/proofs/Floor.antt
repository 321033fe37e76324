-- A level's millimetres by its parts: what `mm_above_lowest` works out. Assumes nothing.
use mathlib.Core.Path.{◌≡◌, refl, sym, ap, ◌∙◌}
use Prim.Native.Nat.{ℕ, zero, suc, ◌+◌, ◌-◌, ◌*◌, ◌/◌, ◌^◌, ◌≤◌, ◌<◌}
use native.Mathlib.Nat.{mul_assoc, mul_right_comm, le-div_iff_mul-le, div-lt_iff_lt-mul, le_refl, le_antisymm, mul-lt-mul_of_pos_right, lt_of_mul-lt-mul_right, lt_of_lt_of_le, lt_of_le_of_lt}
use native.Mathlib.Nat.{le_of_eq, div-eq_of_lt}
use native.Mathlib.Omega.{arith}
use mathlib.Core.Bool.{true, false, not, false≢true}
use lib.IntN.{ℤ, pos, negsuc, neg_ℤ, nat_abs, ◌+ℤ◌, ◌*ℤ◌}
use lib.Signed.{le_z, shr_z}
use lib.Pow.{pow_pos}
use lib.Ieee.{Float, binary32, lt, of_bits}
use lib.Ieee.Nearest.{div_same}
use borrow.Author.Tests.{leb-true, leb-false}
use Rattle.words.proofs.Signed.{diff_is}
use Rattle.reading.specs.Metres.{numerator, denominator, lowest_level, highest_level, lowest_mm, in_level, mm}
use Rattle.reading.proofs.Order.{denominator_pos, level_inside, at_least, not_lt_whole}
use Rattle.reading.proofs.Pattern.{Decomposed, Tiny}

-- ---- a / d and b / p are one fraction: then so are the whole numbers just below them
module _ (a b d p : ℕ) (D : 0 < d) (P : 0 < p) (v : a * p ≡ b * d) where
  below_same : (c : ℕ) → c * d < a → c * p < b
  below_same c h = lt_of_mul-lt-mul_right d (lt_of_le_of_lt (le_of_eq (mul_right_comm c p d)) (lt_of_lt_of_le (mul-lt-mul_of_pos_right h P) (le_of_eq v)))

  positive_same : 0 < a → 0 < b
  positive_same h = let k : 0 * p < b = below_same 0 (omega arith) in omega arith

  less_one : 0 < a → (a - 1) / d ≤ (b - 1) / p
  less_one A =
      let c = (a - 1) / d in
      let h : c * d ≤ a - 1 = (le-div_iff_mul-le D).0 (le_refl c) in
      let k : c * p < b = below_same c (omega arith) in
      (le-div_iff_mul-le P).1 (omega arith)

just_below : (a b d p : ℕ) → 0 < d → 0 < p → a * p ≡ b * d → 0 < a → (a - 1) / d ≡ (b - 1) / p
just_below a b d p D P v A = le_antisymm (less_one a b d p D P v A) (less_one b a p d P D (sym v) (positive_same a b d p D P v A))

-- ---- a fraction z / d of the size q / 2 ^ k: 1,000 times it, rounded down, and the lowest level's more
pub record Below (z : ℤ) (d q k : ℕ) : Type 0 where
  pub positive : 0 < 1000 * q
  pub small : (1000 * q - 1) / 2 ^ k ≤ lowest_mm - 1
  pub raised : pos (lowest_mm - 1 - (1000 * q - 1) / 2 ^ k) ≡ shr_z (pos 1000 *ℤ z) d +ℤ pos lowest_mm

pub record Above (z : ℤ) (d q k : ℕ) : Type 0 where
  pub small : 1000 * q / 2 ^ k ≤ 1000 * highest_level
  pub raised : pos (lowest_mm + 1000 * q / 2 ^ k) ≡ shr_z (pos 1000 *ℤ z) d +ℤ pos lowest_mm

-- rounded down below zero
shr_neg : (a d : ℕ) → 0 < a → shr_z (neg_ℤ (pos a)) d ≡ negsuc ((a - 1) / d)
shr_neg zero d A = absurd (omega arith)
shr_neg (suc a) d A = ap (λ (i : ℕ). negsuc (i / d)) (omega arith)

module _ (d q k : ℕ) (D : 0 < d) where
  thousand : (n : ℕ) → n * 2 ^ k ≡ q * d → 1000 * n * 2 ^ k ≡ 1000 * q * d
  thousand n v = mul_assoc 1000 n (2 ^ k) ∙ ap (λ (i : ℕ). 1000 * i) v ∙ sym (mul_assoc 1000 q d)

  minus : (z : ℤ) → nat_abs z * 2 ^ k ≡ q * d → le_z (pos 0 *ℤ pos d) z ≡ false → le_z (neg_ℤ (pos lowest_level) *ℤ pos d) z ≡ true → Below z d q k
  minus (pos a) v n h = let k = leb-false (0 * d) a n in absurd (omega arith)
  minus (negsuc a) v n h =
      let most = at_least d lowest_level a h in
      let A : 0 < 1000 * suc a = omega arith in
      let w = thousand (suc a) v in
      let is = just_below (1000 * suc a) (1000 * q) d (2 ^ k) D (pow_pos k) w A in
      let c = (1000 * q - 1) / 2 ^ k in
      let C : (1000 * suc a - 1) / d < lowest_mm = (div-lt_iff_lt-mul D).1 (omega arith) in
      let small : c ≤ lowest_mm - 1 = omega (arith, is) in
      record {
        positive = positive_same (1000 * suc a) (1000 * q) d (2 ^ k) D (pow_pos k) w A;
        small = small;
        raised = sym (diff_is lowest_mm (suc c) (lowest_mm - 1 - c) (omega arith)) ∙ ap (λ (i : ℤ). i +ℤ pos lowest_mm) (ap negsuc (sym is) ∙ sym (shr_neg (1000 * suc a) d A));
      }

  plus : (z : ℤ) → nat_abs z * 2 ^ k ≡ q * d → le_z (pos 0 *ℤ pos d) z ≡ true → le_z z (pos highest_level *ℤ pos d) ≡ true → Above z d q k
  plus (pos a) v n h =
      let most = leb-true a (highest_level * d) h in
      let is : 1000 * a / d ≡ 1000 * q / 2 ^ k = div_same (1000 * a) d (1000 * q) (2 ^ k) D (pow_pos k) (thousand a v) in
      let C : 1000 * a / d < 1000 * highest_level + 1 = (div-lt_iff_lt-mul D).1 (omega arith) in
      record { small = omega (arith, is); raised = ap pos (omega (arith, is)) }
  plus (negsuc a) v n h = absurd (false≢true n)

-- ---- what `mm_above_lowest` cites, of a level x
module _ (x : Float) (q k : ℕ) (P : Decomposed x q k) (L : in_level x ≡ true) where
  -- the test x < 0.0
  tested : not (lt x (of_bits binary32 0)) ≡ le_z (pos 0 *ℤ pos (denominator x)) (numerator x)
  unfolding of_bits
  tested = not_lt_whole x (of_bits binary32 0) (level_inside x L).finite refl refl

  pub below : lt x (of_bits binary32 0) ≡ true → Below (numerator x) (denominator x) q k
  below h = minus (denominator x) q k (denominator_pos x) (numerator x) P.value (sym tested ∙ ap not h) (level_inside x L).least

  pub above : lt x (of_bits binary32 0) ≡ false → Above (numerator x) (denominator x) q k
  above h = plus (denominator x) q k (denominator_pos x) (numerator x) P.value (sym tested ∙ ap not h) (level_inside x L).most

-- less than a millimetre from zero, its millimetres are those of zero, or one less
module _ (x : Float) (t : Tiny x) (L : in_level x ≡ true) where
  pub tiny_below : lt x (of_bits binary32 0) ≡ true → pos (lowest_mm - 1) ≡ mm x +ℤ pos lowest_mm
  unfolding mm
  tiny_below h =
      let b = t.below in
      let z : (1000 * t.mantissa - 1) / 2 ^ t.places ≡ 0 = div-eq_of_lt (omega arith) in
      ap (λ (i : ℕ). pos (lowest_mm - 1 - i)) (sym z) ∙ (below x t.mantissa t.places t.parted L h).raised

  pub tiny_above : lt x (of_bits binary32 0) ≡ false → pos lowest_mm ≡ mm x +ℤ pos lowest_mm
  unfolding mm
  tiny_above h =
      let z : 1000 * t.mantissa / 2 ^ t.places ≡ 0 = div-eq_of_lt t.below in
      ap (λ (i : ℕ). pos (lowest_mm + i)) (sym z) ∙ (above x t.mantissa t.places t.parted L h).raised
