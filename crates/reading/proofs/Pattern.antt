-- The bit pattern of a level: the bits of its exponent and of its fraction give its exact size. Assumes nothing.
use mathlib.Core.Path.{◌≡◌, refl, sym, ap, ◌∙◌, subst}
use Prim.Native.Nat.{ℕ, zero, suc, ◌+◌, ◌-◌, ◌*◌, ◌/◌, ◌%◌, ◌^◌, ◌≤◌, ◌<◌}
use native.Mathlib.Nat.{le_trans, le_of_eq, lt_of_lt_of_le, lt_of_le_of_lt, lt_of_not-le, lt_irrefl, mul_assoc, mul_right_comm, mul-one, mul-le-mul_right}
use native.Mathlib.Nat.{lt_of_mul-lt-mul_right, mul-lt-mul_of_pos_right, eq_of_mul-eq-mul_right}
use native.Mathlib.Omega.{arith}
use mathlib.Core.Bool.{Bool, true, false, not, cond, false≢true}
use lib.Dec.{T, leb, eqb}
use lib.Pow.{pow-add, pow_pos, pow_mono}
use lib.IntN.{ℤ, pos, negsuc, neg_ℤ, nat_abs, ◌*ℤ◌}
use lib.Signed.{le_z}
use lib.Ieee.{Float, nan, inf, fin, binary32, up, odd, fits, is_nan, of_fields, of_bits, to_bits}
use lib.Ieee.Bits.{of_bits-to_bits}
use lib.Ieee.Exact.{HasValue, odd_sign}
use borrow.Author.Tests.{leb-true}
use Rattle.words.specs.Bits.{bits}
use Rattle.words.proofs.Signed.{size_neg}
use Rattle.reading.specs.Metres.{is_finite, numerator, denominator, lowest_level, highest_level, in_level}
use Rattle.reading.proofs.Order.{denominator_pos, level_inside, at_least}

pub no_nan : (x : Float) → in_level x ≡ true → T (not (is_nan x))
unfolding is_nan in_level
no_nan nan h = absurd (false≢true h)
no_nan (inf s) h = tt
no_nan (fin s m e) h = tt

-- a level's size is below 2 ^ 12
sized : (z : ℤ) (d : ℕ) → 0 < d → le_z (neg_ℤ (pos lowest_level) *ℤ pos d) z ≡ true → le_z z (pos highest_level *ℤ pos d) ≡ true → nat_abs z < 2 ^ 12 * d
sized (pos a) d D l h = let k = leb-true a (highest_level * d) h in omega arith
sized (negsuc a) d D l h = omega (arith, at_least d lowest_level a l)

-- of a float that has the value a / c
cross : (x : Float) (s : Bool) (a c : ℕ) → HasValue x s a c → nat_abs (numerator x) * c ≡ a * denominator x
cross nan s a c h = absurd h
cross (inf t) s a c h = absurd h
cross (fin false m e) s a c h = h.1
cross (fin true m e) s a c h = ap (λ (i : ℕ). i * c) (size_neg (pos (m * up e))) ∙ h.1

-- ---- the size n / d is q * 2 ^ j units of 2 ^ -149
pow_lt_back : (i p : ℕ) → 2 ^ i < 2 ^ p → i < p
pow_lt_back i p h = lt_of_not-le (λ (g : p ≤ i). lt_irrefl (2 ^ i) (lt_of_lt_of_le h (pow_mono g)))

module _ (n d q j : ℕ) (D : 0 < d) (v : n * 2 ^ 149 ≡ q * 2 ^ j * d) where
  -- with a leading digit and below 2 ^ 12, j is below 138
  places_most : n < 2 ^ 12 * d → 2 ^ 23 ≤ q → j < 138
  places_most h Q =
      let u : n * 2 ^ 149 < 2 ^ 12 * 2 ^ 149 * d = lt_of_lt_of_le (mul-lt-mul_of_pos_right h (pow_pos 149)) (le_of_eq (mul_right_comm (2 ^ 12) d (2 ^ 149))) in
      let a : q * 2 ^ j < 2 ^ 12 * 2 ^ 149 = lt_of_mul-lt-mul_right d (lt_of_le_of_lt (le_of_eq (sym v)) u) in
      let b : 2 ^ (23 + j) < 2 ^ 161 = lt_of_le_of_lt (le_trans (le_of_eq (pow-add 2 23 j)) (mul-le-mul_right (2 ^ j) Q)) a in
      let c = pow_lt_back (23 + j) 161 b in
      omega arith

  -- so n / d is q / 2 ^ k, k = 149 - j
  parted : (k : ℕ) → k + j ≡ 149 → n * 2 ^ k ≡ q * d
  parted k e =
      eq_of_mul-eq-mul_right (2 ^ j) (pow_pos j) (n * 2 ^ k) (q * d)
      (mul_assoc n (2 ^ k) (2 ^ j) ∙ ap (λ (i : ℕ). n * i) (sym (pow-add 2 k j) ∙ ap (λ (i : ℕ). 2 ^ i) e) ∙ v ∙ mul_right_comm q (2 ^ j) d)

-- ---- by the fields: the exponent's, 0 or j + 1, and the fraction's, t
abbrev Units : Float → ℕ → Type 0
Units x n = nat_abs (numerator x) * 2 ^ 149 ≡ n * denominator x

low_field : (s : Bool) (t : ℕ) → Units (of_fields binary32 s 0 t) t
unfolding of_fields
low_field s t = let v = odd 24 s t 0 149 in subst (λ (n : ℕ). Units v n) (mul-one t) (cross v s (t * 2 ^ 0) (2 ^ 149) (odd_sign 24 s t 0 149))

-- what is finite has no exponent of ones
no_top : (a b s : Bool) (v : Float) → is_finite (cond a (cond b (inf s) nan) v) ≡ true → cond a (cond b (inf s) nan) v ≡ v
no_top true true s v f = absurd (false≢true f)
no_top true false s v f = absurd (false≢true f)
no_top false b s v f = refl

full_field : (s : Bool) (j t : ℕ) → is_finite (of_fields binary32 s (suc j) t) ≡ true → Units (of_fields binary32 s (suc j) t) ((2 ^ 23 + t) * 2 ^ j)
unfolding of_fields
full_field s j t f =
    let q = 2 ^ 23 + t in
    let v = odd 24 s q j 149 in
    subst (λ (x : Float). Units x (q * 2 ^ j)) (sym (no_top (eqb (suc j) 255) (eqb t 0) s v f)) (cross v s (q * 2 ^ j) (2 ^ 149) (odd_sign 24 s q j 149))

-- ---- a float's parts: without its sign it is exactly mantissa / 2 ^ places, and the mantissa has at most 24 binary digits
pub record Decomposed (x : Float) (mantissa places : ℕ) : Type 0 where
  pub value : nat_abs (numerator x) * 2 ^ places ≡ mantissa * denominator x
  pub small : mantissa < 2 ^ 24

-- the parts of a float without its sign below a millimetre
pub record Tiny (x : Float) : Type 0 where
  pub mantissa : ℕ
  pub places : ℕ
  pub parted : Decomposed x mantissa places
  pub below : 1000 * mantissa < 2 ^ places

-- with more places than 1000 times the mantissa has binary digits
tiny_by : (x : Float) (q k : ℕ) → Decomposed x q k → 34 ≤ k → Tiny x
tiny_by x q k p h =
    let s = p.small in
    let l : 1000 * q < 2 ^ 34 = omega arith in
    record { mantissa = q; places = k; parted = p; below = lt_of_lt_of_le l (pow_mono h) }

-- ---- what `mm_above_lowest` cites, of a level x that the format holds, and of the bits e and t of its pattern
module _ (x : Float) (F : T (fits binary32 x)) (L : in_level x ≡ true) (e t : ℕ) (E : e ≡ bits (to_bits binary32 x) 30 23) (S : t ≡ bits (to_bits binary32 x) 22 0) where
  abbrev sign : Bool
  sign = leb (2 ^ 31) (to_bits binary32 x)

  x_is : x ≡ of_fields binary32 sign e t
  unfolding of_bits
  x_is =
      let b = to_bits binary32 x in
      let p : b % 2 ^ 31 / 2 ^ 23 ≡ e = omega arith in
      let q : b % 2 ^ 23 ≡ t = omega arith in
      sym (of_bits-to_bits binary32 x F) ∙ ap (λ (i : ℕ). of_fields binary32 sign i (b % 2 ^ 23)) p ∙ ap (of_fields binary32 sign e) q

  t_lt : t < 2 ^ 23
  t_lt = omega arith

  low_parted : e ≡ 0 → Decomposed x t 149
  low_parted z =
      let is : x ≡ of_fields binary32 sign 0 t = x_is ∙ ap (λ (i : ℕ). of_fields binary32 sign i t) z in
      record { value = subst (λ (y : Float). Units y t) (sym is) (low_field sign t); small = omega (arith, t_lt) }

  pub full_parted : (e ≡ 0 → ⊥) → (e ≤ 138) × Decomposed x (t + 2 ^ 23) (150 - e)
  full_parted n =
      let j = e - 1 in
      let q = 2 ^ 23 + t in
      let is : x ≡ of_fields binary32 sign (suc j) t = x_is ∙ ap (λ (i : ℕ). of_fields binary32 sign i t) (omega arith) in
      let i = level_inside x L in
      let v = subst (λ (y : Float). Units y (q * 2 ^ j)) (sym is) (full_field sign j t (subst (λ (y : Float). is_finite y ≡ true) is i.finite)) in
      let J : j < 138 = places_most (nat_abs (numerator x)) (denominator x) q j (denominator_pos x) v (sized (numerator x) (denominator x) (denominator_pos x) i.least i.most) (omega arith) in
      let w = parted (nat_abs (numerator x)) (denominator x) q j (denominator_pos x) v (150 - e) (omega arith) in
      let same : q ≡ t + 2 ^ 23 = omega arith in
      (omega arith, subst (λ (m : ℕ). Decomposed x m (150 - e)) same (record { value = w; small = omega (arith, t_lt) }))

  pub tiny : e < 87 → Tiny x
  tiny h = go e refl
    where
      go : (n : ℕ) → e ≡ n → Tiny x
      go zero z = tiny_by x t 149 (low_parted z) (omega arith)
      go (suc n) z = tiny_by x (t + 2 ^ 23) (150 - e) (full_parted (λ (o : e ≡ 0). omega arith)).1 (omega arith)
