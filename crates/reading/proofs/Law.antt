-- The theorem `EveryReading`: the millimetres of x are the one integer n with n ≤ 1000 * x < n + 1. Assumes nothing.
use mathlib.Core.Path.{◌≡◌, refl, sym, ap, subst, ◌∙◌}
use Prim.Native.Nat.{ℕ, zero, suc, ◌*◌, ◌/◌, ◌≤◌, ◌<◌}
use native.Mathlib.Nat.{le-div_iff_mul-le, div-lt_iff_lt-mul, div-eq_of_lt-le, le_refl}
use native.Mathlib.Numerals.{add-one}
use native.Mathlib.Omega.{arith}
use mathlib.Core.Bool.{true}
use lib.IntN.{ℤ, pos, negsuc, neg_ℤ, suc_ℤ, ◌*ℤ◌}
use lib.Signed.{le_z, lt_z, shr_z}
use lib.Dec.{T, leb, leb→le, le→leb, leb-zero, ltb→lt, lt→ltb}
use Rattle.reading.specs.Metres.{numerator, denominator, mm, EveryReading}
use Rattle.reading.proofs.Order.{neg_neg, times, denominator_pos}

-- -a - 1 < -b is b ≤ a
neg_lt : (a b : ℕ) → lt_z (negsuc a) (neg_ℤ (pos b)) ≡ leb b a
neg_lt a zero = sym (leb-zero a)
neg_lt a (suc b) = refl

-- no natural number is below -b
pos_lt_neg : (a b : ℕ) → T (lt_z (pos a) (neg_ℤ (pos b))) → ⊥
pos_lt_neg a zero h = let k = ltb→lt a 0 h in omega arith
pos_lt_neg a (suc b) h = h

-- (-k - 1) + 1 is -k
next : (k d : ℕ) → suc_ℤ (negsuc k) *ℤ pos d ≡ neg_ℤ (pos (k * d))
next zero d = times true zero d
next (suc k) d = refl

below_next : (a k d : ℕ) → lt_z (negsuc a) (suc_ℤ (negsuc k) *ℤ pos d) ≡ leb (k * d) a
below_next a k d = ap (lt_z (negsuc a)) (next k d) ∙ neg_lt a (k * d)

module _ (d : ℕ) (D : 0 < d) where
  div_lo : (a : ℕ) → a / d * d ≤ a
  div_lo a = (le-div_iff_mul-le D).0 (le_refl (a / d))

  div_hi : (a : ℕ) → a < suc (a / d) * d
  div_hi a = (div-lt_iff_lt-mul D).0 (le_refl (suc (a / d)))

  lo : (a : ℤ) → T (le_z (shr_z a d *ℤ pos d) a)
  lo (pos a) = le→leb (a / d * d) a (div_lo a)
  lo (negsuc a) = subst T (sym (neg_neg (suc (a / d) * d) (suc a))) (le→leb (suc a) (suc (a / d) * d) (div_hi a))

  hi : (a : ℤ) → T (lt_z a (suc_ℤ (shr_z a d) *ℤ pos d))
  hi (pos a) = lt→ltb a (suc (a / d) * d) (div_hi a)
  hi (negsuc a) = subst T (sym (below_next a (a / d) d)) (le→leb (a / d * d) a (div_lo a))

  quotient : (a k : ℕ) → k * d ≤ a → a < suc k * d → k ≡ a / d
  quotient a k h g = sym (div-eq_of_lt-le d h (subst (λ (i : ℕ). a < i * d) (sym (add-one k)) g))

  only : (a n : ℤ) → T (le_z (n *ℤ pos d) a) → T (lt_z a (suc_ℤ n *ℤ pos d)) → n ≡ shr_z a d
  only (pos a) (pos k) h g = ap pos (quotient a k (leb→le (k * d) a h) (ltb→lt a (suc k * d) g))
  only (negsuc a) (pos k) h g = absurd h
  only (pos a) (negsuc k) h g = absurd (pos_lt_neg a (k * d) (subst (λ (z : ℤ). T (lt_z (pos a) z)) (next k d) g))
  only (negsuc a) (negsuc k) h g =
      ap negsuc
      (quotient a k
      (leb→le (k * d) a (subst T (below_next a k d) g))
      (leb→le (suc a) (suc k * d) (subst T (neg_neg (suc k * d) (suc a)) h)))

pub every_reading : EveryReading
unfolding mm
every_reading =
    record {
      denominator = λ x _. denominator_pos x;
      floor = λ x _.
          let a = pos 1000 *ℤ numerator x in
          record { not_above = record { le = lo (denominator x) (denominator_pos x) a }; next_above = record { lt = hi (denominator x) (denominator_pos x) a } };
      only = λ x n _ f. only (denominator x) (denominator_pos x) (pos 1000 *ℤ numerator x) n f.not_above.le f.next_above.lt;
    }
