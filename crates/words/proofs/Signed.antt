-- Laws of ℤ and of the machine's signed numbers, so that what is left is for `omega`: `nat_abs z` bounds z on both sides by one
-- natural number, and `at_least_0` makes what is subtracted into the difference of natural numbers. Assumes nothing.
use mathlib.Core.Path.{◌≡◌, refl, sym, ap, ap₂, ◌∙◌}
use mathlib.Core.Bool.{Bool, true, false, cond}
use Prim.Native.Nat.{ℕ, zero, suc, ◌+◌, ◌-◌, ◌*◌, ◌^◌, ◌≤◌, ◌<◌}
use native.Mathlib.Nat.{one-mul}
use native.Mathlib.Omega.{arith}
use lib.Dec.{ltb, eqb}
use lib.IntN.{ℤ, pos, negsuc, neg_ℤ, sub_ℕ, nat_abs, ◌+ℤ◌, ◌-ℤ◌}
use lib.Signed.{mag}
use lib.Pow.{pow-add, pow_mono, pow_pos}
use lib.Bits.{bit_xor, xor_comm, xor_self, xor_zero_r, xor_shifted, xor_block}
use mir.Syntax.{Width, w32}
use mir.Val.{SFits, hbits, to_z, of_z}
use mir.Facts.{to_z-of_z, to_z_pos}
use borrow.Author.Tests.{ltb-true, ltb-false, lt-ltb, le-ltb, eqb-true, eqb-false}
use Rattle.words.specs.Bits.{twos_complement, at_least_0}

-- by the two cases of a test, each with its equation
pub by_test {ℓ κ} : {A : Type ℓ} (P : A → Type κ) (c : Bool) (x y : A) → (c ≡ true → P x) → (c ≡ false → P y) → P (cond c x y)
by_test P true x y f g = f refl
by_test P false x y f g = g refl

pub by_less : {C : Type 0} (a b : ℕ) → (a < b → C) → (b ≤ a → C) → C
by_less {C} a b less more = by_test (λ (s : Bool). C) (ltb a b) true false (λ e. less (ltb-true a b e)) (λ e. more (ltb-false a b e))

pub by_equal : {C : Type 0} (a b : ℕ) → (a ≡ b → C) → ((a ≡ b → ⊥) → C) → C
by_equal {C} a b same other = by_test (λ (s : Bool). C) (eqb a b) true false (λ e. same (eqb-true a b e)) (λ e. other (eqb-false a b e))

-- ---- bounds: nat_abs
size_sub : (a b : ℕ) → nat_abs (sub_ℕ a b) ≡ (a - b) + (b - a)
size_sub a b =
    by_test (λ z. nat_abs z ≡ (a - b) + (b - a)) (ltb a b) (negsuc (b - suc a)) (pos (a - b)) (λ e. omega (arith, ltb-true a b e)) (λ e. omega (arith, ltb-false a b e))

-- of the difference of two natural numbers
pub size_diff : (a b : ℕ) → nat_abs (pos a -ℤ pos b) ≡ (a - b) + (b - a)
size_diff a zero = omega arith
size_diff a (suc b) = size_sub a (suc b)

pub size_neg : (x : ℤ) → nat_abs (neg_ℤ x) ≡ nat_abs x
size_neg (pos zero) = refl
size_neg (pos (suc n)) = refl
size_neg (negsuc n) = refl

pub size_add : (x y : ℤ) → nat_abs (x +ℤ y) ≤ nat_abs x + nat_abs y
size_add (pos a) (pos b) = omega arith
size_add (pos a) (negsuc b) = omega (arith, size_sub a (suc b))
size_add (negsuc a) (pos b) = omega (arith, size_sub b (suc a))
size_add (negsuc a) (negsuc b) = omega arith

pub size_minus : (x y : ℤ) → nat_abs (x -ℤ y) ≤ nat_abs x + nat_abs y
size_minus x y = omega (arith, size_add x (neg_ℤ y), size_neg y)

size_mag : (z : ℤ) → mag z ≤ nat_abs z
size_mag (pos n) = omega arith
size_mag (negsuc n) = omega arith

pub sfits_size : {w : Width} {z : ℤ} → nat_abs z < 2 ^ hbits w → SFits w z
sfits_size {w} {z} h = record { sfits = omega (arith, size_mag z) }

-- ---- what a signed operation asks, and what is read back from its result. A local holds bits: x' is what is read back from them, `to_z w n`, and x the number that this is
-- the result of a call, where it is z
pub call_reads : (w : Width) {x' x : ℤ} → mag x' < 2 ^ hbits w → x' ≡ x → to_z w (of_z w x') ≡ x
call_reads w h p = to_z-of_z (record { sfits = h }) ∙ p

module _ (w : Width) {x' : ℤ} (x : ℤ) (p : x' ≡ x) where
  pub cast_fits : nat_abs x < 2 ^ hbits w → SFits w x'
  cast_fits h = rw p (sfits_size h)

  pub cast_reads : nat_abs x < 2 ^ hbits w → to_z w (of_z w x') ≡ x
  cast_reads h = to_z-of_z (cast_fits h) ∙ p

  module _ {y' : ℤ} (y : ℤ) (q : y' ≡ y) (h : nat_abs x + nat_abs y < 2 ^ hbits w) where
    pub add_fits : SFits w (x' +ℤ y')
    add_fits = rw (p, q) (sfits_size (omega (arith, size_add x y)))

    pub add_reads : to_z w (of_z w (x' +ℤ y')) ≡ x +ℤ y
    add_reads = to_z-of_z add_fits ∙ ap₂ (λ a b. a +ℤ b) p q

    pub sub_fits : SFits w (x' -ℤ y')
    sub_fits = rw (p, q) (sfits_size (omega (arith, size_minus x y)))

    pub sub_reads : to_z w (of_z w (x' -ℤ y')) ≡ x -ℤ y
    sub_reads = to_z-of_z sub_fits ∙ ap₂ (λ a b. a -ℤ b) p q

-- ---- not below 0: at_least_0
pub at_least_0_size : (z : ℤ) → at_least_0 z ≤ nat_abs z
unfolding at_least_0
at_least_0_size (pos n) = omega arith
at_least_0_size (negsuc n) = omega arith

at_least_0_sub : (a b : ℕ) → at_least_0 (sub_ℕ a b) ≡ a - b
unfolding at_least_0
at_least_0_sub a b = by_test (λ z. at_least_0 z ≡ a - b) (ltb a b) (negsuc (b - suc a)) (pos (a - b)) (λ e. omega (arith, ltb-true a b e)) (λ e. refl)

pub at_least_0_less : (z : ℤ) (s : ℕ) → at_least_0 (z -ℤ pos s) ≡ at_least_0 z - s
unfolding at_least_0
at_least_0_less (pos m) zero = omega arith
at_least_0_less (pos m) (suc s) = at_least_0_sub m (suc s)
at_least_0_less (negsuc m) zero = at_least_0_sub 0 (suc m) ∙ omega arith
at_least_0_less (negsuc m) (suc s) = omega arith

-- a bound above alone: at_least_0 of a sum. (A bound below alone is at_least_0 of the negative.)
pub at_least_0_add : (x y : ℤ) → at_least_0 (x +ℤ y) ≤ at_least_0 x + at_least_0 y
unfolding at_least_0
at_least_0_add (pos a) (pos b) = omega arith
at_least_0_add (pos a) (negsuc b) = omega (arith, at_least_0_sub a (suc b))
at_least_0_add (negsuc a) (pos b) = omega (arith, at_least_0_sub b (suc a))
at_least_0_add (negsuc a) (negsuc b) = omega arith

-- ---- differences of natural numbers: an equation of them is one for `omega`
diff_sub : (a b : ℕ) → pos a -ℤ pos b ≡ sub_ℕ a b
diff_sub a zero =
    by_test (λ z. pos (a + 0) ≡ z) (ltb a 0) (negsuc (0 - suc a)) (pos (a - 0)) (λ e. absurd (omega (arith, ltb-true a 0 e))) (λ e. ap pos (omega arith))
diff_sub a (suc b) = refl

pub sub_same : (a b c d : ℕ) → a + d ≡ c + b → sub_ℕ a b ≡ sub_ℕ c d
sub_same a b c d h =
    by_test (λ z. z ≡ sub_ℕ c d) (ltb a b) (negsuc (b - suc a)) (pos (a - b))
    (λ e. by_test (λ z. negsuc (b - suc a) ≡ z) (ltb c d) (negsuc (d - suc c)) (pos (c - d)) (λ f. ap negsuc (omega (arith, ltb-true a b e, ltb-true c d f)))
    (λ f. absurd (omega (arith, ltb-true a b e, ltb-false c d f))))
    (λ e. by_test (λ z. pos (a - b) ≡ z) (ltb c d) (negsuc (d - suc c)) (pos (c - d)) (λ f. absurd (omega (arith, ltb-false a b e, ltb-true c d f)))
    (λ f. ap pos (omega (arith, ltb-false a b e, ltb-false c d f))))

pub diff_same : (a b c d : ℕ) → a + d ≡ c + b → pos a -ℤ pos b ≡ pos c -ℤ pos d
diff_same a b c d h = diff_sub a b ∙ sub_same a b c d h ∙ sym (diff_sub c d)

pub diff_is : (a b c : ℕ) → a ≡ c + b → pos a -ℤ pos b ≡ pos c
diff_is a b c h = diff_same a b c 0 (omega arith) ∙ ap pos (omega arith)

-- ---- x has `width` bits, and h is 2 ^ (width - 1), the highest of them: as a two's complement number x is what it is with that bit inverted,
-- less h
pub record Halved (width x h : ℕ) : Type 0 where
  pub width_fits : (0 < width) × (width < 32)
  pub half : h ≡ 2 ^ (width - 1)
  pub below : x < 2 ^ width

module _ {width x h : ℕ} (s : Halved width x h) where
  whole : 2 ^ width ≡ h + h
  whole =
      let e : width ≡ width - 1 + 1 = omega arith in
      omega (arith, ap (λ (m : ℕ). 2 ^ m) e ∙ pow-add 2 (width - 1) 1)

  small : h ≤ 2 ^ 30
  small = rw s.half (pow_mono {i = width - 1} {j = 30} (omega arith))

  half_reads : to_z w32 h ≡ pos h
  half_reads = to_z_pos w32 (omega (arith, small))

  -- x with its highest bit inverted
  abbrev flipped : ℕ
  flipped = bit_xor x h

  one : h ≡ 1 * 2 ^ (width - 1)
  one = s.half ∙ sym (one-mul (2 ^ (width - 1)))

  up : x < h → flipped ≡ x + h
  up lt =
      let e = s.half in
      xor_comm x h ∙ ap (λ (m : ℕ). bit_xor m x) one ∙ xor_shifted 1 (width - 1) x (omega arith) ∙ omega (arith, one)

  down : h ≤ x → flipped ≡ x - h
  down le =
      let k = width - 1 in
      let e = s.half in
      let apart : x ≡ 1 * 2 ^ k + (x - h) = omega (arith, one) in
      let alone : h ≡ 1 * 2 ^ k + 0 = omega (arith, one) in
      ap₂ bit_xor apart alone ∙ xor_block k 1 1 (x - h) 0 (omega (arith, whole)) (pow_pos k) ∙ ap₂ (λ (a b : ℕ). a * 2 ^ k + b) (xor_self 1) (xor_zero_r (x - h)) ∙ omega arith

  flipped_below : flipped < 2 ^ 31
  flipped_below = by_less x h (λ lt. omega (arith, up lt, small)) (λ le. omega (arith, down le, small, whole))

  pub flipped_fits : SFits w32 (pos flipped)
  flipped_fits = sfits_size flipped_below

  pub half_fits : SFits w32 (pos h)
  half_fits = sfits_size (omega (arith, small))

  -- so without h it is the number
  signed_is : to_z w32 flipped -ℤ to_z w32 h ≡ twos_complement width x
  unfolding twos_complement
  signed_is =
      ap₂ (λ a b. a -ℤ b) (to_z_pos w32 flipped_below) half_reads
      ∙ by_less x h
      (λ lt. diff_is flipped h x (up lt) ∙ simp (← s.half, lt-ltb x h lt))
      (λ le. diff_same flipped h x (2 ^ width) (omega (arith, down le, whole)) ∙ simp (← s.half, le-ltb x h le))

  -- its size is at most h, and above 0 it is below h
  pub signed_size : nat_abs (twos_complement width x) ≤ h
  unfolding twos_complement
  signed_size =
      by_test (λ z. nat_abs z ≤ h) (ltb x (2 ^ (width - 1))) (pos x) (pos x -ℤ pos (2 ^ width))
      (λ e. omega (arith, ltb-true x (2 ^ (width - 1)) e))
      (λ e. omega (arith, ltb-false x (2 ^ (width - 1)) e, size_diff x (2 ^ width), whole))

  pub signed_most : at_least_0 (twos_complement width x) < h
  unfolding twos_complement at_least_0
  signed_most =
      by_test (λ z. at_least_0 z < h) (ltb x (2 ^ (width - 1))) (pos x) (pos x -ℤ pos (2 ^ width))
      (λ e. omega (arith, ltb-true x (2 ^ (width - 1)) e))
      (λ e. omega (arith, ltb-false x (2 ^ (width - 1)) e, at_least_0_less (pos x) (2 ^ width), whole))

  pub signed_fits : SFits w32 (to_z w32 flipped -ℤ to_z w32 h)
  signed_fits = cast_fits w32 (twos_complement width x) signed_is (omega (arith, signed_size, small))

  pub signed_reads : to_z w32 (of_z w32 (to_z w32 flipped -ℤ to_z w32 h)) ≡ twos_complement width x
  signed_reads = cast_reads w32 (twos_complement width x) signed_is (omega (arith, signed_size, small))
