-- Millimetres and the lowest level's more, as natural numbers: what a depth is by them. Assumes nothing.
use mathlib.Core.Path.{◌≡◌, refl, sym, ap, ap₂, ◌∙◌}
use Prim.Native.Nat.{ℕ, suc, ◌+◌, ◌-◌, ◌*◌, ◌/◌, ◌≤◌, ◌<◌}
use native.Mathlib.Nat.{div-lt_iff_lt-mul}
use native.Mathlib.Omega.{arith}
use mathlib.Core.Bool.{Bool, ◌&&◌, true, false, false≢true}
use lib.Dec.{leb}
use lib.IntN.{ℤ, pos, negsuc, neg_ℤ, nat_abs, ◌+ℤ◌, ◌-ℤ◌, ◌*ℤ◌, neg_ℤ-+ℤ, +ℤ_assoc, +ℤ_comm, +ℤ-neg_ℤ_cancel}
use lib.Signed.{le_z, shr_z}
use lib.Ieee.{Float}
use borrow.Author.Tests.{leb-true, le-leb, lt-leb, lt-ltb}
use Rattle.words.specs.Bits.{at_least_0}
use Rattle.words.specs.Refusals.{not_finite, out_of_range}
use Rattle.words.specs.Answers.{Answer, accepted, need}
use Rattle.words.proofs.Signed.{by_less, at_least_0_less, diff_is, diff_same}
use Rattle.words.proofs.Answers.{answers}
use Rattle.reading.specs.Metres.{is_finite, numerator, denominator, most_core, in_core, in_level, mm, lowest_mm}
use Rattle.reading.specs.Depth.{core, most_depth, in_depth, levels}
use Rattle.reading.proofs.Order.{denominator_pos, core_inside, core_finite, level_finite, core_level}

-- ---- a core's millimetres are not below zero
pub core_enough : (x : Float) (r : ℕ) → in_core x ≡ true → pos r ≡ mm x +ℤ pos lowest_mm → lowest_mm ≤ r
unfolding mm
core_enough x r h e = go (numerator x) (denominator x) (core_inside x h).least e
  where
    go : (z : ℤ) (d : ℕ) → le_z (pos 0 *ℤ pos d) z ≡ true → pos r ≡ shr_z (pos 1000 *ℤ z) d +ℤ pos lowest_mm → lowest_mm ≤ r
    go (pos a) d h e = let k : r ≡ 1000 * a / d + lowest_mm = ap nat_abs e in omega arith
    go (negsuc a) d h e = absurd (false≢true h)

-- ---- u and v with one number added
cancel : (a b k : ℤ) → (a +ℤ k) -ℤ (b +ℤ k) ≡ a -ℤ b
cancel a b k =
    ap (λ (i : ℤ). a +ℤ k +ℤ i) (neg_ℤ-+ℤ b k ∙ +ℤ_comm (neg_ℤ b) (neg_ℤ k))
    ∙ sym (+ℤ_assoc (a +ℤ k) (neg_ℤ k) (neg_ℤ b))
    ∙ ap (λ (i : ℤ). i +ℤ neg_ℤ b) (+ℤ-neg_ℤ_cancel a k)

module _ (n : ℕ) (u : ℤ) (s : ℕ) (p : pos s ≡ u +ℤ pos n) where
  pub core_value : accepted (s - n) ≡ accepted (at_least_0 u)
  unfolding at_least_0
  core_value = ap accepted (sym (at_least_0_less (pos s) n) ∙ ap (λ (i : ℤ). at_least_0 (i -ℤ pos n)) p ∙ ap at_least_0 (+ℤ-neg_ℤ_cancel u (pos n)))

  module _ (v : ℤ) (b : ℕ) (q : pos b ≡ v +ℤ pos n) where
    difference : u -ℤ v ≡ pos s -ℤ pos b
    difference = sym (cancel u v (pos n)) ∙ ap₂ (λ (i j : ℤ). i -ℤ j) (sym p) (sym q)

    pub pair_value : accepted (s - b) ≡ accepted (at_least_0 (u -ℤ v))
    unfolding at_least_0
    pair_value = ap accepted (sym (ap at_least_0 difference ∙ at_least_0_less (pos s) b))

    pub base_above : s < b → in_depth (u -ℤ v) ≡ false
    unfolding in_depth
    base_above h = ap in_depth (difference ∙ diff_same s b 0 (suc (b - suc s)) (omega arith)) ∙ rw (lt-ltb 0 (suc (b - suc s)) (omega arith))

    bounded : b ≤ s → in_depth (u -ℤ v) ≡ leb (s - b) most_depth
    unfolding in_depth
    bounded h = ap in_depth (difference ∙ diff_is s b (s - b) (omega arith)) ∙ rw (le-leb 0 (s - b) (omega arith))

    -- the test of the code, on natural numbers
    pub pair_depth : in_depth (u -ℤ v) ≡ (leb b s && leb (s - b) most_depth)
    pair_depth = by_less s b (λ lt. base_above lt ∙ rw (lt-leb b s lt) refl) (λ le. bounded le ∙ rw (le-leb b s le) refl)

-- ---- what a pair of levels answers, by the millimetres of both above the lowest
module _ (x y : Float) (s b : ℕ) (l : in_level x ≡ true) (k : in_level y ≡ true) (p : pos s ≡ mm x +ℤ pos lowest_mm) (q : pos b ≡ mm y +ℤ pos lowest_mm) where
  pub pair_by : (answer : Answer) → answer ≡ need (leb b s && leb (s - b) most_depth) out_of_range 2 (accepted (s - b)) → answer ≡ levels x y
  unfolding levels need
  pair_by answer e =
      rw (level_finite x l, level_finite y k, l, k)
      (e ∙ ap₂ (λ (c : Bool) (a : Answer). need c out_of_range 2 a) (sym (pair_depth lowest_mm (mm x) s p (mm y) b q)) (pair_value lowest_mm (mm x) s p (mm y) b q))

-- ---- a core's millimetres are at most 20,000
core_mm_le : (x : Float) → in_core x ≡ true → at_least_0 (mm x) ≤ 1000 * most_core
unfolding mm at_least_0
core_mm_le x h = let i = core_inside x h in go (numerator x) (denominator x) (denominator_pos x) i.least i.most
  where
    go : (z : ℤ) (d : ℕ) → 0 < d → le_z (pos 0 *ℤ pos d) z ≡ true → le_z z (pos most_core *ℤ pos d) ≡ true → at_least_0 (shr_z (pos 1000 *ℤ z) d) ≤ 1000 * most_core
    go (pos a) d D l m =
        let most = leb-true a (most_core * d) m in
        let C : 1000 * a / d < 1000 * most_core + 1 = (div-lt_iff_lt-mul D).1 (omega arith) in
        omega arith
    go (negsuc a) d D l m = absurd (false≢true l)

pub core_le : (x : Float) → (core x).value ≤ 1000 * most_core
unfolding core need
core_le x = go (is_finite x) (in_core x) refl
  where
    go : (f i : Bool) → in_core x ≡ i → (need f not_finite 0 (need i out_of_range 0 (accepted (at_least_0 (mm x))))).value ≤ 1000 * most_core
    go false i e = omega arith
    go true false e = omega arith
    go true true e = core_mm_le x e

-- what the answers of this crate are found from
pub ruleset depths = (answers, core_finite, level_finite, core_level, core_enough, core_value)
