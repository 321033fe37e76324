-- A float's `<` is the order of the exact values, and what a range says of a value. Assumes nothing.
use mathlib.Core.Path.{◌≡◌, refl, sym, ap, ap₂, ◌∙◌}
use Prim.Native.Nat.{ℕ, zero, suc, ◌+◌, ◌*◌, ◌≤◌, ◌<◌}
use native.Mathlib.Nat.{mul-one, zero-mul, zero-add}
use native.Mathlib.Omega.{arith}
use mathlib.Core.Bool.{Bool, true, false, not, cond, ◌&&◌, ◌||◌, and-false, false≢true}
use lib.Dec.{leb, ltb, eqb, leb-suc-zero, leb-suc-suc, leb-zero, eqb-zero-suc, eqb-suc-zero}
use lib.IntN.{ℤ, pos, negsuc, neg_ℤ, ◌*ℤ◌}
use lib.Signed.{le_z}
use lib.Ieee.{Float, nan, inf, fin, up, down, lt, le, below, level}
use lib.Ieee.Fits.{down_pos}
use lib.Pow.{pow_pos}
use borrow.Author.Tests.{lt-ltb, ltb-true, ltb-false, le-leb, lt-leb, leb-true, eq-eqb, ne_eqb}
use Rattle.words.proofs.Answers.{and_left, and_right}
use Rattle.reading.specs.Metres.{is_finite, numerator, denominator, in_range, most_core, lowest_level, highest_level, in_core, in_level, Ends}

-- ---- the order of whole numbers with a sign
pub neg_neg : (a b : ℕ) → le_z (neg_ℤ (pos a)) (neg_ℤ (pos b)) ≡ leb b a
neg_neg zero zero = refl
neg_neg zero (suc b) = sym (leb-suc-zero b)
neg_neg (suc a) zero = sym (leb-zero (suc a))
neg_neg (suc a) (suc b) = sym (leb-suc-suc b a)

neg_pos : (a b : ℕ) → le_z (neg_ℤ (pos a)) (pos b) ≡ true
neg_pos zero b = leb-zero b
neg_pos (suc a) b = refl

-- not a < b is b ≤ a
flip : (a b : ℕ) → not (ltb a b) ≡ leb b a
flip a b = go (ltb a b) refl
  where
    go : (t : Bool) → ltb a b ≡ t → not t ≡ leb b a
    go true e = sym (lt-leb b a (ltb-true a b e))
    go false e = sym (le-leb b a (ltb-false a b e))

-- -n where s is true, and n otherwise
abbrev signed : Bool → ℕ → ℤ
signed s n = cond s (neg_ℤ (pos n)) (pos n)

pub times : (s : Bool) (n k : ℕ) → signed s n *ℤ pos k ≡ signed s (n * k)
times false n k = refl
times true zero k = ap pos (zero-mul k) ∙ sym (ap (λ (i : ℕ). neg_ℤ (pos i)) (zero-mul k))
times true (suc n) k = refl

not_below : (s t : Bool) (a b : ℕ) → not (below s a t b) ≡ le_z (signed t b) (signed s a)
not_below false false a b = flip a b
not_below false true a b = sym (neg_pos b a)
not_below true false zero b = ap (λ (i : ℕ). not (ltb 0 i)) (zero-add b) ∙ flip 0 b
not_below true false (suc a) b = ap not (lt-ltb 0 (suc a + b) (omega arith))
not_below true true a b = flip b a ∙ sym (neg_neg b a)

times_one : (z : ℤ) → z *ℤ pos 1 ≡ z
times_one (pos a) = ap pos (mul-one a)
times_one (negsuc a) = ap (λ (i : ℕ). neg_ℤ (pos i)) (mul-one (suc a))

-- ---- floats by their exact values, with the denominators multiplied out
pub denominator_pos : (x : Float) → 0 < denominator x
denominator_pos nan = pow_pos 0
denominator_pos (inf s) = pow_pos 0
denominator_pos (fin s m e) = down_pos e

not_lt : (x y : Float) → is_finite x ≡ true → is_finite y ≡ true → not (lt x y) ≡ le_z (numerator y *ℤ pos (denominator x)) (numerator x *ℤ pos (denominator y))
unfolding lt
not_lt nan y f g = absurd (false≢true f)
not_lt (inf s) y f g = absurd (false≢true f)
not_lt (fin s m e) nan f g = absurd (false≢true g)
not_lt (fin s m e) (inf t) f g = absurd (false≢true g)
not_lt (fin s m e) (fin t n d) f g =
    not_below s t (m * up e * down d) (n * up d * down e) ∙ sym (ap₂ le_z (times t (n * up d) (down e)) (times s (m * up e) (down d)))

-- a ≤ b is not b < a, with a flag for a ≡ b
up_to_lem : (a b : ℕ) (same : Bool) → (a ≡ b → same ≡ true) → ((a ≡ b → ⊥) → same ≡ false) → (ltb a b || same) ≡ not (ltb b a)
up_to_lem a b same equal other = go (ltb a b) (ltb b a) refl refl
  where
    go : (p q : Bool) → ltb a b ≡ p → ltb b a ≡ q → (p || same) ≡ not q
    go true true e g = let h = ltb-true a b e in let k = ltb-true b a g in absurd (omega arith)
    go true false e g = refl
    go false true e g = let k = ltb-true b a g in other (λ (z : a ≡ b). omega arith)
    go false false e g = let h = ltb-false a b e in let k = ltb-false b a g in equal (omega arith)

not_above_lem : (s t : Bool) (a b : ℕ) → (below s a t b || level s a t b) ≡ not (below t b s a)
not_above_lem false false a b = up_to_lem a b (level false a false b) (λ e. rw (eq-eqb a b e)) (λ n. rw (ne_eqb a b n))
not_above_lem false true zero zero = refl
not_above_lem false true zero (suc b) = rw (eqb-zero-suc b, lt-ltb 0 (suc b + 0) (omega arith))
not_above_lem false true (suc a) zero = rw (eqb-suc-zero a, lt-ltb 0 (0 + suc a) (omega arith))
not_above_lem false true (suc a) (suc b) = rw (eqb-suc-zero a, and-false (eqb (suc a) (suc b)), lt-ltb 0 (suc b + suc a) (omega arith))
not_above_lem true false zero zero = refl
not_above_lem true false zero (suc b) = rw (lt-ltb 0 (0 + suc b) (omega arith))
not_above_lem true false (suc a) b = rw (lt-ltb 0 (suc a + b) (omega arith))
not_above_lem true true a b = up_to_lem b a (level true a true b) (λ e. rw (eq-eqb a b (sym e))) (λ n. rw (ne_eqb a b (λ (e : a ≡ b). n (sym e))))

le_not_lt : (x y : Float) → is_finite x ≡ true → is_finite y ≡ true → le x y ≡ not (lt y x)
unfolding le lt
le_not_lt nan y f g = absurd (false≢true f)
le_not_lt (inf s) y f g = absurd (false≢true f)
le_not_lt (fin s m e) nan f g = absurd (false≢true g)
le_not_lt (fin s m e) (inf t) f g = absurd (false≢true g)
le_not_lt (fin s m e) (fin t n d) f g = not_above_lem s t (m * up e * down d) (n * up d * down e)

-- against a whole number y
module _ (x y : Float) (f : is_finite x ≡ true) (g : is_finite y ≡ true) (w : denominator y ≡ 1) where
  x_times : numerator x *ℤ pos (denominator y) ≡ numerator x
  x_times = ap (λ (i : ℕ). numerator x *ℤ pos i) w ∙ times_one (numerator x)

  pub not_lt_whole : not (lt x y) ≡ le_z (numerator y *ℤ pos (denominator x)) (numerator x)
  not_lt_whole = not_lt x y f g ∙ ap (le_z (numerator y *ℤ pos (denominator x))) x_times

  whole_le : le y x ≡ le_z (numerator y *ℤ pos (denominator x)) (numerator x)
  whole_le = le_not_lt y x g f ∙ not_lt_whole

  le_whole : le x y ≡ le_z (numerator x) (numerator y *ℤ pos (denominator x))
  le_whole = le_not_lt x y f g ∙ not_lt y x g f ∙ ap (λ (i : ℤ). le_z i (numerator y *ℤ pos (denominator x))) x_times

-- the two tests of `in_range`: no NaN and no infinity passes both
pub range_is : (x low high : Float) → Ends low high → in_range (numerator low) (numerator high) x ≡ (le low x && le x high)
unfolding le
range_is x low high e = go x low high e.low_finite e.high_finite e.low_whole e.high_whole
  where
    go : (x low high : Float) → is_finite low ≡ true → is_finite high ≡ true → denominator low ≡ 1 → denominator high ≡ 1 → in_range (numerator low) (numerator high) x ≡ (le low x && le x high)
    go x nan high f g v w = absurd (false≢true f)
    go x (inf s) high f g v w = absurd (false≢true f)
    go x (fin s m e) nan f g v w = absurd (false≢true g)
    go x (fin s m e) (inf t) f g v w = absurd (false≢true g)
    go nan (fin s m e) (fin t n d) f g v w = refl
    go (inf true) (fin s m e) (fin t n d) f g v w = refl
    go (inf false) (fin s m e) (fin t n d) f g v w = refl
    go (fin r k c) (fin s m e) (fin t n d) f g v w =
        ap₂ ◌&&◌ (sym (whole_le (fin r k c) (fin s m e) refl refl v)) (sym (le_whole (fin r k c) (fin t n d) refl refl w))

-- ---- what a range says
pub record Inside (low high : ℤ) (x : Float) : Type 0 where
  pub finite : is_finite x ≡ true
  pub least : le_z (low *ℤ pos (denominator x)) (numerator x) ≡ true
  pub most : le_z (numerator x) (high *ℤ pos (denominator x)) ≡ true

inside : (low high : ℤ) (x : Float) → in_range low high x ≡ true → Inside low high x
inside low high x h =
    let a = le_z (low *ℤ pos (denominator x)) (numerator x) in
    let b = le_z (numerator x) (high *ℤ pos (denominator x)) in
    let r = and_right (is_finite x) (a && b) h in
    record { finite = and_left (is_finite x) (a && b) h; least = and_left a b r; most = and_right a b r }

pub core_inside : (x : Float) → in_core x ≡ true → Inside (pos 0) (pos most_core) x
unfolding in_core
core_inside x h = inside (pos 0) (pos most_core) x h

pub level_inside : (x : Float) → in_level x ≡ true → Inside (neg_ℤ (pos lowest_level)) (pos highest_level) x
unfolding in_level
level_inside x h = inside (neg_ℤ (pos lowest_level)) (pos highest_level) x h

pub core_finite : (x : Float) → in_core x ≡ true → is_finite x ≡ true
core_finite x h = (core_inside x h).finite

pub level_finite : (x : Float) → in_level x ≡ true → is_finite x ≡ true
level_finite x h = (level_inside x h).finite

-- the integer over a denominator d
module _ (d : ℕ) where
  pub at_least : (l a : ℕ) → le_z (neg_ℤ (pos l) *ℤ pos d) (negsuc a) ≡ true → suc a ≤ l * d
  at_least l a h = leb-true (suc a) (l * d) (sym (neg_neg (l * d) (suc a)) ∙ ap (λ (i : ℤ). le_z i (negsuc a)) (sym (times true l d)) ∙ h)

  wide : (z : ℤ) → le_z (pos 0 *ℤ pos d) z ≡ true → le_z (neg_ℤ (pos lowest_level) *ℤ pos d) z ≡ true
  wide (pos a) h = neg_pos (lowest_level * d) a
  wide (negsuc a) h = absurd (false≢true h)

  tall : (z : ℤ) → le_z z (pos most_core *ℤ pos d) ≡ true → le_z z (pos highest_level *ℤ pos d) ≡ true
  tall (pos a) h = let k = leb-true a (most_core * d) h in le-leb a (highest_level * d) (omega arith)
  tall (negsuc a) h = refl

-- a core is a level
pub core_level : (x : Float) → in_core x ≡ true → in_level x ≡ true
unfolding in_level
core_level x h =
    let i = core_inside x h in
    rw (i.finite, wide (denominator x) (numerator x) i.least, tall (denominator x) (numerator x) i.most)
