-- What bounds a weighted sum, and that with ones for weights it is the plain sum. Assumes nothing.
use mathlib.Core.Path.{◌≡◌, refl}
use mathlib.Core.Bool.{true, and-eq-true_iff}
use mathlib.Core.List.{List, [], ◌∷◌}
use Prim.Native.Nat.{ℕ, zero, suc, zero-le, ◌*◌, ◌<◌, ◌≤◌}
use native.Mathlib.Nat.{mul-le-mul, suc-mul, le_refl}
use native.Mathlib.Omega.{arith}
use lib.Dec.{leb}
use lib.ListN.{length, get_or, replicate}
use borrow.Author.Tests.{leb-true, le-leb}
use Rattle.words.proofs.Answers.{and_left, and_right}
use Rattle.sums.specs.Sums.{weighted, sum, all_at_most}

pub weighted_nothing : (w : List ℕ) → weighted w [] ≡ 0
unfolding weighted
weighted_nothing [] = refl
weighted_nothing (x ∷ w) = refl

-- no value is above m exactly where none is at any index; behind the end there is none
pub all_at : (m : ℕ) (v : List ℕ) (k : ℕ) → all_at_most m v ≡ true → get_or v k 0 ≤ m
unfolding all_at_most
all_at m [] k h = zero-le
all_at m (x ∷ v) zero h = leb-true x m (and_left _ _ h)
all_at m (x ∷ v) (suc k) h = all_at m v k (and_right _ _ h)

pub all_by : (m : ℕ) (v : List ℕ) → ((k : ℕ) → k < length v → get_or v k 0 ≤ m) → all_at_most m v ≡ true
unfolding all_at_most
all_by m [] f = refl
all_by m (x ∷ v) f = rw (le-leb x m (f 0 (omega arith))) (all_by m v (λ k lt. f (suc k) (omega arith)))

-- by a bound on each list's values and the number of values
pub weighted_le : (m k : ℕ) (w v : List ℕ) → all_at_most m w ≡ true → all_at_most k v ≡ true → weighted w v ≤ length v * (m * k)
unfolding weighted all_at_most
weighted_le m k [] v hw hv = omega arith
weighted_le m k (x ∷ w) [] hw hv = omega arith
weighted_le m k (x ∷ w) (y ∷ v) hw hv =
    let ws : (leb x m ≡ true) × (all_at_most m w ≡ true) = (and-eq-true_iff _ _).0 hw in
    let vs : (leb y k ≡ true) × (all_at_most k v ≡ true) = (and-eq-true_iff _ _).0 hv in
    rw (suc-mul (length v) (m * k)) (omega (arith, mul-le-mul (leb-true x m ws.0) (leb-true y k vs.0), weighted_le m k w v ws.1 vs.1))

-- ---- ones for weights, at least as many as there are values
pub weighted_ones : (n : ℕ) (v : List ℕ) → length v ≤ n → weighted (replicate n 1) v ≡ sum v
unfolding weighted sum
weighted_ones zero [] h = refl
weighted_ones zero (x ∷ v) h = absurd (omega arith)
weighted_ones (suc n) [] h = refl
weighted_ones (suc n) (x ∷ v) h = omega (arith, weighted_ones n v (omega arith))

ones_at_most : (n : ℕ) → all_at_most 1 (replicate n 1) ≡ true
unfolding all_at_most
ones_at_most zero = refl
ones_at_most (suc n) = ones_at_most n

pub sum_le : (k : ℕ) (v : List ℕ) → all_at_most k v ≡ true → sum v ≤ length v * k
sum_le k v h = omega (arith, weighted_ones (length v) v (le_refl (length v)), weighted_le 1 k (replicate (length v) 1) v (ones_at_most (length v)) h)
