-- Products of two lists, and weighted sums by index: over tables whose rows stand one after the other. Assumes nothing.
use mathlib.Core.Path.{◌≡◌, refl, sym, ap, ◌∙◌}
use mathlib.Core.Bool.{true}
use mathlib.Core.List.{List, [], ◌∷◌, map}
use Prim.Native.Nat.{ℕ, zero, suc, ◌+◌, ◌*◌, ◌<◌}
use native.Mathlib.Omega.{arith}
use lib.ListN.{length, get_or, take, drop}
use Rattle.std.proofs.lemmas.List.{length-take}
use lib.Seq.{get_or-take, get_or-drop}
use Rattle.words.specs.Sums.{sum_below}
use Rattle.words.proofs.Sums.{sum_rows}
use Rattle.sums.specs.Sums.{weighted, products, sum, all_at_most, EverySum}
use Rattle.sums.proofs.Meaning.{all_at, all_by, weighted_ones}

-- ---- products

pub sum_products : (w v : List ℕ) → sum (products w v) ≡ weighted w v
unfolding weighted products sum
sum_products [] v = refl
sum_products (x ∷ w) [] = refl
sum_products (x ∷ w) (y ∷ v) = ap (λ (n : ℕ). x * y + n) (sum_products w v)

pub length_products : (w v : List ℕ) → length w ≡ length v → length (products w v) ≡ length v
unfolding products
length_products [] [] e = refl
length_products [] (y ∷ v) e = absurd (omega arith)
length_products (x ∷ w) [] e = refl
length_products (x ∷ w) (y ∷ v) e = ap suc (length_products w v (omega arith))

pub product_at : (w v : List ℕ) (k : ℕ) → k < length w → k < length v → get_or (products w v) k 0 ≡ get_or w k 0 * get_or v k 0
unfolding products
product_at [] v k h h₁ = absurd (omega arith)
product_at (x ∷ w) [] k h h₁ = absurd (omega arith)
product_at (x ∷ w) (y ∷ v) zero h h₁ = refl
product_at (x ∷ w) (y ∷ v) (suc k) h h₁ = product_at w v k (omega arith) (omega arith)

products_nothing : (w : List ℕ) → products w [] ≡ []
unfolding products
products_nothing [] = refl
products_nothing (x ∷ w) = refl

pub drop_products : (n : ℕ) (w v : List ℕ) → drop n (products w v) ≡ products (drop n w) (drop n v)
unfolding products
drop_products zero w v = refl
drop_products (suc n) [] v = refl
drop_products (suc n) (x ∷ w) [] = sym (products_nothing (drop n w))
drop_products (suc n) (x ∷ w) (y ∷ v) = drop_products n w v

-- ---- bounds of parts of a list, by index

pub drop_at_most : (m : ℕ) (v : List ℕ) (i : ℕ) → all_at_most m v ≡ true → all_at_most m (drop i v) ≡ true
drop_at_most m v i h = all_by m (drop i v) (λ k lt. rw (get_or-drop i v k 0) (all_at m v (i + k) h))

pub take_at_most : (m : ℕ) (v : List ℕ) (i : ℕ) → all_at_most m v ≡ true → all_at_most m (take i v) ≡ true
take_at_most m v i h = all_by m (take i v) (λ k lt. rw (get_or-take i v k 0 (omega (arith, lt, length-take i v))) (all_at m v k h))

-- ---- one value throughout

pub weighted_by_one : (p : ℕ) (w : List ℕ) → weighted w (map (λ _. p) w) ≡ sum w * p
unfolding weighted sum
weighted_by_one p [] = omega arith
weighted_by_one p (x ∷ w) = omega (arith, weighted_by_one p w)

-- ---- by index

-- the first value and those behind it
sum_first : (f : ℕ → ℕ) (n : ℕ) → sum_below f (suc n) ≡ f 0 + sum_below (λ i. f (suc i)) n
unfolding sum_below
sum_first f zero = omega arith
sum_first f (suc n) = omega (arith, sum_first f n)

weighted_below : (n : ℕ) (w v : List ℕ) → length w ≡ n → length v ≡ n → weighted w v ≡ sum_below (λ i. get_or w i 0 * get_or v i 0) n
unfolding weighted sum_below
weighted_below zero [] v hw hv = refl
weighted_below zero (x ∷ w) v hw hv = absurd (omega arith)
weighted_below (suc n) [] v hw hv = absurd (omega arith)
weighted_below (suc n) (x ∷ w) [] hw hv = absurd (omega arith)
weighted_below (suc n) (x ∷ w) (y ∷ v) hw hv =
    ap (λ (m : ℕ). x * y + m) (weighted_below n w v (omega arith) (omega arith)) ∙ sym (sum_first (λ i. get_or (x ∷ w) i 0 * get_or (y ∷ v) i 0) n)

-- tables joined end to end: rows of n values each, one after the other
pub weighted_rows : (n rows : ℕ) (w v : List ℕ) → length w ≡ rows * n → length v ≡ rows * n →
    weighted w v ≡ sum_below (λ t. sum_below (λ i. get_or w (t * n + i) 0 * get_or v (t * n + i) 0) n) rows
weighted_rows n rows w v hw hv = weighted_below (rows * n) w v hw hv ∙ sum_rows (λ k. get_or w k 0 * get_or v k 0) n rows

pub every_sum : EverySum
every_sum = record { of_products = sum_products; of_ones = weighted_ones; of_rows = weighted_rows }
