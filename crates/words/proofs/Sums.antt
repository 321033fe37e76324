-- Laws of a sum over places. Assumes nothing.
use mathlib.Core.Path.{◌≡◌, refl, sym, ap, ◌∙◌}
use mathlib.Core.Bool.{cond}
use Prim.Native.Nat.{ℕ, zero, suc, ◌+◌, ◌*◌, ◌≤◌, ◌<◌}
use native.Mathlib.Nat.{add-zero, add-suc, zero-mul, suc-mul}
use native.Mathlib.Numerals.{add-one}
use native.Mathlib.Omega.{arith}
use lib.Dec.{eqb}
use borrow.Author.Tests.{eq-eqb, ne_eqb}
use Rattle.words.specs.Sums.{sum_below}
use Rattle.words.proofs.Signed.{by_equal}

pub sum_none : (f : ℕ → ℕ) → 0 ≡ sum_below f 0
unfolding sum_below
sum_none f = refl

-- one more, where x is the sum so far and y the next
pub sum_next : (f : ℕ → ℕ) (n : ℕ) {x y : ℕ} → x ≡ sum_below f n → y ≡ f n → x + y ≡ sum_below f (n + 1)
unfolding sum_below
sum_next f n e e' = rw (add-one, e, e')

-- two functions that agree below n have one sum
pub sum_same : (f g : ℕ → ℕ) (n : ℕ) → ((i : ℕ) → i < n → f i ≡ g i) → sum_below f n ≡ sum_below g n
unfolding sum_below
sum_same f g zero e = refl
sum_same f g (suc n) e = omega (arith, sum_same f g n (λ i h. e i (omega arith)), e n (omega arith))

-- each has its most
pub sum_most : (f : ℕ → ℕ) (m n : ℕ) → ((i : ℕ) → i < n → f i ≤ m) → sum_below f n ≤ m * n
unfolding sum_below
sum_most f m zero h = omega arith
sum_most f m (suc n) h = omega (arith, sum_most f m n (λ i p. h i (omega arith)), h n (omega arith))

-- the first n places, and m more
pub sum_split : (f : ℕ → ℕ) (n m : ℕ) → sum_below f (n + m) ≡ sum_below f n + sum_below (λ i. f (n + i)) m
unfolding sum_below
sum_split f n zero = rw (add-zero n) (omega arith)
sum_split f n (suc m) = rw (add-suc n m) (omega (arith, sum_split f n m))

-- rows of n places each, one after the other
pub sum_rows : (f : ℕ → ℕ) (n rows : ℕ) → sum_below f (rows * n) ≡ sum_below (λ t. sum_below (λ i. f (t * n + i)) n) rows
unfolding sum_below
sum_rows f n zero = rw zero-mul
sum_rows f n (suc rows) =
    let e : suc rows * n ≡ rows * n + n = omega (arith, suc-mul rows n) in
    rw e (sum_split f (rows * n) n ∙ ap (λ (x : ℕ). x + sum_below (λ i. f (rows * n + i)) n) (sum_rows f n rows))

-- ---- in another order

pub sum_zero : (n : ℕ) → sum_below (λ k. 0) n ≡ 0
unfolding sum_below
sum_zero zero = refl
sum_zero (suc n) = omega (arith, sum_zero n)

pub sum_add : (f g : ℕ → ℕ) (n : ℕ) → sum_below (λ k. f k + g k) n ≡ sum_below f n + sum_below g n
unfolding sum_below
sum_add f g zero = refl
sum_add f g (suc n) = omega (arith, sum_add f g n)

-- by rows or by columns
sum_transposed : (h : ℕ → ℕ → ℕ) (n m : ℕ) → sum_below (λ i. sum_below (h i) m) n ≡ sum_below (λ j. sum_below (λ i. h i j) n) m
unfolding sum_below
sum_transposed h zero m = sym (sum_zero m)
sum_transposed h (suc n) m = ap (λ (s : ℕ). s + sum_below (h n) m) (sum_transposed h n m) ∙ sym (sum_add (λ j. sum_below (λ i. h i j) n) (h n) m)

-- only place a has a value
sum_only : (f : ℕ → ℕ) (n a : ℕ) → a < n → ((k : ℕ) → (k ≡ a → ⊥) → f k ≡ 0) → sum_below f n ≡ f a
unfolding sum_below
sum_only f zero a lt none = absurd (omega arith)
sum_only f (suc n) a lt none =
    by_equal n a
    (λ here. rw (← here) (omega (arith, sum_same f (λ k. 0) n (λ m less. none m (λ e. omega arith)), sum_zero n)))
    (λ other. omega (arith, sum_only f n a (omega arith) none, none n other))

-- where the n places go to each other, and back again
module _ (n : ℕ) (from to : ℕ → ℕ) (there : (m : ℕ) → to (from m) ≡ m) (back : (k : ℕ) → from (to k) ≡ k) (within : (m : ℕ) → m < n → from m < n)
    (within' : (k : ℕ) → k < n → to k < n) (f : ℕ → ℕ) where
  -- in row m the value that is there now, in column k that of place k
  at : ℕ → ℕ → ℕ
  at m k = cond (eqb (from m) k) (f k) 0

  row : (m : ℕ) → m < n → f (from m) ≡ sum_below (at m) n
  unfolding at
  row m lt = sym (sum_only (at m) n (from m) (within m lt) (λ k other. rw (ne_eqb (from m) k (λ e. other (sym e)))) ∙ rw (eq-eqb (from m) (from m) refl))

  column : (k : ℕ) → k < n → sum_below (λ m. at m k) n ≡ f k
  unfolding at
  column k lt = sum_only (λ m. at m k) n (to k) (within' k lt) (λ m other. rw (ne_eqb (from m) k (λ e. other (sym (there m) ∙ ap to e)))) ∙ rw (eq-eqb (from (to k)) k (back k))

  -- the sum stays
  pub sum_moved : (g : ℕ → ℕ) → ((m : ℕ) → m < n → g m ≡ f (from m)) → sum_below g n ≡ sum_below f n
  sum_moved g same = sum_same g _ n (λ m lt. same m lt ∙ row m lt) ∙ sum_transposed at n n ∙ sum_same _ f n column
