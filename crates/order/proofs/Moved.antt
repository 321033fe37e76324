-- An order of the cells, and blocks of a list in it. Assumes nothing.
use mathlib.Core.Path.{◌≡◌, sym, ap, ◌∙◌}
use mathlib.Core.List.{List}
use Prim.Native.Nat.{ℕ, ◌≤◌, ◌<◌}
use native.Mathlib.Nat.{zero-add}
use native.Mathlib.Omega.{arith}
use lib.Dec.{eqb}
use lib.ListN.{get_or}
use borrow.Author.Tests.{eq-eqb, ne_eqb}
use Rattle.words.specs.Sums.{sum_below}
use Rattle.words.proofs.Signed.{by_less, by_equal}
use Rattle.words.proofs.Sums.{sum_moved}
use Rattle.order.specs.Order.{Order, Moved}

-- ---- an order

module _ {n : ℕ} (o : Order n) where
  -- among n it is one of them, and so back again
  pub from_within : (m : ℕ) → m < n → o.from m < n
  from_within m lt = by_less (o.from m) n (λ h. h) (λ le. let e : o.from m ≡ m = sym (o.there (o.from m)) ∙ ap o.to (o.beyond (o.from m) le) ∙ o.there m in absurd (omega arith))

  pub to_within : (k : ℕ) → k < n → o.to k < n
  to_within k lt = by_less (o.to k) n (λ h. h) (λ le. let e : k ≡ o.to k = sym (o.back k) ∙ o.beyond (o.to k) le in absurd (omega arith))

  pub to_beyond : (k : ℕ) → n ≤ k → o.to k ≡ k
  to_beyond k le = ap o.to (sym (o.beyond k le)) ∙ o.there k

  -- what goes with cell k, where it now is
  pub moved_there : {A : Type 0} (f f' : ℕ → A) → ((m : ℕ) → m < n → f' m ≡ f (o.from m)) → (k : ℕ) → k < n → f' (o.to k) ≡ f k
  moved_there f f' same k lt = same (o.to k) (to_within k lt) ∙ ap f (o.back k)

  -- it is there just if that came from it
  pub same_cell : (k m : ℕ) → eqb (o.to k) m ≡ eqb k (o.from m)
  same_cell k m =
      by_equal k (o.from m)
      (λ here. eq-eqb (o.to k) m (ap o.to here ∙ o.there m) ∙ sym (eq-eqb k (o.from m) here))
      (λ other. ne_eqb (o.to k) m (λ e. other (sym (o.back k) ∙ ap o.from e)) ∙ sym (ne_eqb k (o.from m) other))

  pub reverse : Order n
  reverse = record { from = o.to; to = o.from; there = o.back; back = o.there; beyond = to_beyond }

  -- a sum over all cells stays
  pub same_sum : (f g : ℕ → ℕ) → ((m : ℕ) → m < n → g m ≡ f (o.from m)) → sum_below g n ≡ sum_below f n
  same_sum f g = sum_moved n o.from o.to o.there o.back from_within to_within f g

-- ---- each word

module _ {n : ℕ} {o : Order n} {size at : ℕ} {x y : List ℕ} (e : Moved o size at x y) where
  pub moved_before : (k : ℕ) → k < at → get_or y k 0 ≡ get_or x k 0
  moved_before k lt = rw (zero-add k) at (e.before k lt)

  -- and back again
  pub moved_back : Moved (reverse o) size at y x
  unfolding reverse
  moved_back =
      record {
        before = λ k lt. sym (e.before k lt);
        block = λ m lt k less. rw (o.back m) at (sym (e.block (o.to m) (to_within o m lt) k less));
      }
