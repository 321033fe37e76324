-- Four lists, one pool at a time from the front: what the loop of `stock_sums` has behind it, and what is left. Assumes nothing.
use mathlib.Core.Path.{◌≡◌, refl, ap, ◌∙◌}
use mathlib.Core.Bool.{Bool, true, false}
use mathlib.Core.List.{List}
use Prim.Native.Nat.{ℕ, ◌+◌, ◌*◌, ◌<◌, ◌≤◌}
use native.Mathlib.Numerals.{add-one}
use native.Mathlib.Omega.{arith}
use lib.ListN.{length, get_or, drop}
use lib.Seq.{drop-cons, drop-length}
use mir.Val.{Fits}
use mir.Syntax.{w64}
use borrow.Author.Count.{below_more}
use Rattle.std.proofs.lemmas.Bool.Decides.{nat_tests}
use Rattle.sums.specs.Sums.{sum}
use Rattle.sums.proofs.Meaning.{all_at, all_by}
use Rattle.discount.specs.Discount.{lengths_valid, values_valid, most_value, most_pools}
use Rattle.discount.specs.Bounds.{pool_valid, TooLarge, StockSums}
use Rattle.discount.proofs.Bounds.{lengths, bounded}

-- ---- one list
-- the first i values add up to `total`, and with what is left that makes the whole
record Totalled (v : List ℕ) (total i : ℕ) : Type 0 where
  whole : total + sum (drop i v) ≡ sum v
  small : total ≤ i * most_value

totalled_more : (v : List ℕ) (total i : ℕ) → Totalled v total i → i < length v → get_or v i 0 ≤ most_value → Totalled v (total + get_or v i 0) (i + 1)
unfolding sum
totalled_more v total i t h le =
    let whole = t.whole in
    let small = t.small in
    let here : sum (drop i v) ≡ get_or v i 0 + sum (drop (i + 1) v) = rw (drop-cons v i 0 h, add-one) in
    record { whole = omega arith; small = omega arith }

totalled_all : (v : List ℕ) (total i : ℕ) → Totalled v total i → i ≡ length v → total ≡ sum v
unfolding sum
totalled_all v total i t e = let whole = t.whole in omega (arith, ap (λ (k : ℕ). sum (drop k v)) e ∙ ap sum (drop-length v))

-- ---- the values of one pool
record Pool (x y z w : ℕ) : Type 0 where
  a : x ≤ most_value
  b : y ≤ most_value
  c : z ≤ most_value
  d : w ≤ most_value

pool : (x y z w : ℕ) → pool_valid x y z w ≡ true → Pool x y z w
unfolding pool_valid
pool x y z w h = record { a = grind (arith, nat_tests); b = grind (arith, nat_tests); c = grind (arith, nat_tests); d = grind (arith, nat_tests) }

-- where the first three are not too large, the last is
pool_last : (x y z w : ℕ) → pool_valid x y z w ≡ false → x ≤ most_value → y ≤ most_value → z ≤ most_value → most_value < w
unfolding pool_valid
pool_last x y z w h hx hy hz = grind (arith, nat_tests)

-- ---- the four lists
-- the values at k are those of a valid pool
abbrev pub at : List ℕ → List ℕ → List ℕ → List ℕ → ℕ → Bool
at a b c d k = pool_valid (get_or a k 0) (get_or b k 0) (get_or c k 0) (get_or d k 0)

pub record Passed (a b c d : List ℕ) (first second i : ℕ) : Type 0 where
  valid : (k : ℕ) → k < i → at a b c d k ≡ true
  first_is : Totalled c first i
  second_is : Totalled d second i

module _ (a b c d : List ℕ) where
  pub passed_none : Passed a b c d 0 0 0
  passed_none =
      let none : (v : List ℕ) → Totalled v 0 0 = λ v. record { whole = omega arith; small = omega arith } in
      record { valid = λ k h. absurd (omega arith); first_is = none c; second_is = none d }

  module _ (first second i : ℕ) (p : Passed a b c d first second i) (l : lengths_valid (length a) (length b) (length c) (length d) ≡ true) where
    all : (length a ≡ length b) × (length a ≡ length c) × (length a ≡ length d) × (length a ≤ most_pools)
    all = lengths (length a) (length b) (length c) (length d) l

    pub passed_more : i < length a → at a b c d i ≡ true → Passed a b c d (first + get_or c i 0) (second + get_or d i 0) (i + 1)
    passed_more h v =
        let s = all in
        let x = pool (get_or a i 0) (get_or b i 0) (get_or c i 0) (get_or d i 0) v in
        record {
          valid = below_more (λ k. at a b c d k ≡ true) i p.valid v;
          first_is = totalled_more c first i p.first_is (omega arith) x.c;
          second_is = totalled_more d second i p.second_is (omega arith) x.d;
        }

    -- the sums fit
    pub passed_fits : i < length a → at a b c d i ≡ true → Fits w64 (first + get_or c i 0) × Fits w64 (second + get_or d i 0)
    passed_fits h v =
        let s = all in
        let x = pool (get_or a i 0) (get_or b i 0) (get_or c i 0) (get_or d i 0) v in
        let f = p.first_is.small in
        let g = p.second_is.small in
        (omega (arith, x.c), omega (arith, x.d))

    pub passed_all : length a ≡ i → StockSums a b c d first second
    passed_all h =
        let s = all in
        let x : (k : ℕ) → k < i → Pool (get_or a k 0) (get_or b k 0) (get_or c k 0) (get_or d k 0) = λ k lt. pool _ _ _ _ (p.valid k lt) in
        let lists =
        bounded l
        (all_by most_value a (λ k lt. (x k (omega arith)).a))
        (all_by most_value b (λ k lt. (x k (omega arith)).b))
        (all_by most_value c (λ k lt. (x k (omega arith)).c))
        (all_by most_value d (λ k lt. (x k (omega arith)).d)) in
        record {
          first_widths = lists.0;
          second_widths = lists.1;
          first_stocks = lists.2;
          second_stocks = lists.3;
          first_is = totalled_all c first i p.first_is (omega arith);
          second_is = totalled_all d second i p.second_is (omega arith);
        }

  -- a pool that is not valid
  pub pool_stops : (i : ℕ) → at a b c d i ≡ false → TooLarge a b c d
  pool_stops i v =
      record {
        last = λ ha hb hc.
            let lt = pool_last _ _ _ _ v (all_at most_value a i ha) (all_at most_value b i hb) (all_at most_value c i hc) in
            not_all (values_valid d) refl lt;
      }
    where
      not_all : (t : Bool) → values_valid d ≡ t → most_value < get_or d i 0 → t ≡ false
      not_all true e lt = let le = all_at most_value d i e in absurd (omega arith)
      not_all false e lt = refl

-- what the needs of the loop are found from
pub ruleset pools = (passed_none, passed_more, passed_fits, passed_all, pool_stops)
