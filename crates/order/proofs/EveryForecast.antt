-- A forecast opens a scratch book and closes every year, so it gives the same in every order of the cells. Assumes nothing.
use mathlib.Core.Path.{◌≡◌, refl, sym, ap, ◌∙◌}
use mathlib.Core.Bool.{true}
use mathlib.Core.List.{List, []}
use Prim.Native.Nat.{ℕ, zero, suc, ◌+◌, ◌*◌, ◌≤◌, ◌<◌}
use native.Mathlib.Nat.{le_refl, zero-add}
use native.Mathlib.Omega.{arith}
use lib.ListN.{length, get_or, replicate, length-replicate}
use Rattle.words.specs.Answers.{Answer, accepted}
use Rattle.words.proofs.Answers.{after_both}
use Rattle.listing.specs.Layout.{cells, horizon}
use Rattle.listing.specs.Check.{checked}
use Rattle.book.specs.Current.{current, admitted}
use Rattle.book.specs.Layout.{line_words}
use Rattle.book.proofs.AcceptedBook.{shaped}
use Rattle.opening.specs.Opening.{open_book}
use Rattle.years.specs.Years.{after_closings}
use Rattle.ledger.specs.Calls.{Open, open_effect, Close}
use Rattle.ledger.proofs.After.{call_admitted}
use Rattle.forecast.specs.Forecast.{closed_book, output_checked, forecast_checked, total_kg, forecast_answer, forecast_effect}
use Rattle.forecast.specs.Closings.{Closes, ClosedYears}
use Rattle.forecast.proofs.EveryYear.{checked_passed, answer_tests, tests_answer, opened_book, every_year, output_beyond}
use Rattle.order.specs.Order.{Order, ListingMoved, BookMoved, EveryForecast}
use Rattle.order.proofs.Listings.{cells_is, horizon_is}
use Rattle.order.proofs.Books.{fitted_same}
use Rattle.order.proofs.Calls.{Pair, kg_sum_is, pair_next, same_call}
use Rattle.order.proofs.EveryOrder.{pair_started}
use Rattle.order.proofs.Orders.{same_totals}

module _ {n : ℕ} {o : Order n} {l l' : List ℕ} (e : ListingMoved o l l') (b x b' x' : List ℕ) (long : length b' ≡ length b) (long' : length x' ≡ length x) (valid : (checked l).done ≡ true) where
  tests_same : forecast_checked l' b' (length x') ≡ forecast_checked l b (length x)
  unfolding forecast_checked output_checked
  tests_same = rw (long', fitted_same current shaped e b b' long valid, horizon_is e)

  module _ (tests : (forecast_checked l b (length x)).done ≡ true) where
    tests' : (forecast_checked l' b' (length x')).done ≡ true
    tests' = rw tests_same tests

    years : ClosedYears l b x
    unfolding forecast_effect
    years = every_year l b x (tests_answer l b (length x) tests)

    years' : ClosedYears l' b' x'
    unfolding forecast_effect
    years' = every_year l' b' x' (tests_answer l' b' (length x') tests')

    -- the closings of each year, with a lines buffer of zeros
    lines : List ℕ
    lines = replicate (line_words * n) 0

    capacity : (count : ℕ) → count ≡ n → line_words * count ≤ length lines
    unfolding lines
    capacity count q = omega (arith, length-replicate {A = ℕ} (line_words * n) 0)

    closes : (t : ℕ) → t < horizon l → Closes l (open_effect l b).book (forecast_effect l b x).output t lines
    closes = years.closes lines (capacity (cells l) e.count)

    closes' : (t : ℕ) → t < horizon l → Closes l' (open_effect l' b').book (forecast_effect l' b' x').output t lines
    closes' t lt = years'.closes lines (capacity (cells l') (cells_is e)) t (rw (horizon_is e) lt)

    admits : (t : ℕ) → t < horizon l → (admitted l (after_closings l (open_effect l b).book t)).done ≡ true
    admits t lt = call_admitted l (after_closings l (open_effect l b).book t) (Close lines) (closes t lt).done

    closed : (t : ℕ) → t ≤ horizon l → Pair o l l' (after_closings l (open_effect l b).book t) (after_closings l' (open_effect l' b').book t)
    unfolding after_closings
    closed zero le = pair_started e (Open b) [] b' tt long years.opens
    closed (suc t) le = rw ((closes t le).book, (closes' t le).book) at (pair_next (closed t (omega arith)) (admits t le) (Close lines) lines refl)

    book_same : BookMoved o (forecast_effect l b x).book (forecast_effect l' b' x').book
    book_same = rw (years.book_is, years'.book_is, horizon_is e) (closed (horizon l) (le_refl _)).book

    years_same : (t : ℕ) → t < horizon l → get_or (forecast_effect l' b' x').output (0 + t) 0 ≡ get_or (forecast_effect l b x).output (0 + t) 0
    years_same t lt =
        let moved = (same_call (closed t (omega arith)) (admits t lt) (Close lines) lines refl).lines_moved (closes t lt).done in
        rw (zero-add t) ((closes' t lt).kg ∙ rw (cells_is e, e.count) (same_totals n o _ _ moved 2 (omega arith)) ∙ sym (closes t lt).kg)

    -- the totals of the last year
    pub total_same : total_kg l' (closed_book l' (open_book l' b')) ≡ total_kg l (closed_book l (open_book l b))
    unfolding total_kg closed_book
    total_same =
        let fits = (checked_passed l b (length x) tests).0 in
        let fits' = (checked_passed l' b' (length x') tests').0 in
        rw (← opened_book l b fits, ← opened_book l' b' fits', horizon_is e) (kg_sum_is (closed (horizon l) (le_refl _)))

  answer_same : (forecast_effect l' b' x').answer ≡ (forecast_effect l b x).answer
  unfolding forecast_effect forecast_answer
  answer_same = after_both (λ (a a' : Answer). a' ≡ a) _ _ _ _ (ap (λ (a : Answer). a.done) (sym tests_same)) tests_same (λ tests. ap accepted (total_same tests))

pub every_forecast : EveryForecast
unfolding forecast_effect
every_forecast n o l b x l' b' x' e long long' valid =
    record {
      answer_is = answer_same e b x b' x' long long' valid;
      years_are = λ done. years_same e b x b' x' long long' valid (answer_tests l b (length x) done);
      book_moved = λ done. book_same e b x b' x' long long' valid (answer_tests l b (length x) done);
      beyond = λ k le. (output_beyond l b x k le, output_beyond l' b' x' k (rw (horizon_is e) le));
    }
