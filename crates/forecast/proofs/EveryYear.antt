-- Every year of a forecast is an accepted closing. Assumes nothing.
use mathlib.Core.Path.{◌≡◌, refl, sym, ap, ◌∙◌}
use mathlib.Core.Bool.{true}
use mathlib.Core.List.{List, [], ◌∷◌}
use Prim.Native.Nat.{ℕ, zero-le, ◌+◌, ◌*◌, ◌≤◌, ◌<◌}
use native.Mathlib.Omega.{arith}
use lib.ListN.{length, get_or}
use borrow.Author.Tests.{leb-true}
use Rattle.words.specs.Answers.{Answer, accepted}
use Rattle.words.proofs.Answers.{need_accepted, after_accepted, after_is}
use Rattle.words.specs.Effect.{written}
use Rattle.words.proofs.Blocks.{filled_word, filled_behind}
use Rattle.words.proofs.Effect.{written_new}
use Rattle.words.proofs.Signed.{by_test}
use Rattle.words.proofs.Sums.{sum_same}
use Rattle.listing.specs.Layout.{cells, horizon}
use Rattle.book.specs.Current.{current, fitted}
use Rattle.book.specs.Layout.{line_words}
use Rattle.book.proofs.AcceptedBook.{shaped, fitted_accepted}
use Rattle.opening.specs.Opening.{open_book}
use Rattle.closing.specs.Closing.{book_after, close_answer}
use Rattle.closing.proofs.Closable.{closable_before, closes}
use Rattle.years.specs.Years.{after_closings}
use Rattle.years.proofs.Held.{every_years}
use Rattle.ledger.specs.Calls.{open_effect, close_effect}
use Rattle.ledger.proofs.After.{closed_line}
use Rattle.forecast.specs.Forecast.{year_kg, closed_book, output_after, output_checked, forecast_checked, forecast_answer, forecast_effect}
use Rattle.forecast.specs.Running.{Ready}
use Rattle.forecast.specs.Closings.{Closes, EveryYear}

-- ---- an accepted forecast passed its tests

module _ (l b : List ℕ) (capacity : ℕ) where
  pub checked_passed : (forecast_checked l b capacity).done ≡ true → ((fitted l b).done ≡ true) × ((output_checked l capacity).done ≡ true)
  unfolding forecast_checked
  checked_passed h = after_accepted _ _ h

  pub answer_tests : (forecast_answer l b capacity).done ≡ true → (forecast_checked l b capacity).done ≡ true
  unfolding forecast_answer
  answer_tests h = (after_accepted _ _ h).0

  pub tests_answer : (forecast_checked l b capacity).done ≡ true → (forecast_answer l b capacity).done ≡ true
  unfolding forecast_answer
  tests_answer h = sym (ap (λ (a : Answer). a.done) (after_is _ (forecast_checked l b capacity) h))

  pub tests_passed : (forecast_answer l b capacity).done ≡ true → ((fitted l b).done ≡ true) × ((output_checked l capacity).done ≡ true)
  tests_passed h = checked_passed (answer_tests h)

-- ---- the years of an opened book

module _ (l b : List ℕ) (fits : (fitted l b).done ≡ true) where
  abbrev after : ℕ → List ℕ
  after = after_closings l (open_book l b)

  year_done : (y : List ℕ) → line_words * cells l ≤ length y → (t : ℕ) → t < horizon l → (close_effect l (after t) y).answer.done ≡ true
  unfolding close_effect
  year_done y capacity t lt =
      let held = (every_years l b fits t (omega arith)).holds in
      closes l (after t) (length y) (closable_before l (after t) (length y) capacity (omega (arith, held.year_is)) held.admits)

  -- x is an output whose numbers are the years' kg
  year_closes : (x : List ℕ) → ((t : ℕ) → t < horizon l → get_or x t 0 ≡ year_kg l (after t)) → (y : List ℕ) → line_words * cells l ≤ length y →
      (t : ℕ) → t < horizon l → Closes l (open_book l b) x t y
  unfolding close_effect after_closings year_kg
  year_closes x number y capacity t lt =
      let done = year_done y capacity t lt in
      record {
        done = done;
        book = written_new (close_answer l (after t) (length y)) (after t) (book_after l (after t)) done;
        kg = number t lt ∙ sum_same _ _ (cells l) (λ i h. sym (closed_line l (after t) y done i h).2);
      }

-- the number of year t + 1
pub output_number : (l b x : List ℕ) (t : ℕ) → t < horizon l → get_or (output_after l b x) t 0 ≡ year_kg l (after_closings l b t)
unfolding output_after
output_number l b x t lt =
    let e : 0 + 1 * t + 0 ≡ t = omega arith in
    rw e at (filled_word 1 x 0 (λ t. year_kg l (after_closings l b t) ∷ []) (λ t. refl) zero-le (horizon l) t 0 lt (omega arith))

-- what open leaves where it is accepted, and what the forecast does
pub opened_book : (l b : List ℕ) → (fitted l b).done ≡ true → (open_effect l b).book ≡ open_book l b
unfolding open_effect
opened_book l b fits = written_new (fitted l b) b (open_book l b) fits

module _ (l b x : List ℕ) (h : (forecast_effect l b x).answer.done ≡ true) where
  forecast_book : (forecast_effect l b x).book ≡ after_closings l (open_book l b) (horizon l)
  unfolding forecast_effect closed_book
  forecast_book = written_new (forecast_answer l b (length x)) b (after_closings l (open_book l b) (horizon l)) h

  pub forecast_output : (forecast_effect l b x).output ≡ output_after l (open_book l b) x
  unfolding forecast_effect
  forecast_output = written_new (forecast_answer l b (length x)) x (output_after l (open_book l b) x) h

pub every_year : EveryYear
unfolding forecast_effect open_effect
every_year l b x h =
    let fits = (tests_passed l b (length x) h).0 in
    let same = opened_book l b fits in
    record {
      opens = fits;
      closes = rw (same, forecast_output l b x h) (year_closes l b fits _ (output_number l (open_book l b) x));
      book_is = rw same (forecast_book l b x h);
    }

-- beyond the horizon the output is as it was
pub output_beyond : (l b x : List ℕ) (k : ℕ) → horizon l ≤ k → get_or (forecast_effect l b x).output k 0 ≡ get_or x k 0
unfolding forecast_effect output_after written
output_beyond l b x k le =
    by_test (λ (y : List ℕ). get_or y k 0 ≡ get_or x k 0) (forecast_answer l b (length x)).done _ x
    (λ done. filled_behind 1 x 0 _ (λ t. refl) zero-le (horizon l) k (omega arith))
    (λ refused. refl)

-- ---- a forecast whose tests were passed: what its years are given

module _ (l b : List ℕ) (capacity : ℕ) (x : ℕ) (e : accepted x ≡ forecast_checked l b capacity) where
  passed : ((fitted l b).done ≡ true) × ((output_checked l capacity).done ≡ true)
  passed = checked_passed l b capacity (ap (λ (a : Answer). a.done) (sym e))

  pub forecast_fits : (fitted l b).done ≡ true
  forecast_fits = passed.0

  pub ready : Ready l b capacity
  unfolding output_checked
  ready = record { fitted = fitted_accepted current l b shaped passed.0; enough = leb-true _ _ (need_accepted _ _ _ _ passed.1).0 }
