-- The numbers of a forecast add up to the kg to date, year by year, and to the answer. Assumes nothing.
use mathlib.Core.Path.{◌≡◌, sym, ap, ◌∙◌}
use mathlib.Core.Bool.{true}
use mathlib.Core.List.{List}
use Prim.Native.Nat.{ℕ, zero, suc, ◌≤◌}
use native.Mathlib.Nat.{le_refl}
use native.Mathlib.Numerals.{add-one}
use native.Mathlib.Omega.{arith}
use lib.ListN.{length, get_or}
use Rattle.words.specs.Answers.{Answer}
use Rattle.words.specs.Sums.{sum_below}
use Rattle.words.proofs.Answers.{after_is}
use Rattle.listing.specs.Layout.{horizon}
use Rattle.book.specs.Current.{fitted}
use Rattle.opening.specs.Opening.{open_book}
use Rattle.forecast.specs.Forecast.{closed_book, output_after, total_kg, forecast_checked, forecast_answer, forecast_effect}
use Rattle.forecast.specs.Running.{total_after}
use Rattle.forecast.specs.Closings.{numbers_sum, EveryTotal}
use Rattle.forecast.proofs.EveryYear.{tests_passed, answer_tests, opened_book, output_number, forecast_output}
use Rattle.forecast.proofs.Running.{year_sum, total_none, total_next, total_held, last_total, number_is}

module _ (l b x : List ℕ) (fits : (fitted l b).done ≡ true) where
  -- the number of each year is its kg, so the sum goes up as the running total
  sum_is : (t : ℕ) → t ≤ horizon l → numbers_sum (output_after l (open_book l b) x) t ≡ total_after l t
  unfolding sum_below
  sum_is zero le = total_none l
  sum_is (suc t) le =
      let so_far = sum_is t (omega arith) in
      let number : get_or (output_after l (open_book l b) x) t 0 ≡ year_sum l t = output_number l (open_book l b) x t (omega arith) ∙ number_is l b fits t (omega arith) in
      omega (arith, so_far, number, total_next l t, ap (total_after l) (add-one t))

-- what is answered where the tests were passed
answer_is : (l b : List ℕ) (capacity : ℕ) → (forecast_answer l b capacity).done ≡ true → (forecast_answer l b capacity).value ≡ total_kg l (closed_book l (open_book l b))
unfolding forecast_answer
answer_is l b capacity h = ap (λ (a : Answer). a.value) (sym (after_is _ (forecast_checked l b capacity) (answer_tests l b capacity h)))

pub every_total : EveryTotal
unfolding forecast_effect
every_total l b x h =
    let fits = (tests_passed l b (length x) h).0 in
    let output = forecast_output l b x h in
    let book = opened_book l b fits in
    record {
      so_far = λ t le. rw (output, book) (sum_is l b x fits t le ∙ sym (total_held l b fits t le));
      all = rw output (sum_is l b x fits (horizon l) (le_refl _) ∙ sym (last_total l b fits) ∙ sym (answer_is l b (length x) h));
    }
