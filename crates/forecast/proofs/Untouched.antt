-- What lies beyond the words and numbers that a forecast needs is untouched. Assumes nothing.
use mathlib.Core.Path.{◌≡◌, refl}
use mathlib.Core.List.{List, [], ◌∷◌}
use Prim.Native.Nat.{ℕ, ◌+◌, ◌*◌, ◌≤◌}
use native.Mathlib.Omega.{arith}
use lib.ListN.{length}
use borrow.Author.Tests.{leb-true}
use Rattle.words.proofs.Answers.{need_accepted}
use Rattle.listing.specs.Layout.{horizon}
use Rattle.book.specs.Current.{current}
use Rattle.book.proofs.AcceptedBook.{shaped, fitted_accepted}
use Rattle.opening.specs.Opening.{open_book}
use Rattle.years.specs.Years.{entries_after, after_closings}
use Rattle.ledger.specs.Calls.{UntouchedFrom}
use Rattle.ledger.proofs.Untouched.{committed, filled_beyond, new_beyond}
use Rattle.forecast.specs.Forecast.{year_kg, closed_book, output_after, output_checked, forecast_answer, forecast_effect}
use Rattle.forecast.specs.Closings.{EveryForecastUntouched}
use Rattle.forecast.proofs.EveryYear.{tests_passed}
use Rattle.forecast.proofs.Running.{ran_years}

output_untouched : (l b x : List ℕ) → horizon l ≤ length x → UntouchedFrom (horizon l) x (output_after l b x)
unfolding output_after
output_untouched l b x capacity =
    let all : 0 + 1 * horizon l ≡ horizon l = omega arith in
    rw all at (filled_beyond 1 x 0 (λ t. year_kg l (after_closings l b t) ∷ []) (horizon l) (λ t. refl) (omega arith))

pub every_forecast_untouched : EveryForecastUntouched
unfolding forecast_effect output_checked
every_forecast_untouched l b x =
    record {
      book = committed _ (forecast_answer l b (length x)) b (closed_book l (open_book l b))
          (λ e.
          let fits = (tests_passed l b (length x) e).0 in
          rw (ran_years l b fits) (new_beyond l b (horizon l) 0 (entries_after l (horizon l)) (fitted_accepted current l b shaped fits)));
      output =
          committed _ (forecast_answer l b (length x)) x (output_after l (open_book l b) x)
          (λ e. output_untouched l (open_book l b) x (leb-true _ _ (need_accepted _ _ _ _ (tests_passed l b (length x) e).1).0));
    }
