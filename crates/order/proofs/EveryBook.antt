-- A call on any listing and any book is refused in every order of the cells or in none, by the same number. Assumes nothing.
use mathlib.Core.Path.{◌≡◌, ap}
use mathlib.Core.Bool.{true}
use mathlib.Core.List.{List}
use Prim.Native.Nat.{ℕ}
use lib.ListN.{length}
use Rattle.words.specs.Answers.{accepted}
use Rattle.words.proofs.Answers.{after_accepted}
use Rattle.listing.specs.Check.{checked}
use Rattle.book.specs.Current.{fitted}
use Rattle.book.specs.Check as check
use Rattle.ledger.specs.Calls.{statement_answer}
use Rattle.forecast.specs.Forecast.{output_checked, forecast_checked, forecast_answer, forecast_effect}
use Rattle.forecast.proofs.EveryYear.{checked_passed}
use Rattle.order.specs.Order.{EveryBook}
use Rattle.order.proofs.Listings.{horizon_is}
use Rattle.order.proofs.EveryForecast.{total_same}
use Rattle.order.proofs.Starts.{start_alike}
use Rattle.order.proofs.Calls.{next, equal, admitted_cell_by, call_by, book_same, related, pair_alike}

-- a book fits a valid listing alone
fitted_checked : (l b : List ℕ) → (fitted l b).done ≡ true → (checked l).done ≡ true
unfolding check.fitted
fitted_checked l b h = (after_accepted _ _ h).0

pub every_book : EveryBook
unfolding statement_answer forecast_effect forecast_answer forecast_checked output_checked
every_book n o l b l' b' p =
    let v = pair_alike p in
    let r = related p in
    let called = call_by v r in
    record {
      started = λ from old' c' eb long. start_alike p.listing from old' c' eb long;
      called = called;
      book_moved = λ c y long. book_same v c y (called c y long).done_is;
      stated = admitted_cell_by v r;
      forecasted =
          λ x x' long.
          next r (next r r.fits (λ done. equal r (rw (long, horizon_is p.listing))))
          (λ tests. equal r (ap accepted (total_same p.listing b x b' x' p.length_is long (fitted_checked l b (checked_passed l b (length x) tests).0) tests)));
    }
