-- The forecast's years are accepted closings of the opened scratch book: what it leaves and writes is what `open` and then `close`, once for
-- each year, leave and write. So number 14 can't arise in it.
use Rattle.std.specs.Prelude.{◌≡◌, true, ℕ, suc, ◌*◌, ◌≤◌, ◌<◌, List, length, get_or}
use Rattle.words.specs.Sums.{sum_below}
use Rattle.listing.specs.Layout.{cells, horizon}
use Rattle.book.specs.Current.{book_size}
use Rattle.book.specs.Layout.{line_words, kg_line}
use Rattle.years.specs.Years.{after_closings}
use Rattle.ledger.specs.Calls.{open_effect, close_effect, UntouchedFrom}
use Rattle.forecast.specs.Forecast.{total_kg, forecast_effect}

-- the closing of year t + 1, with a lines buffer y, of the book b that open wrote: it is accepted, leaves the book of the year after, and its
-- kg lines add up to the year's number in the output x
pub record Closes (l b x : List ℕ) (t : ℕ) (y : List ℕ) : Type 0 where
  pub done : (close_effect l (after_closings l b t) y).answer.done ≡ true
  pub book : (close_effect l (after_closings l b t) y).book ≡ after_closings l b (suc t)
  pub kg : get_or x t 0 ≡ sum_below (kg_line (close_effect l (after_closings l b t) y).output) (cells l)

-- an accepted forecast with scratch book b and output x: open accepts the book, every year of it closes so, and the book that is left is the
-- one after the last year
pub record ClosedYears (l b x : List ℕ) : Type 0 where
  pub opens : (open_effect l b).answer.done ≡ true
  pub closes : (y : List ℕ) → line_words * cells l ≤ length y → (t : ℕ) → t < horizon l → Closes l (open_effect l b).book (forecast_effect l b x).output t y
  pub book_is : (forecast_effect l b x).book ≡ after_closings l (open_effect l b).book (horizon l)

-- for every listing, scratch book and output; proofs/EveryYear.antt proves it
abbrev pub EveryYear : Type 0
EveryYear = (l b x : List ℕ) → (forecast_effect l b x).answer.done ≡ true → ClosedYears l b x

-- the first t numbers of an output, added up
abbrev pub numbers_sum : List ℕ → ℕ → ℕ
numbers_sum x t = sum_below (λ k. get_or x k 0) t

-- document 02, "A faster forecast": after each year t of an accepted forecast its numbers so far add up to the kg to date of all cells in the book then, and
-- the numbers of all years to the answer
pub record AddedUp (l b x : List ℕ) : Type 0 where
  pub so_far : (t : ℕ) → t ≤ horizon l → numbers_sum (forecast_effect l b x).output t ≡ total_kg l (after_closings l (open_effect l b).book t)
  pub all : numbers_sum (forecast_effect l b x).output (horizon l) ≡ (forecast_effect l b x).answer.value

-- for every listing, scratch book and output; proofs/EveryTotal.antt proves it
abbrev pub EveryTotal : Type 0
EveryTotal = (l b x : List ℕ) → (forecast_effect l b x).answer.done ≡ true → AddedUp l b x

-- words of the scratch book and numbers of the output beyond those needed are untouched; proofs/Untouched.antt proves it of every forecast
pub record ForecastUntouched (l b x : List ℕ) : Type 0 where
  pub book : UntouchedFrom (book_size (cells l)) b (forecast_effect l b x).book
  pub output : UntouchedFrom (horizon l) x (forecast_effect l b x).output

abbrev pub EveryForecastUntouched : Type 0
EveryForecastUntouched = (l b x : List ℕ) → ForecastUntouched l b x
