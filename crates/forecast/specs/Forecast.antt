-- Document 01, "Forecast, readings, discount, program": the forecast takes a listing l, a scratch book b and an output x. It opens the scratch
-- book, closes every year, and writes each year's kg over all cells. Document 02, "A faster forecast": it answers the last total.
use Rattle.std.specs.Prelude.{ℕ, List, [], ◌∷◌, leb, length}
use Rattle.words.specs.Answers.{Answer, accepted, need, after}
use Rattle.words.specs.Blocks.{filled}
use Rattle.words.specs.Effect.{Effect, commit_both}
use Rattle.words.specs.Refusals.{output_short}
use Rattle.words.specs.Sums.{sum_below}
use Rattle.listing.specs.Layout.{cells, horizon}
use Rattle.book.specs.Current.{fitted, kg_to_date}
use Rattle.opening.specs.Opening.{open_book}
use Rattle.closing.specs.Closing.{loss}
use Rattle.years.specs.Years.{after_closings}

-- the kg over all cells of the closing of b
unfoldable pub year_kg : List ℕ → List ℕ → ℕ
year_kg l b = sum_below (λ i. (loss l b i).kg) (cells l)

-- the book after every year, and the output: year t + 1 at index t, and the numbers beyond the horizon untouched
unfoldable pub closed_book : List ℕ → List ℕ → List ℕ
closed_book l b = after_closings l b (horizon l)

unfoldable pub output_after : List ℕ → List ℕ → List ℕ → List ℕ
output_after l b x = filled 1 x 0 (λ t. year_kg l (after_closings l b t) ∷ []) (horizon l)

-- number 15: output below horizon numbers, place its length
unfoldable pub output_checked : List ℕ → ℕ → Answer
output_checked l capacity = need (leb (horizon l) capacity) output_short capacity (accepted 0)

-- the tests: 1 to 6, then 15
unfoldable pub forecast_checked : List ℕ → List ℕ → ℕ → Answer
forecast_checked l b capacity = after (fitted l b) (output_checked l capacity)

-- the kg to date of all cells in book b
unfoldable pub total_kg : List ℕ → List ℕ → ℕ
total_kg l b = sum_below (kg_to_date l b) (cells l)

-- where they are passed, the last total: that of the book after every year
unfoldable pub forecast_answer : List ℕ → List ℕ → ℕ → Answer
forecast_answer l b capacity = after (forecast_checked l b capacity) (accepted (total_kg l (closed_book l (open_book l b))))

-- where it is refused, neither slice is written
unfoldable pub forecast_effect : List ℕ → List ℕ → List ℕ → Effect
forecast_effect l b x =
    let opened = open_book l b in
    commit_both (forecast_answer l b (length x)) b (closed_book l opened) x (output_after l opened x)
