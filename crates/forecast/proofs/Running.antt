-- The running total goes up by each year's kg, and the closings of an opened book come to the cells' own years. Assumes nothing.
use mathlib.Core.Path.{◌≡◌, sym, ap, ◌∙◌}
use mathlib.Core.Bool.{true}
use mathlib.Core.List.{List, [], ◌∷◌}
use Prim.Native.Nat.{ℕ, ◌+◌, ◌-◌, ◌^◌, ◌≤◌, ◌<◌}
use native.Mathlib.Nat.{le_refl}
use native.Mathlib.Omega.{arith}
use Rattle.words.specs.Sums.{sum_below}
use Rattle.words.proofs.Blocks.{filled_same}
use Rattle.words.proofs.Sums.{sum_same, sum_most, sum_zero, sum_add}
use Rattle.listing.specs.Layout.{head, cells, horizon, row, cell}
use Rattle.listing.specs.Accepted.{Accepted}
use Rattle.year.specs.Year.{kg_of, most_emission}
use Rattle.year.specs.declared.Loss.{Loss}
use Rattle.year.proofs.Laws.{emission_most, emission_none, year_kg_lem}
use Rattle.book.specs.Current.{new_book, fitted}
use Rattle.book.proofs.AcceptedBook.{entry_fit}
use Rattle.opening.specs.Opening.{open_book}
use Rattle.years.specs.Years.{entries_after, loss_in, after_closings}
use Rattle.years.proofs.After.{after_next, after_valid}
use Rattle.years.proofs.Held.{every_years}
use Rattle.forecast.specs.Forecast.{year_kg, closed_book, output_after, total_kg}
use Rattle.forecast.specs.Running.{cell_after, total_after, output_of}

-- ---- the running total

module _ (l : List ℕ) where
  -- the kg of all cells in the year t + 1
  abbrev pub year_sum : ℕ → ℕ
  year_sum t = sum_below (λ i. (loss_in l i t).kg) (cells l)

  -- nothing before the first year
  pub total_none : 0 ≡ total_after l 0
  unfolding total_after entries_after
  total_none = sym (sum_same _ (λ i. 0) (cells l) (λ i lt. emission_none (head l) (cell l i)) ∙ sum_zero (cells l))

  -- a year more
  pub total_next : (t : ℕ) → total_after l t + year_sum t ≡ total_after l (t + 1)
  unfolding total_after
  total_next t =
      sym (sum_add (λ i. (cell_after l t i).kg) (λ i. (loss_in l i t).kg) (cells l))
      ∙ sum_same _ _ (cells l) (λ i lt. year_kg_lem (head l) (row l) (cell l i) (entries_after l t i) (t + 1) ∙ ap (kg_of (head l) (cell l i)) (after_next l i t))

  pub total_grows : (t : ℕ) → total_after l t ≤ total_after l (t + 1)
  total_grows t = omega (arith, total_next t)

-- by the limits of an accepted listing: of one cell, and of the first n
module _ {l : List ℕ} (a : Accepted l) (t : ℕ) where
  kg_most : (i : ℕ) → i < cells l → (cell_after l t i).kg ≤ most_emission
  kg_most i lt = emission_most (entry_fit l i (entries_after l t i) a lt (after_valid a i lt t))

  pub total_fits : (n : ℕ) → n ≤ cells l → sum_below (λ i. (cell_after l t i).kg) n < 2 ^ 64
  total_fits n le = omega (arith, sum_most (λ i. (cell_after l t i).kg) most_emission n (λ i lt. kg_most i (omega arith)), a.head_valid.cells)

-- ---- all years of an opened book

module _ (l b : List ℕ) (fits : (fitted l b).done ≡ true) where
  pub ran_years : closed_book l (open_book l b) ≡ new_book l b (horizon l) 0 (entries_after l (horizon l))
  unfolding closed_book
  ran_years = (every_years l b fits (horizon l) (le_refl _)).book_is

  -- the kg to date of all cells in the book of year t
  pub total_held : (t : ℕ) → t ≤ horizon l → total_kg l (after_closings l (open_book l b) t) ≡ total_after l t
  unfolding total_kg total_after
  total_held t le = sum_same _ _ (cells l) (λ i lt. ap (kg_of (head l) (cell l i)) ((every_years l b fits t le).holds.entry_is i lt))

  pub last_total : total_kg l (closed_book l (open_book l b)) ≡ total_after l (horizon l)
  unfolding closed_book
  last_total = total_held (horizon l) (le_refl _)

  -- the number of the year t + 1
  pub number_is : (t : ℕ) → t < horizon l → year_kg l (after_closings l (open_book l b) t) ≡ year_sum l t
  unfolding year_kg
  number_is t lt = sum_same _ _ (cells l) (λ i p. ap (λ (s : Loss). s.kg) ((every_years l b fits t (omega arith)).loss_is i p))

  pub output_is : (x : List ℕ) → output_after l (open_book l b) x ≡ output_of l x
  unfolding output_after output_of
  output_is x =
      filled_same 1 x 0 _ _ (horizon l)
      (λ t lt.
      let same : year_kg l (after_closings l (open_book l b) t) ≡ total_after l (t + 1) - total_after l t = omega (arith, number_is t lt, total_next l t) in
      ap (λ (n : ℕ). n ∷ []) same)
