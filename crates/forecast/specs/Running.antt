-- What the forecast keeps from one year to the next: the cells as they are, and one running total. It is stated by the cells' own years, since the
-- book is written once, after the last; proofs/Running.antt proves that the closings of an opened book come to this.
use Rattle.std.specs.Prelude.{◌≡◌, false, List, [], ◌∷◌, ℕ, ◌+◌, ◌-◌, ◌≤◌, ◌<◌, length, get_or}
use Rattle.words.specs.Blocks.{filled}
use Rattle.words.specs.Sums.{sum_below}
use Rattle.fields.specs.declared.Head.{Head}
use Rattle.fields.specs.declared.Cell.{Cell}
use Rattle.listing.specs.Layout.{head, cells, horizon, row, cell}
use Rattle.year.specs.Year.{kg_of, year_loss, after_loss}
use Rattle.year.specs.declared.Entry.{Entry}
use Rattle.book.specs.Current.{Fitted}
use Rattle.years.specs.Years.{entries_after}
use Rattle.forecast.specs.declared.CellToDate.{CellToDate}

-- the entry of a cell that was only closed: no mark, the plan year of the listing, and its mm to date
abbrev pub entry_to_date : CellToDate → Entry
entry_to_date d = record { withdrawn = false; plan = d.cell.conversion; oxidised = d.lost.oxidised; burned = d.lost.burned }

-- a cell with the mm to date of an entry, and the entry's kg to date
abbrev pub cell_to_date : Head → Cell → Entry → CellToDate
cell_to_date h c e = record { cell = c; lost = record { oxidised = e.oxidised; burned = e.burned }; kg = kg_of h c e }

-- the cell after its year t, by the year rule: the mm of that year are added
abbrev pub next_cell : List ℕ → CellToDate → ℕ → CellToDate
next_cell l d t = cell_to_date (head l) d.cell (after_loss (entry_to_date d) (year_loss (head l) (row l) d.cell (entry_to_date d) t))

-- cell i after t years
abbrev pub cell_after : List ℕ → ℕ → ℕ → CellToDate
cell_after l t i = cell_to_date (head l) (cell l i) (entries_after l t i)

-- the first elements of xs are the cells of the listing after t years
pub record CellsAfter (l : List ℕ) (t : ℕ) (xs : List CellToDate) : Type 0 where
  pub enough : cells l ≤ length xs
  pub each : (i : ℕ) (d : CellToDate) → i < cells l → get_or xs i d ≡ cell_after l t i

-- the running total: the kg to date of all cells after t years
unfoldable pub total_after : List ℕ → ℕ → ℕ
total_after l t = sum_below (λ i. (cell_after l t i).kg) (cells l)

-- output x with the difference of two totals as each year's number; a total is never below the one before (proofs/Running.antt)
unfoldable pub output_of : List ℕ → List ℕ → List ℕ
output_of l x = filled 1 x 0 (λ t. (total_after l (t + 1) - total_after l t) ∷ []) (horizon l)

-- what the writing of all years is given: a book b that fits, and an output of `capacity` numbers
pub record Ready (l b : List ℕ) (capacity : ℕ) : Type 0 where
  pub fitted : Fitted l b
  pub enough : horizon l ≤ capacity
