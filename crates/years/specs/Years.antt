-- A cell's own years: every year is closed, without replanning or withdrawal. They follow from the listing l alone; `EveryYears` says that the
-- book, opened and then closed t times, holds exactly these, and proofs/Held.antt proves it. `EveryLevel` says how deep a cell's losses go, and
-- proofs/Level.antt proves it.
use Rattle.std.specs.Prelude.{◌≡◌, true, false, List, ℕ, zero, suc, ◌+◌, ◌≤◌, ◌<◌}
use Rattle.listing.specs.Layout.{cells, horizon, row, cell}
use Rattle.year.specs.Year.{unconverted, age, drainage_level, no_loss, after_loss}
use Rattle.year.specs.declared.Entry.{Entry}
use Rattle.year.specs.declared.Loss.{Loss}
use Rattle.book.specs.Current.{new_book, fitted, Holds}
use Rattle.opening.specs.Opening.{open_entry, open_book}
use Rattle.closing.specs.Closing.{cell_loss, loss, book_after}

-- the entries of the cells after t years: opened, then with each year's mm added
unfoldable pub entries_after : List ℕ → ℕ → ℕ → Entry
entries_after l zero i = open_entry l i
entries_after l (suc t) i = after_loss (entries_after l t i) (cell_loss l (t + 1) i (entries_after l t i))

-- what cell i loses in the year t + 1
abbrev pub loss_in : List ℕ → ℕ → ℕ → Loss
loss_in l i t = cell_loss l (t + 1) i (entries_after l t i)

-- book b after t closings
unfoldable pub after_closings : List ℕ → List ℕ → ℕ → List ℕ
after_closings l b zero = b
after_closings l b (suc t) = book_after l (after_closings l b t)

-- the opened book b after t closings: it is the book of year t with these entries, it is accepted and holds them, and what its next closing
-- works out for each cell is the cell's loss in the year t + 1
pub record HeldYears (l b : List ℕ) (t : ℕ) : Type 0 where
  pub book_is : after_closings l (open_book l b) t ≡ new_book l b t 0 (entries_after l t)
  pub holds : Holds l (after_closings l (open_book l b) t) t 0 (entries_after l t)
  pub loss_is : (i : ℕ) → i < cells l → loss l (after_closings l (open_book l b) t) i ≡ loss_in l i t

abbrev pub EveryYears : Type 0
EveryYears = (l b : List ℕ) → (fitted l b).done ≡ true → (t : ℕ) → t ≤ horizon l → HeldYears l b t

-- ---- how deep a cell's losses go

-- the mm that cell i has lost after t years
abbrev pub lost_after : List ℕ → ℕ → ℕ → ℕ
lost_after l t i = (entries_after l t i).oxidised + (entries_after l t i).burned

-- if it is converted by the year t + 1, its drainage level then is at most m mm
abbrev pub OwnLevelAtMost : List ℕ → ℕ → ℕ → ℕ → Type 0
OwnLevelAtMost l m t i =
    let plan = (cell l i).conversion in
    unconverted plan (t + 1) ≡ false → drainage_level (row l (cell l i).stratum (age plan (t + 1))) ≤ m

-- a cell loses no more than down to the deepest of its drainage levels so far; and in a year whose level is no deeper than what it has lost,
-- so that d is 0, it loses nothing
pub record WithinLevel (l : List ℕ) (t i : ℕ) : Type 0 where
  pub within : (m : ℕ) → ((u : ℕ) → u < t → OwnLevelAtMost l m u i) → lost_after l t i ≤ m
  pub unchanged : OwnLevelAtMost l (lost_after l t i) t i → loss_in l i t ≡ no_loss

abbrev pub EveryLevel : Type 0
EveryLevel = (l : List ℕ) (t i : ℕ) → WithinLevel l t i
