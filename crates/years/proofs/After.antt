-- A cell's entry after t years. Assumes nothing.
use mathlib.Core.Path.{◌≡◌, refl, sym, ap}
use mathlib.Core.Bool.{false}
use mathlib.Core.List.{List}
use Prim.Native.Nat.{ℕ, zero, suc, ◌+◌, ◌≤◌, ◌<◌}
use native.Mathlib.Numerals.{add-one}
use native.Mathlib.Omega.{arith}
use Rattle.listing.specs.Layout.{head, cells, row, cell}
use Rattle.listing.specs.Accepted.{Accepted}
use Rattle.year.specs.Year.{most_loss, after_loss}
use Rattle.year.proofs.Laws.{most_entered, year_most}
use Rattle.book.specs.AcceptedBook.{Storable, EntryValid}
use Rattle.book.proofs.Held.{valid_storable}
use Rattle.years.specs.Years.{entries_after, loss_in}

-- it keeps its plan year, and has no mark
pub after_plan : (l : List ℕ) (i t : ℕ) → ((entries_after l t i).withdrawn ≡ false) × ((entries_after l t i).plan ≡ (cell l i).conversion)
unfolding entries_after
after_plan l i zero = (refl, refl)
after_plan l i (suc t) = after_plan l i t

-- a year more
pub after_next : (l : List ℕ) (i t : ℕ) → after_loss (entries_after l t i) (loss_in l i t) ≡ entries_after l (t + 1) i
unfolding entries_after
after_next l i t = ap (λ (n : ℕ). entries_after l n i) (sym (add-one t))

module _ {l : List ℕ} (a : Accepted l) (i : ℕ) (lt : i < cells l) where
  after_most : (t : ℕ) → (entries_after l t i).oxidised + (entries_after l t i).burned ≤ most_loss (head l) (cell l i)
  unfolding entries_after
  after_most zero = omega arith
  after_most (suc t) = year_most (head l) (row l) (cell l i) (entries_after l t i) (t + 1) (after_most t)

  pub after_valid : (t : ℕ) → EntryValid (head l) (cell l i) (entries_after l t i)
  after_valid t =
      record {
        plan = rw (after_plan l i t).1 (a.cell_valid i lt).conversion;
        most = after_most t;
        lost = omega (arith, after_most t, most_entered (head l) (cell l i));
      }

  -- its figures fit their words
  pub after_storable : (t : ℕ) → Storable (entries_after l t i)
  after_storable t = valid_storable a.head_valid (a.cell_valid i lt) (entries_after l t i) (after_valid t)
