-- `forecast::run_active` meets its contract: the year's mm are those of the row of the cell's own stratum and age. Assumes nothing.
use mathlib.Core.Path.{◌≡◌}
use Prim.Native.Nat.{◌+◌}
use native.Mathlib.Omega.{arith}
use Rattle.listing.specs.Layout.{head, row}
use Rattle.year.specs.Year.{age, year_mm}
use Rattle.year.specs.Limits.{WithinLimits}
use Rattle.forecast.specs.Running.{entry_to_date}
use Rattle.forecast.proofs.Loop.{active_fit, active_is, then_fit, nothing_is, lost_is}
use Rattle.forecast.proofs.run_active.Goals as goal
use Rattle.forecast.proofs.run_active.Goals.{After-active_row-r, After-mm_of-m}

-- the row that was read
row_is : (c : After-active_row-r) → c.active_row-r.result ≡ row c.args.listing.now.words.now c.args.before.cell.stratum (age c.args.before.cell.conversion c.args.year)
row_is c = rw c.entry_to_date-e.ensures at c.active_row-r.ensures

pub mm_of-m-requires : goal.mm_of-m-requires
mm_of-m-requires c =
    rw (c.args.listing.now.is_head, c.entry_to_date-e.ensures)
    (active_fit c.args.listing.now.words.now c.args.before c.args.year c.args.listing.now.accepted c.requires.0 (row_is (goal.at.mm_of-m-requires c).After-active_row-r))

-- the year's mm, and that the mm to date fit then
module _ (c : After-mm_of-m) where
  mm_is : c.mm_of-m.result ≡ year_mm (head c.args.listing.now.words.now) (row c.args.listing.now.words.now) c.args.before.cell (entry_to_date c.args.before) c.args.year
  mm_is =
      active_is c.args.listing.now.words.now c.args.before c.args.year c.args.listing.now.accepted c.requires.0 (row_is (goal.at.After-mm_of-m c).After-active_row-r) c.requires.1
      (rw (c.args.listing.now.is_head, c.entry_to_date-e.ensures) at c.mm_of-m.ensures)

  fit : WithinLimits (head c.args.listing.now.words.now) c.args.before.cell (c.args.before.lost.oxidised + c.mm_of-m.result.oxidised)
      (c.args.before.lost.burned + c.mm_of-m.result.burned)
  fit = then_fit c.args.listing.now.words.now c.args.before c.args.year mm_is c.args.listing.now.accepted c.requires.0

pub overflow_add-m : goal.overflow_add-m
overflow_add-m c = let f = fit (goal.at.overflow_add-m c).After-mm_of-m in record { fits = omega (arith, f.lost, f.cell_valid.entered) }

pub overflow_add-lost : goal.overflow_add-lost
overflow_add-lost c = let f = fit (goal.at.overflow_add-lost c).After-mm_of-m in record { fits = omega (arith, f.lost, f.cell_valid.entered) }

pub overflow_add-lost-2 : goal.overflow_add-lost-2
overflow_add-lost-2 c = let f = fit (goal.at.overflow_add-lost-2 c).After-mm_of-m in record { fits = omega (arith, f.lost, f.cell_valid.entered) }

pub emission-kg-requires : goal.emission-kg-requires
emission-kg-requires c =
    let f = fit (goal.at.emission-kg-requires c).After-mm_of-m in
    rw c.args.listing.now.is_head (record { head_valid = f.head_valid; cell_valid = f.cell_valid; lost = omega (arith, f.lost) })

pub returns-then-m-eq0 : goal.returns-then-m-eq0
returns-then-m-eq0 c =
    nothing_is c.args.listing.now.words.now c.args.before c.args.year (mm_is (goal.at.returns-then-m-eq0 c).After-mm_of-m) c.requires.2 (omega (arith, c.if-m-eq0.true))

pub returns : goal.returns
returns c =
    lost_is c.args.listing.now.words.now c.args.before c.args.year (mm_is (goal.at.returns c).After-mm_of-m) (rw c.args.listing.now.is_head at c.emission-kg.ensures)
