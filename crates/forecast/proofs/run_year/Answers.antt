-- `forecast::run_year` meets its contract: iteration i adds the year to cell i, and its kg to date to the total. Assumes nothing.
use mathlib.Core.Path.{◌≡◌}
use Prim.Native.Nat.{◌<◌}
use native.Mathlib.Nat.{le_refl}
use native.Mathlib.Omega.{arith}
use lib.ListN.{get_or}
use Rattle.listing.specs.Layout.{cells}
use Rattle.listing.proofs.Accepted.{listing_cells}
use Rattle.forecast.specs.declared.CellToDate.{CellToDate}
use Rattle.forecast.specs.Running.{cell_after}
use Rattle.forecast.proofs.Loop.{year_none, iteration_within, iteration_cell, iteration_fits, year_step, year_all}
use Rattle.forecast.proofs.run_year.Goals as goal
use Rattle.forecast.proofs.run_year.Goals.{In-loop-i}

pub loop-i-init : goal.loop-i-init
loop-i-init c = year_none c.args.listing.now.accepted c.requires.1 c.requires.0

-- the iteration of cell i
there : (n : In-loop-i) → n.loop-i.i < cells n.args.listing.now.words.now
there n = omega (arith, listing_cells n.args.listing.now, n.loop-i-test.true)

-- the cell that was read
read : (n : In-loop-i) → (d : CellToDate) → get_or n.loop-i.all n.loop-i.i d ≡ cell_after n.args.listing.now.words.now n.args.closed_years n.loop-i.i
read n d = n.loop-i.invariant.stepped.left n.loop-i.i d (le_refl n.loop-i.i) (there n)

pub slice_copy_out-run_cell : goal.slice_copy_out-run_cell
slice_copy_out-run_cell c =
    omega (arith, iteration_within c.args.listing.now.accepted c.requires.1 c.loop-i.invariant (there (goal.at.slice_copy_out-run_cell c).In-loop-i))

pub bounds-all-i : goal.bounds-all-i
bounds-all-i c =
    omega (arith, iteration_within c.args.listing.now.accepted c.requires.1 c.loop-i.invariant (there (goal.at.bounds-all-i c).In-loop-i))

pub run_cell-after-requires : goal.run_cell-after-requires
run_cell-after-requires c =
    let n = (goal.at.run_cell-after-requires c).In-loop-i in
    iteration_cell c.args.listing.now.accepted c.requires.1 c.loop-i.invariant (there n) (read n _)

pub overflow_add-total : goal.overflow_add-total
overflow_add-total c =
    let n = (goal.at.overflow_add-total c).In-loop-i in
    record { fits = rw c.from-total.ensures (iteration_fits c.args.listing.now.accepted c.requires.1 c.loop-i.invariant (there n) (read n _) c.run_cell-after.ensures) }

pub loop-i-preserved : goal.loop-i-preserved
loop-i-preserved c =
    let n = (goal.at.loop-i-preserved c).In-loop-i in
    rw c.from-total.ensures (year_step c.args.listing.now.accepted c.requires.1 c.loop-i.invariant (there n) (read n _) c.run_cell-after.ensures)

pub returns-clause-value : goal.returns-clause-value
returns-clause-value c = (year_all c.loop-i.invariant (omega (arith, c.loop-i-test.false, listing_cells c.args.listing.now))).0

pub returns-clause-new_cells : goal.returns-clause-new_cells
returns-clause-new_cells c = (year_all c.loop-i.invariant (omega (arith, c.loop-i-test.false, listing_cells c.args.listing.now))).1
