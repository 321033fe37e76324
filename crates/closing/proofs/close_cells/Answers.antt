-- `closing::close_cells` meets its contract: iteration i is lent cell i's words as they were at the start, and leaves the closed ones. Assumes nothing.
use Prim.Native.Nat.{◌<◌}
use native.Mathlib.Omega.{arith}
use lib.ListN.{length-take, length-drop}
use Rattle.listing.specs.Layout.{cells}
use Rattle.listing.proofs.Accepted.{listing_cells}
use Rattle.closing.proofs.Loop.{progress_none, iteration_cell_year, iteration_fits, progress_next, progress_all}
use Rattle.closing.proofs.close_cells.Goals as goal
use Rattle.closing.proofs.close_cells.Goals.{In-loop-i}

pub loop-i-init : goal.loop-i-init
loop-i-init c = progress_none _ c.requires.1

-- the iteration of cell i
there : (n : In-loop-i) → n.loop-i.i < cells n.args.listing.now.words.now
there n = omega (arith, listing_cells n.args.listing.now, n.loop-i-test.true)

pub close_cell-s-requires : goal.close_cell-s-requires
close_cell-s-requires c =
    let t = c.loop-i in
    iteration_cell_year _ c.requires.1 c.requires.0 t.i (there (goal.at.close_cell-s-requires c).In-loop-i) t.invariant _ c.entry_at-a.ensures

pub put_lines-requires : goal.put_lines-requires
put_lines-requires c =
    let t = c.loop-i in
    let lt = there (goal.at.put_lines-requires c).In-loop-i in
    let fits = iteration_fits _ c.requires.1 c.requires.0 t.i lt t.invariant _ c.entry_at-a.ensures c.close_cell-s.ensures.value in
    (simp (length-take, length-drop) (omega arith), fits.0, fits.1, fits.2)

pub loop-i-preserved : goal.loop-i-preserved
loop-i-preserved c =
    let t = c.loop-i in
    let answered = c.close_cell-s.ensures in
    progress_next _ c.requires.1 c.requires.0 t.i (there (goal.at.loop-i-preserved c).In-loop-i) t.invariant _ c.entry_at-a.ensures answered.value answered.new_entry c.put_lines.ensures

pub returns-clause-new_lines : goal.returns-clause-new_lines
returns-clause-new_lines c = (progress_all c.loop-i.invariant (omega (arith, listing_cells c.args.listing.now))).1
