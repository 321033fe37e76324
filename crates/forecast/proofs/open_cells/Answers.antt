-- `forecast::open_cells` meets its contract: iteration i opens cell i. Assumes nothing.
use native.Mathlib.Omega.{arith}
use Rattle.listing.proofs.Accepted.{listing_cells}
use Rattle.forecast.proofs.Loop.{opened_none, stepped_next, cells_all}
use Rattle.forecast.proofs.open_cells.Goals as goal

pub loop-i-init : goal.loop-i-init
loop-i-init c = opened_none _ c.requires

pub loop-i-preserved : goal.loop-i-preserved
loop-i-preserved c = stepped_next c.loop-i.invariant (omega (arith, c.loop-i-test.true, listing_cells c.args.listing.now)) c.opened_cell.ensures

pub returns : goal.returns
returns c = cells_all c.loop-i.invariant (omega (arith, c.loop-i-test.false, listing_cells c.args.listing.now))
