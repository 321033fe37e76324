-- `ledger::check_cell` meets its contract: its test is the definition's. Assumes nothing.
use Rattle.listing.proofs.Accepted.{listing_cells}
use Rattle.ledger.specs.Calls.{cell_checked}
use Rattle.ledger.proofs.check_cell.Goals as goal

pub returns : goal.returns
unfolding cell_checked
returns c = rw (c.need.ensures, listing_cells c.args.listing.now)
