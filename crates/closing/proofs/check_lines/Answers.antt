-- `closing::check_lines` meets its contract: its test is the definition's. Assumes nothing.
use Rattle.listing.proofs.Accepted.{listing_cells}
use Rattle.closing.specs.Closing.{lines_checked}
use Rattle.closing.proofs.check_lines.Goals as goal

pub returns : goal.returns
unfolding lines_checked
returns c = rw (c.need.ensures, listing_cells c.args.listing.now)
