-- `book::check_capacity` meets its contract: its test is the definition's. Assumes nothing.
use Rattle.listing.proofs.Accepted.{listing_cells}
use Rattle.book.specs.Check.{capacity_checked}
use Rattle.book.proofs.check_capacity.Goals as goal

pub returns : goal.returns
unfolding capacity_checked
returns c = rw (c.need.ensures, c.entry_at-size.ensures, listing_cells c.args.listing.now)
