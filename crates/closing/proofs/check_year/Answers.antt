-- `closing::check_year` meets its contract: its test is the definition's, since no line of a valid book is too large. Assumes nothing.
use Rattle.listing.proofs.Accepted.{listing_horizon}
use Rattle.closing.proofs.Closable.{year_checked_is}
use Rattle.closing.proofs.check_year.Goals as goal

pub returns : goal.returns
returns c = rw (c.need.ensures, c.year.ensures, listing_horizon c.args.book.now.listing, year_checked_is _ _ c.args.book.now.accepted)
