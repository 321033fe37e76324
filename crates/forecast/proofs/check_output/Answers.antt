-- `forecast::check_output` meets its contract: its test is the definition's. Assumes nothing.
use Rattle.listing.proofs.Accepted.{listing_horizon}
use Rattle.forecast.specs.Forecast.{output_checked}
use Rattle.forecast.proofs.check_output.Goals as goal

pub returns : goal.returns
unfolding output_checked
returns c = rw (c.need.ensures, listing_horizon c.args.listing.now)
