-- `forecast::opened_cell` meets its contract: nothing is lost before the first year. Assumes nothing.
use Rattle.forecast.proofs.Loop.{opened_is}
use Rattle.forecast.proofs.opened_cell.Goals as goal

pub returns : goal.returns
returns c = opened_is c.args.listing.now.words.now c.args.i c.cell.ensures
