-- `capi::peat_dips` meets its contract: the answer is exported as it is. Assumes nothing.
use Rattle.capi.proofs.peat_dips.Goals as goal

pub returns : goal.returns
returns c = rw (c.from.ensures, c.dips.ensures)
