-- `balance::peat_tonnes` meets its contract: a thousand kg are a tonne. Assumes nothing.
use Rattle.balance.specs.Balance.{peat_tonnes}
use Rattle.balance.proofs.peat_tonnes.Goals as goal

pub returns : goal.returns
unfolding peat_tonnes
returns c = rw c.kg_to_date.ensures
