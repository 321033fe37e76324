-- `ledger::check_mark` meets its contract: its test is the definition's. Assumes nothing.
use Rattle.ledger.specs.Calls.{mark_checked}
use Rattle.ledger.proofs.check_mark.Goals as goal

pub returns : goal.returns
unfolding mark_checked
returns c = rw (c.need.ensures, c.entry-e.ensures)
