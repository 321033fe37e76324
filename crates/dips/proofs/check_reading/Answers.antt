-- `check_reading` meets its contract: the number of a core depth, at another place. Assumes nothing.
use Rattle.dips.proofs.Readings.{reading_passed, reading_refused}
use Rattle.dips.proofs.check_reading.Goals as goal

pub returns-in-Ok : goal.returns-in-Ok
returns-in-Ok c = reading_passed _ _ _ (rw c.in-Ok.is at c.core.ensures)

pub returns-in-Err : goal.returns-in-Err
returns-in-Err c = rw c.refuse.ensures (reading_refused _ _ _ _ (rw c.in-Err.is at c.core.ensures))
