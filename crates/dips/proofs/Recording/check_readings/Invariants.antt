-- `Recording::check_readings` meets its contract: the dips before `at` were passed. Assumes nothing.
use Rattle.dips.specs.Dips.{recorded}
use Rattle.dips.proofs.Readings.{PassedTo}
use Rattle.dips.proofs.Recording.check_readings.Given as goal

abbrev pub invariant-loop-at : goal.invariant-loop-at
invariant-loop-at l = PassedTo (recorded l.self) l.at
