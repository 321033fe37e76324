-- `peatrun::read` ends: each iteration that goes on has read a byte. Assumes nothing.
use Rattle.std.proofs.Common.{length, ◌-◌}
use Rattle.peatrun.proofs.read.Given as goal

abbrev pub decreases-loop-done : goal.decreases-loop-done
decreases-loop-done g l = length l.buffer - l.done
