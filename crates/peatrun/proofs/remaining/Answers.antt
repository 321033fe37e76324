-- `peatrun::remaining` meets its contract: the statement is not refused. Assumes nothing.
use mathlib.Core.Bool.{false≢true}
use Rattle.peatrun.proofs.Years.{stated_passed, stated_remaining}
use Rattle.peatrun.proofs.remaining.Goals as goal

pub returns-in_default : goal.returns-in_default
returns-in_default c = absurd (false≢true (stated_passed _ _ _ c.requires.0 c.requires.1 _ c.in_default.ensures))

pub returns : goal.returns
returns c = stated_remaining _ _ _ c.requires.0 c.requires.1 _ c.in-Ok.ensures
