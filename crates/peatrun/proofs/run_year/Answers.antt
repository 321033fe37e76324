-- `peatrun::run_year` meets its contract: neither the closing nor the issue is refused. Assumes nothing.
use mathlib.Core.Path.{refl}
use mathlib.Core.Bool.{false≢true}
use Rattle.peatrun.proofs.Years.{closed_passed, issued_passed, ran}
use Rattle.peatrun.proofs.run_year.Goals as goal

pub returns-in_default : goal.returns-in_default
returns-in_default c = absurd (false≢true (closed_passed _ _ _ c.requires _ _ _ c.in_default.ensures))

pub returns-in_default-issue : goal.returns-in_default-issue
returns-in_default-issue c = absurd (false≢true (issued_passed _ _ _ c.requires _ _ _ c.in-Ok.ensures _ _ c.in_default-issue.ensures))

pub returns : goal.returns
returns c = ran _ _ _ c.requires _ _ _ c.in-Ok.ensures _ _ c.in-Ok-issue.ensures _ refl refl
