-- `dips::dips` meets its contract: where the recordings are not refused, the figures of the walk are answered. Assumes nothing.
use Rattle.std.proofs.Common.{sym, ap}
use Rattle.words.specs.Answers.{Answer}
use Rattle.words.proofs.Answers.{with_refused, with_passed}
use Rattle.dips.specs.Dips.{dips}
use Rattle.dips.proofs.Days.{accepted_by}
use Rattle.dips.proofs.dips.Goals as goal

pub returns-in_err-check : goal.returns-in_err-check
unfolding dips
returns-in_err-check c = with_refused _ _ _ _ _ c.from_residual.ensures.1 c.in_err-check.ensures

pub pair-requires : goal.pair-requires
pair-requires c = accepted_by _ _ (ap (λ (a : Answer). a.done) (sym c.in_ok-check.ensures))

pub returns : goal.returns
unfolding dips
returns c = with_passed _ _ _ _ c.in_ok-check.ensures c.pair.ensures
