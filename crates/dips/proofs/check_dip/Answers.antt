-- `check_dip` meets its contract: the depth before the tolerance. Assumes nothing.
use Rattle.words.proofs.Answers.{refused_on, after_first, after_next}
use Rattle.dips.specs.Dips.{dip_checked}
use Rattle.dips.proofs.check_dip.Goals as goal

pub returns-in_err-check_reading : goal.returns-in_err-check_reading
unfolding dip_checked
returns-in_err-check_reading c = refused_on _ _ _ _ c.from_residual.ensures.1 (after_first _ _ _ _ c.in_err-check_reading.ensures)

pub returns : goal.returns
unfolding dip_checked
returns c = after_next _ _ _ _ c.in_ok-check_reading.ensures c.check_reading-2.ensures
