-- `Recording::check_readings` meets its contract: the dips before `at` were passed. Assumes nothing.
use native.Mathlib.Omega.{arith}
use Rattle.words.proofs.Answers.{refused_on}
use Rattle.dips.proofs.Readings.{passed_next, passed_stop, passed_all}
use Rattle.dips.proofs.Recording.check_readings.Goals as goal

pub returns-in_err-check_dip : goal.returns-in_err-check_dip
returns-in_err-check_dip c =
    refused_on _ _ _ _ c.from_residual.ensures.1 (passed_stop c.loop-at.invariant c.loop-at-test.true _ _ (rw c.dip.ensures at c.in_err-check_dip.ensures))

pub loop-at-preserved : goal.loop-at-preserved
loop-at-preserved c = passed_next c.loop-at.invariant c.loop-at-test.true (rw c.dip.ensures at c.in_ok-check_dip.ensures)

pub returns : goal.returns
returns c = passed_all c.loop-at.invariant (omega (arith, c.loop-at-test.false))
