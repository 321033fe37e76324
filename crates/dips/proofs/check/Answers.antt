-- `check` meets its contract: its tests are the definition's, one after the other. Assumes nothing.
use mathlib.Core.Path.{◌≡◌}
use Rattle.words.specs.Answers.{Answer, after}
use Rattle.words.proofs.Answers.{refused_on, need_stops, need_passes, need_held, found_by, after_first, after_next}
use Rattle.dips.specs.Dips.{recorded, all_readings_checked, dips_checked}
use Rattle.dips.proofs.check.Goals as goal
use Rattle.dips.proofs.check.Goals.{In_ok-need-4}

-- each refusal by name, so that another place or another test is refused in its own place
pub returns-in_err-need : goal.returns-in_err-need
unfolding dips_checked
returns-in_err-need c = refused_on _ _ _ _ c.from_residual.ensures.1 (need_stops _ _ _ _ _ _ (rw c.same_length.ensures at c.in_err-need.ensures))

pub returns-in_err-need-2 : goal.returns-in_err-need-2
unfolding dips_checked
returns-in_err-need-2 c =
    refused_on _ _ _ _ c.from_residual-in_err-need-2.ensures.1
    (need_passes _ _ _ _ _ _ (rw c.same_length.ensures at c.in_ok-need.ensures)
    (need_stops _ _ _ _ _ _ (rw c.same_length-2.ensures at c.in_err-need-2.ensures)))

pub returns-in_err-need-3 : goal.returns-in_err-need-3
unfolding dips_checked
returns-in_err-need-3 c =
    refused_on _ _ _ _ c.from_residual-in_err-need-3.ensures.1
    (need_passes _ _ _ _ _ _ (rw c.same_length.ensures at c.in_ok-need.ensures)
    (need_passes _ _ _ _ _ _ (rw c.same_length-2.ensures at c.in_ok-need-2.ensures)
    (found_by _ _ _ _ _ _ c.first_day_not_above-place.ensures (need_stops _ _ _ _ _ _ c.in_err-need-3.ensures))))

pub returns-in_err-need-4 : goal.returns-in_err-need-4
unfolding dips_checked
returns-in_err-need-4 c =
    refused_on _ _ _ _ c.from_residual-in_err-need-4.ensures.1
    (need_passes _ _ _ _ _ _ (rw c.same_length.ensures at c.in_ok-need.ensures)
    (need_passes _ _ _ _ _ _ (rw c.same_length-2.ensures at c.in_ok-need-2.ensures)
    (found_by _ _ _ _ _ _ c.first_day_not_above-place.ensures
    (need_passes _ _ _ _ _ _ c.in_ok-need-3.ensures (found_by _ _ _ _ _ _ c.first_day_not_above-place-2.ensures (need_stops _ _ _ _ _ _ c.in_err-need-4.ensures))))))

-- past these tests the answer is that of the readings
past : (c : In_ok-need-4) → {v : Answer} → v ≡ after (all_readings_checked (recorded c.args.first.now)) (all_readings_checked (recorded c.args.second.now)) →
    v ≡ dips_checked (recorded c.args.first.now) (recorded c.args.second.now)
unfolding dips_checked
past c e =
    need_passes _ _ _ _ _ _ (rw c.same_length.ensures at c.in_ok-need.ensures)
    (need_passes _ _ _ _ _ _ (rw c.same_length-2.ensures at c.in_ok-need-2.ensures)
    (found_by _ _ _ _ _ _ c.first_day_not_above-place.ensures
    (need_passes _ _ _ _ _ _ c.in_ok-need-3.ensures
    (found_by _ _ _ _ _ _ c.first_day_not_above-place-2.ensures (need_passes _ _ _ _ _ _ c.in_ok-need-4.ensures e)))))

pub check_readings-requires : goal.check_readings-requires
check_readings-requires c = need_held _ _ _ _ (rw c.same_length.ensures at c.in_ok-need.ensures)

pub returns-in_err-check_readings : goal.returns-in_err-check_readings
returns-in_err-check_readings c =
    refused_on _ _ _ _ c.from_residual-in_err-check_readings.ensures.1 (past (goal.at.returns-in_err-check_readings c).In_ok-need-4 (after_first _ _ _ _ c.in_err-check_readings.ensures))

pub check_readings-requires-2 : goal.check_readings-requires-2
check_readings-requires-2 c = need_held _ _ _ _ (rw c.same_length-2.ensures at c.in_ok-need-2.ensures)

pub returns : goal.returns
returns c = past (goal.at.returns c).In_ok-need-4 (after_next _ _ _ _ c.in_ok-check_readings.ensures c.check_readings-2.ensures)
