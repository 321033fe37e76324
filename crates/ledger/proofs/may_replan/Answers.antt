-- `ledger::may_replan` meets its contract: that the cell is not withdrawn comes first. Assumes nothing.
use Rattle.words.proofs.Answers.{refused_on, after_first, after_next}
use Rattle.ledger.proofs.AdmittedCell.{unwithdrawn_by}
use Rattle.ledger.specs.Calls.{replan_answer}
use Rattle.ledger.proofs.may_replan.Goals as goal

pub check_plan-requires : goal.check_plan-requires
check_plan-requires c = let answered = c.in_ok-open.ensures in rw answered.same_listing (unwithdrawn_by _ _ _ _ answered.value).there

pub returns-in_err-open-clause-value : goal.returns-in_err-open-clause-value
unfolding replan_answer
returns-in_err-open-clause-value c = refused_on _ _ _ _ c.from_residual.ensures.1 (after_first _ _ _ _ c.in_err-open.ensures.value)

pub returns-in_err-check_plan-clause-value : goal.returns-in_err-check_plan-clause-value
unfolding replan_answer
returns-in_err-check_plan-clause-value c =
    let answered = c.in_ok-open.ensures in
    refused_on _ _ _ _ c.from_residual-in_err-check_plan.ensures.1 (after_next _ _ _ _ answered.value (rw (answered.same_listing, answered.same_book) at c.in_err-check_plan.ensures))

pub returns-clause-value : goal.returns-clause-value
unfolding replan_answer
returns-clause-value c =
    let answered = c.in_ok-open.ensures in
    after_next _ _ _ _ answered.value (rw (answered.same_listing, answered.same_book) at c.in_ok-check_plan.ensures)
