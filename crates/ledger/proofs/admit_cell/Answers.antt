-- `ledger::admit_cell` meets its contract: what every call checks comes first. Assumes nothing.
use Rattle.words.proofs.Answers.{refused_on, after_first, after_next}
use Rattle.ledger.specs.Calls.{admitted_cell}
use Rattle.ledger.proofs.admit_cell.Goals as goal

pub returns-in_err-open-clause-value : goal.returns-in_err-open-clause-value
unfolding admitted_cell
returns-in_err-open-clause-value c = refused_on _ _ _ _ c.from_residual.ensures.1 (after_first _ _ _ _ c.in_err-open.ensures.value)

pub returns-in_err-check_cell-clause-value : goal.returns-in_err-check_cell-clause-value
unfolding admitted_cell
returns-in_err-check_cell-clause-value c =
    let answered = c.in_ok-open.ensures in
    refused_on _ _ _ _ c.from_residual-in_err-check_cell.ensures.1 (after_next _ _ _ _ answered.value (rw answered.same_listing at c.in_err-check_cell.ensures))

pub returns-clause-value : goal.returns-clause-value
unfolding admitted_cell
returns-clause-value c =
    let answered = c.in_ok-open.ensures in
    after_next _ _ _ _ answered.value (rw answered.same_listing at c.in_ok-check_cell.ensures)
