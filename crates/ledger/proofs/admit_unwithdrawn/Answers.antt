-- `ledger::admit_unwithdrawn` meets its contract: the tests of the cell come first. Assumes nothing.
use Rattle.words.proofs.Answers.{refused_on, after_first, after_next}
use Rattle.ledger.proofs.AdmittedCell.{admitted_cell_by}
use Rattle.ledger.specs.Calls.{admitted_unwithdrawn}
use Rattle.ledger.proofs.admit_unwithdrawn.Goals as goal

pub check_mark-requires : goal.check_mark-requires
check_mark-requires c = let answered = c.in_ok-open.ensures in rw answered.same_listing (admitted_cell_by _ _ _ _ answered.value).there

pub returns-in_err-open-clause-value : goal.returns-in_err-open-clause-value
unfolding admitted_unwithdrawn
returns-in_err-open-clause-value c = refused_on _ _ _ _ c.from_residual.ensures.1 (after_first _ _ _ _ c.in_err-open.ensures.value)

pub returns-in_err-check_mark-clause-value : goal.returns-in_err-check_mark-clause-value
unfolding admitted_unwithdrawn
returns-in_err-check_mark-clause-value c =
    let answered = c.in_ok-open.ensures in
    refused_on _ _ _ _ c.from_residual-in_err-check_mark.ensures.1 (after_next _ _ _ _ answered.value (rw answered.same_book at c.in_err-check_mark.ensures))

pub returns-clause-value : goal.returns-clause-value
unfolding admitted_unwithdrawn
returns-clause-value c =
    let answered = c.in_ok-open.ensures in
    after_next _ _ _ _ answered.value (rw answered.same_book at c.in_ok-check_mark.ensures)
