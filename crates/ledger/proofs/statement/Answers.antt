-- `ledger::statement` meets its contract: where the cell is admitted, its figures are answered. Assumes nothing.
use Rattle.words.proofs.Answers.{with_refused, with_passed}
use Rattle.ledger.specs.Calls.{statement_answer}
use Rattle.ledger.proofs.AdmittedCell.{admitted_cell_by}
use Rattle.ledger.proofs.statement.Goals as goal

pub figures_of-requires : goal.figures_of-requires
figures_of-requires c = let answered = c.in_ok-open.ensures in rw answered.same_listing (admitted_cell_by _ _ _ _ answered.value).there

pub returns-in_err-open : goal.returns-in_err-open
unfolding statement_answer
returns-in_err-open c = with_refused _ _ _ _ _ c.from_residual.ensures.1 c.in_err-open.ensures.value

pub returns : goal.returns
unfolding statement_answer
returns c =
    let answered = c.in_ok-open.ensures in
    with_passed _ _ _ _ answered.value (rw (answered.same_listing, answered.same_book) at c.figures_of.ensures)
