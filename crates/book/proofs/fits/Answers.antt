-- `book::fits` meets its contract: the listing is tested before the book's length. Assumes nothing.
use Rattle.words.proofs.Answers.{refused_on, after_first, after_next}
use Rattle.book.specs.Check.{fitted}
use Rattle.book.proofs.fits.Goals as goal

pub returns-in_err-accepted-clause-value : goal.returns-in_err-accepted-clause-value
unfolding fitted
returns-in_err-accepted-clause-value c = refused_on _ _ _ _ c.from_residual.ensures.1 (after_first _ _ _ _ c.in_err-accepted.ensures.value)

pub returns-in_err-check_capacity-clause-value : goal.returns-in_err-check_capacity-clause-value
unfolding fitted
returns-in_err-check_capacity-clause-value c =
    let check = c.in_ok-accepted.ensures in
    refused_on _ _ _ _ c.from_residual-in_err-check_capacity.ensures.1 (after_next _ _ _ _ check.value (rw check.same_words at c.in_err-check_capacity.ensures))

pub returns-clause-value : goal.returns-clause-value
unfolding fitted
returns-clause-value c =
    let check = c.in_ok-accepted.ensures in
    after_next _ _ _ _ check.value (rw check.same_words at c.in_ok-check_capacity.ensures)
