-- `book::admit` meets its contract: what `fits` tests comes before the book's words. Assumes nothing.
use Rattle.words.proofs.Answers.{refused_on, after_first, after_next}
use Rattle.book.specs.Check.{admitted}
use Rattle.book.proofs.AcceptedBook.{fitted_by}
use Rattle.book.proofs.admit.Goals as goal

pub check_book-requires : goal.check_book-requires
check_book-requires c =
    let fits = c.in_ok-accepted.ensures in
    rw fits.same_words (fitted_by _ _ _ c.requires _ fits.value)

pub returns-in_err-accepted-clause-value : goal.returns-in_err-accepted-clause-value
unfolding admitted
returns-in_err-accepted-clause-value c = refused_on _ _ _ _ c.from_residual.ensures.1 (after_first _ _ _ _ c.in_err-accepted.ensures.value)

pub returns-in_err-check_book-clause-value : goal.returns-in_err-check_book-clause-value
unfolding admitted
returns-in_err-check_book-clause-value c =
    let fits = c.in_ok-accepted.ensures in
    refused_on _ _ _ _ c.from_residual-in_err-check_book.ensures.1 (after_next _ _ _ _ fits.value (rw fits.same_words at c.in_err-check_book.ensures))

pub returns-clause-value : goal.returns-clause-value
unfolding admitted
returns-clause-value c =
    let fits = c.in_ok-accepted.ensures in
    after_next _ _ _ _ fits.value (rw fits.same_words at c.in_ok-check_book.ensures)
