-- `ledger::open` meets its contract: a book that fits is written, and another is left as it was. Assumes nothing.
use Rattle.words.proofs.Effect.{commit_passed, commit_refused}
use Rattle.book.proofs.AcceptedBook.{shaped, fitted_by}
use Rattle.ledger.specs.Calls.{open_effect}
use Rattle.ledger.proofs.open.Goals as goal

pub fits-requires : goal.fits-requires
fits-requires c = shaped

pub open_book-requires : goal.open_book-requires
open_book-requires c = let fits = c.in_ok-accepted.ensures in rw fits.same_words (fitted_by _ _ _ shaped _ fits.value)

pub returns-in_err-accepted : goal.returns-in_err-accepted
unfolding open_effect
returns-in_err-accepted c = commit_refused _ _ _ _ c.from_residual.ensures.1 c.in_err-accepted.ensures.value _ _

pub returns : goal.returns
unfolding open_effect
returns c = let fits = c.in_ok-accepted.ensures in commit_passed _ _ fits.value _ _ _ (rw fits.same_words at c.open_book.ensures)
