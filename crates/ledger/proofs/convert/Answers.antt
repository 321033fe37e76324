-- `ledger::convert` meets its contract: an old book that is accepted is converted, and otherwise the new slice is left as it was. Assumes nothing.
use native.Mathlib.Omega.{arith}
use Rattle.words.proofs.Effect.{commit_passed, commit_refused}
use Rattle.book.specs.Current.{current}
use Rattle.book.specs.Layout.{issued_in_one_word}
use Rattle.book.proofs.AcceptedBook.{shaped, one_word_shaped}
use Rattle.converting.proofs.Convertible.{convertible_by}
use Rattle.ledger.specs.Calls.{convert_effect}
use Rattle.ledger.proofs.convert.Goals as goal

pub may_convert-requires : goal.may_convert-requires
may_convert-requires c = (one_word_shaped, shaped)

pub convert_book-requires : goal.convert_book-requires
convert_book-requires c =
    let answered = c.in_ok-accepted.ensures in
    rw answered.same_words (convertible_by issued_in_one_word current one_word_shaped shaped (omega arith) c.args.listing.now c.args.old.now c.args.new.now _ answered.value)

pub returns-in_err-accepted : goal.returns-in_err-accepted
unfolding convert_effect
returns-in_err-accepted c = commit_refused _ _ _ _ c.from_residual.ensures.1 c.in_err-accepted.ensures.value _ _

pub returns : goal.returns
unfolding convert_effect
returns c = let answered = c.in_ok-accepted.ensures in commit_passed _ _ answered.value _ _ _ (rw answered.same_words at c.convert_book.ensures)
