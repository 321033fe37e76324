-- `converting::may_convert` meets its contract: the old book's length is tested before the new one's, and its words after that. Assumes nothing.
use mathlib.Core.Path.{◌≡◌}
use Rattle.words.specs.Answers.{Answer}
use Rattle.words.proofs.Answers.{refused_on, after_first, after_next}
use Rattle.book.specs.Check.{book_checked}
use Rattle.book.proofs.AcceptedBook.{fitted_by}
use Rattle.converting.specs.Converting.{convert_answer}
use Rattle.converting.proofs.may_convert.Goals as goal
use Rattle.converting.proofs.may_convert.Goals.{In_ok-check_capacity}

-- past both lengths, on the words that were passed
past_lengths : (c : In_ok-check_capacity) → {v : Answer} → v ≡ book_checked c.args.from c.args.listing.now c.args.old.now →
    v ≡ convert_answer c.args.from c.args.to c.args.listing.now c.args.old.now c.args.new.now
unfolding convert_answer
past_lengths c e =
    let fits = c.in_ok-accepted.ensures in
    after_next _ _ _ _ fits.value (after_next _ _ _ _ (rw fits.same_words at c.in_ok-check_capacity.ensures) e)

pub check_book-requires : goal.check_book-requires
check_book-requires c =
    let fits = c.in_ok-accepted.ensures in
    rw fits.same_words (fitted_by c.args.from c.args.listing.now c.args.old.now c.requires.0 _ fits.value)

pub returns-in_err-accepted-clause-value : goal.returns-in_err-accepted-clause-value
unfolding convert_answer
returns-in_err-accepted-clause-value c = refused_on _ _ _ _ c.from_residual.ensures.1 (after_first _ _ _ _ c.in_err-accepted.ensures.value)

pub returns-in_err-check_capacity-clause-value : goal.returns-in_err-check_capacity-clause-value
unfolding convert_answer
returns-in_err-check_capacity-clause-value c =
    let fits = c.in_ok-accepted.ensures in
    refused_on _ _ _ _ c.from_residual-in_err-check_capacity.ensures.1 (after_next _ _ _ _ fits.value (after_first _ _ _ _ (rw fits.same_words at c.in_err-check_capacity.ensures)))

pub returns-in_err-check_book-clause-value : goal.returns-in_err-check_book-clause-value
returns-in_err-check_book-clause-value c =
    refused_on _ _ _ _ c.from_residual-in_err-check_book.ensures.1
    (past_lengths (goal.at.returns-in_err-check_book-clause-value c).In_ok-check_capacity (rw c.in_ok-accepted.ensures.same_words at c.in_err-check_book.ensures))

pub returns-clause-value : goal.returns-clause-value
returns-clause-value c =
    past_lengths (goal.at.returns-clause-value c).In_ok-check_capacity (rw c.in_ok-accepted.ensures.same_words at c.in_ok-check_book.ensures)
