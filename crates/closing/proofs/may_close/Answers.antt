-- `closing::may_close` meets its contract: 7 to 9 come after the listing's tests and the book's length. Assumes nothing.
use mathlib.Core.Path.{◌≡◌}
use Rattle.words.specs.Answers.{Answer, after}
use Rattle.words.proofs.Answers.{refused_on, after_first, after_next}
use Rattle.book.specs.Current.{current, fitted, Fitted}
use Rattle.book.proofs.AcceptedBook.{shaped, fitted_by, checked_by}
use Rattle.closing.specs.Closing.{lines_checked, year_checked, close_answer}
use Rattle.closing.proofs.may_close.Goals as goal
use Rattle.closing.proofs.may_close.Goals.{In_ok-accepted, In_ok-check_lines, In_ok-check_book}

-- past each test, on the words that were passed
fits : (c : In_ok-accepted) → Fitted c.args.listing.now c.args.book.now
fits c = fitted_by current _ _ shaped _ c.in_ok-accepted.ensures.value

past_lines : (c : In_ok-check_lines) → {next v : Answer} → v ≡ next → v ≡ after (fitted c.args.listing.now c.args.book.now) (after (lines_checked c.args.listing.now c.args.capacity) next)
past_lines c e =
    let fits = c.in_ok-accepted.ensures in
    after_next _ _ _ _ fits.value (after_next _ _ _ _ (rw fits.same_words at c.in_ok-check_lines.ensures) e)

past_book : (c : In_ok-check_book) → {v : Answer} → v ≡ year_checked c.args.listing.now c.args.book.now → v ≡ close_answer c.args.listing.now c.args.book.now c.args.capacity
unfolding close_answer
past_book c e =
    past_lines (goal.at.In_ok-check_book c).In_ok-check_lines (after_next _ _ _ _ (rw c.in_ok-accepted.ensures.same_words at c.in_ok-check_book.ensures) e)

pub check_book-requires : goal.check_book-requires
check_book-requires c =
    rw c.in_ok-accepted.ensures.same_words (fits (goal.at.check_book-requires c).In_ok-accepted)

pub invariant_of-open : goal.invariant_of-open
invariant_of-open c =
    let same = c.in_ok-accepted.ensures.same_words in
    rw same (record { accepted = checked_by current _ _ shaped _ (fits (goal.at.invariant_of-open c).In_ok-accepted) (rw same at c.in_ok-check_book.ensures) })

pub returns-in_err-accepted-clause-value : goal.returns-in_err-accepted-clause-value
unfolding close_answer
returns-in_err-accepted-clause-value c = refused_on _ _ _ _ c.from_residual.ensures.1 (after_first _ _ _ _ c.in_err-accepted.ensures.value)

pub returns-in_err-check_lines-clause-value : goal.returns-in_err-check_lines-clause-value
unfolding close_answer
returns-in_err-check_lines-clause-value c =
    let fits = c.in_ok-accepted.ensures in
    refused_on _ _ _ _ c.from_residual-in_err-check_lines.ensures.1 (after_next _ _ _ _ fits.value (after_first _ _ _ _ (rw fits.same_words at c.in_err-check_lines.ensures)))

pub returns-in_err-check_book-clause-value : goal.returns-in_err-check_book-clause-value
unfolding close_answer
returns-in_err-check_book-clause-value c =
    refused_on _ _ _ _ c.from_residual-in_err-check_book.ensures.1
    (past_lines (goal.at.returns-in_err-check_book-clause-value c).In_ok-check_lines (after_first _ _ _ _ (rw c.in_ok-accepted.ensures.same_words at c.in_err-check_book.ensures)))

pub returns-in_err-check_year-clause-value : goal.returns-in_err-check_year-clause-value
returns-in_err-check_year-clause-value c =
    refused_on _ _ _ _ c.from_residual-in_err-check_year.ensures.1
    (past_book (goal.at.returns-in_err-check_year-clause-value c).In_ok-check_book (rw c.in_ok-accepted.ensures.same_words at c.in_err-check_year.ensures))

pub returns-clause-value : goal.returns-clause-value
returns-clause-value c =
    past_book (goal.at.returns-clause-value c).In_ok-check_book (rw c.in_ok-accepted.ensures.same_words at c.in_ok-check_year.ensures)
