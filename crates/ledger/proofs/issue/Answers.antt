-- `ledger::issue` meets its contract: what is due is answered, and added to what was issued. Assumes nothing.
use mathlib.Core.Path.{◌≡◌, ap, ap₂, ◌∙◌}
use Prim.Native.Nat.{◌+◌, ◌*◌, ◌^◌, ◌<◌}
use native.Mathlib.Omega.{arith}
use Rattle.words.specs.Answers.{accepted}
use Rattle.words.proofs.Answers.{after_first, after_next}
use Rattle.words.proofs.Effect.{commit_passed, commit_refused}
use Rattle.book.specs.Current.{current, issued, with_issued, AcceptedBook}
use Rattle.book.specs.Layout.{issued_words}
use Rattle.book.proofs.AcceptedBook.{shaped, accepted_book_by}
use Rattle.balance.specs.Balance.{tonnes_due}
use Rattle.balance.proofs.Bounds.{issued_fits}
use Rattle.ledger.specs.Calls.{issue_answer, issue_effect}
use Rattle.ledger.proofs.issue.Goals as goal
use Rattle.ledger.proofs.issue.Goals.{In_ok-open, After-from}

-- the tests were passed
accepted_book : (c : In_ok-open) → AcceptedBook c.args.listing.now c.args.book.now
accepted_book c = accepted_book_by current _ _ shaped _ c.in_ok-open.ensures.value

-- what is due, what is issued then, and that it fits its words
module _ (c : After-from) where
  due_tonnes : c.tonnes_due-tonnes.result ≡ tonnes_due c.args.listing.now c.args.book.now
  due_tonnes = let answered = c.in_ok-open.ensures in rw (answered.same_listing, answered.same_book) at c.tonnes_due-tonnes.ensures

  sum : c.issued-issued.result + c.from.result ≡ issued c.args.book.now + tonnes_due c.args.listing.now c.args.book.now
  sum = ap₂ ◌+◌ (rw c.in_ok-open.ensures.same_book at c.issued-issued.ensures) (c.from.ensures ∙ due_tonnes)

  small : c.issued-issued.result + c.from.result < 2 ^ (28 * issued_words current)
  small = rw sum (issued_fits c.args.listing.now c.args.book.now (accepted_book (goal.at.After-from c).In_ok-open))

pub returns : goal.returns
unfolding issue_effect issue_answer
returns c =
    let from = (goal.at.returns c).After-from in
    commit_passed _ _ (after_next _ _ _ _ c.in_ok-open.ensures.value (ap accepted (due_tonnes from))) _ _ _
    (c.put_issued.ensures ∙ ap (with_issued c.args.book.now) (sum from))

pub returns-in_err-open : goal.returns-in_err-open
unfolding issue_effect issue_answer
returns-in_err-open c = commit_refused _ _ _ _ c.from_residual.ensures.1 (after_first _ _ _ _ c.in_err-open.ensures.value) _ _

pub overflow_add-issued : goal.overflow_add-issued
overflow_add-issued c = omega (arith, small (goal.at.overflow_add-issued c).After-from)

pub put_issued-requires : goal.put_issued-requires
put_issued-requires c =
    let capacity = (accepted_book (goal.at.put_issued-requires c).In_ok-open).fitted.capacity in
    (shaped, omega arith, small (goal.at.put_issued-requires c).After-from)
