-- `ledger::close` meets its contract: the tests decide, and only then is anything written. Assumes nothing.
use Rattle.words.proofs.Effect.{commit_both_passed, commit_both_refused}
use Rattle.closing.proofs.Closable.{closable_by}
use Rattle.ledger.specs.Calls.{close_effect}
use Rattle.ledger.proofs.close.Goals as goal

pub close_year-requires : goal.close_year-requires
close_year-requires c = let may = c.in_ok-accepted.ensures in rw may.same_words (closable_by _ _ _ _ may.value)

pub returns-in_err-accepted : goal.returns-in_err-accepted
unfolding close_effect
returns-in_err-accepted c = commit_both_refused _ _ _ _ c.from_residual.ensures.1 c.in_err-accepted.ensures.value _ _ _ _

pub returns : goal.returns
unfolding close_effect
returns c =
    let may = c.in_ok-accepted.ensures in
    let closed = rw may.same_words at c.close_year.ensures in
    commit_both_passed _ _ may.value _ _ _ _ _ _ closed.new_book closed.new_lines
