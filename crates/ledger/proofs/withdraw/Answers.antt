-- `ledger::withdraw` meets its contract: the mark is written, with the plan year that was there. Assumes nothing.
use mathlib.Core.Path.{ap, ◌∙◌}
use native.Mathlib.Omega.{arith}
use Rattle.words.proofs.Effect.{commit_passed, commit_refused}
use Rattle.year.specs.Year.{marked}
use Rattle.year.specs.declared.Entry.{Entry}
use Rattle.book.specs.Current.{with_plan}
use Rattle.ledger.specs.Calls.{withdraw_effect}
use Rattle.ledger.specs.AdmittedCell.{AdmittedCell}
use Rattle.ledger.proofs.AdmittedCell.{unwithdrawn_by}
use Rattle.ledger.proofs.withdraw.Goals as goal
use Rattle.ledger.proofs.withdraw.Goals.{In_ok-open}

-- the tests were passed
unwithdrawn : (c : In_ok-open) → AdmittedCell c.args.listing.now c.args.book.now c.args.cell
unwithdrawn c = unwithdrawn_by _ _ _ _ c.in_ok-open.ensures.value

-- first, so that another entry is refused here
pub returns : goal.returns
unfolding withdraw_effect
returns c =
    let answered = c.in_ok-open.ensures in
    commit_passed _ _ answered.value _ _ _
    (c.put_plan.ensures ∙ ap (with_plan c.args.book.now c.args.cell) (c.marked.ensures ∙ ap marked (rw answered.same_book at c.entry-e.ensures)))

pub returns-in_err-open : goal.returns-in_err-open
unfolding withdraw_effect
returns-in_err-open c = commit_refused _ _ _ _ c.from_residual.ensures.1 c.in_err-open.ensures.value _ _

pub put_plan-requires : goal.put_plan-requires
put_plan-requires c =
    let r = unwithdrawn (goal.at.put_plan-requires c).In_ok-open in
    let entry = rw c.in_ok-open.ensures.same_book at c.entry-e.ensures in
    (r.capacity, rw c.marked.ensures (omega (arith, ap (λ (e : Entry). e.plan) entry, r.entry_valid.plan, r.accepted_book.fitted.accepted.head_valid.horizon.1)))

pub entry-e-requires : goal.entry-e-requires
entry-e-requires c = rw c.in_ok-open.ensures.same_listing (unwithdrawn (goal.at.entry-e-requires c).In_ok-open).there
