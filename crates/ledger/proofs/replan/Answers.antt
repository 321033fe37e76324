-- `ledger::replan` meets its contract: the plan year is written where the tests were passed. Assumes nothing.
use mathlib.Core.Path.{ap, ◌∙◌}
use Prim.Native.Nat.{◌^◌, ◌<◌}
use Rattle.words.proofs.Effect.{commit_passed, commit_refused}
use Rattle.year.specs.Year.{planned}
use Rattle.year.specs.declared.Entry.{Entry}
use Rattle.book.specs.Current.{with_plan}
use Rattle.ledger.specs.Calls.{replan_effect}
use Rattle.ledger.specs.AdmittedCell.{AdmittedCell}
use Rattle.ledger.proofs.AdmittedCell.{replan_by}
use Rattle.ledger.proofs.replan.Goals as goal
use Rattle.ledger.proofs.replan.Goals.{In_ok-open}

-- the tests were passed
unwithdrawn : (c : In_ok-open) → AdmittedCell c.args.listing.now c.args.book.now c.args.cell × (c.args.year < 2 ^ 8)
unwithdrawn c = replan_by _ _ _ _ _ c.in_ok-open.ensures.value

-- first, so that another entry is refused here
pub returns : goal.returns
unfolding replan_effect
returns c =
    let answered = c.in_ok-open.ensures in
    commit_passed _ _ answered.value _ _ _
    (c.put_plan.ensures ∙ ap (with_plan c.args.book.now c.args.cell) (c.planned.ensures ∙ ap (λ (e : Entry). planned e c.args.year) (rw answered.same_book at c.entry-e.ensures)))

pub returns-in_err-open : goal.returns-in_err-open
unfolding replan_effect
returns-in_err-open c = commit_refused _ _ _ _ c.from_residual.ensures.1 c.in_err-open.ensures.value _ _

pub put_plan-requires : goal.put_plan-requires
put_plan-requires c =
    let r = unwithdrawn (goal.at.put_plan-requires c).In_ok-open in
    (r.0.capacity, rw c.planned.ensures r.1)

pub entry-e-requires : goal.entry-e-requires
entry-e-requires c = rw c.in_ok-open.ensures.same_listing (unwithdrawn (goal.at.entry-e-requires c).In_ok-open).0.there
