-- `reading::levels` meets its contract: its test is the definition's, by the millimetres of both above the lowest. Assumes nothing.
use mathlib.Core.Path.{◌≡◌, refl}
use mathlib.Core.Bool.{◌&&◌}
use Prim.Native.Nat.{◌-◌}
use lib.Dec.{leb}
use borrow.Author.Tests.{leb-true}
use Rattle.words.specs.Answers.{Answer, accepted, need}
use Rattle.words.specs.Refusals.{out_of_range}
use Rattle.words.proofs.Answers.{refused_on, need_stops, need_passes, need_held, and_left, flag_true}
use Rattle.reading.specs.Depth.{most_depth, levels}
use Rattle.reading.proofs.Lowest.{pair_by}
use Rattle.reading.proofs.levels.Goals as goal
use Rattle.reading.proofs.levels.Goals.{After-mm_above_lowest-b}

-- both are levels here
tested : (c : After-mm_above_lowest-b) → {v : Answer} →
    let s = c.mm_above_lowest-s.result in
    let b = c.mm_above_lowest-b.result in
    v ≡ need (leb b s && leb (s - b) most_depth) out_of_range 2 (accepted (s - b)) → v ≡ levels c.args.surface c.args.base
tested c e =
    pair_by _ _ _ _ (flag_true _ _ c.in_level.ensures c.if-not-in_level.false) (flag_true _ _ c.in_level-else-not-in_level.ensures c.if-not-in_level-2.false)
    c.mm_above_lowest-s.ensures c.mm_above_lowest-b.ensures _ e

pub returns-in_err-need : goal.returns-in_err-need
returns-in_err-need c =
    refused_on _ _ _ _ c.from_residual.ensures.1
    (tested (goal.at.returns-in_err-need c).After-mm_above_lowest-b (need_stops _ _ _ _ _ _ (rw c.saturating_sub.ensures at c.in_err-need.ensures)))

pub overflow_sub-result : goal.overflow_sub-result
overflow_sub-result c = leb-true _ _ (and_left _ _ (need_held _ _ _ _ c.in_ok-need.ensures))

pub returns : goal.returns
returns c = tested (goal.at.returns c).After-mm_above_lowest-b (need_passes _ _ _ _ _ _ (rw c.saturating_sub.ensures at c.in_ok-need.ensures) refl)
