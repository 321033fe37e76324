-- `discount::root` meets its contract: every step is at least the root, and where the loop ends its square is not above n. Assumes nothing.
use native.Mathlib.Omega.{arith}
use Rattle.discount.specs.Bounds.{root_limit}
use Rattle.discount.proofs.Newton.{Between, step_above, step_between}
use Rattle.discount.proofs.root.Goals as goal
use Rattle.discount.proofs.root.Goals.{After-newton_step, After-newton_step-2, After-newton_step-r, Joined-n-lt16000000, else-n-lt16000000, then-n-lt16000000}

-- each of the first three steps
from : (c : Joined-n-lt16000000) → Between 2496 root_limit c.if-n-lt16000000.middle
from c =
    elim c.if-n-lt16000000.branch [
      | then-n-lt16000000 w ↦ record { low = omega arith; high = omega arith }
      | else-n-lt16000000 w ↦ record { low = omega arith; high = omega arith }
    ]

first : (c : After-newton_step) → Between 1248 root_limit c.newton_step.result
first c = step_between _ _ _ 1248 root_limit (omega arith) (from c.before) c.newton_step.ensures

second : (c : After-newton_step-2) → Between 624 root_limit c.newton_step-2.result
second c = step_between _ _ _ 624 root_limit (omega arith) (first c.before) c.newton_step-2.ensures

third : (c : After-newton_step-r) → Between 312 root_limit c.newton_step-r.result
third c = step_between _ _ _ 312 root_limit (omega arith) (second c.before) c.newton_step-r.ensures

pub newton_step-requires : goal.newton_step-requires
newton_step-requires c = let b = from c in omega (arith, b.low, b.high)

pub newton_step-requires-2 : goal.newton_step-requires-2
newton_step-requires-2 c = let b = first c in omega (arith, b.low, b.high)

pub newton_step-r-requires : goal.newton_step-r-requires
newton_step-r-requires c = let b = second c in omega (arith, b.low, b.high)

pub loop-r-init : goal.loop-r-init
loop-r-init c = (step_above _ _ _ (let b = (second c.before).low in omega arith) c.newton_step-r.ensures, (third c).high)
