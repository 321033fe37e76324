-- `discount::root` meets its contract: every step is at least the root, and where the loop ends its square is not above n. Assumes nothing.
use Prim.Native.Nat.{◌+◌, ◌<◌, ◌≤◌}
use Rattle.discount.specs.Discount.{square}
use Rattle.discount.specs.Bounds.{root_limit}
use Rattle.discount.proofs.root.Given as goal

abbrev pub invariant-loop-r : goal.invariant-loop-r
invariant-loop-r l = (l.n < square (l.r + 1)) × (l.r ≤ root_limit)

abbrev pub decreases-loop-r : goal.decreases-loop-r
decreases-loop-r l = l.r
