-- `pair` meets its contract: at the places i and j, what was found before them and what is ahead make the whole. Assumes nothing.
use Prim.Native.Nat.{◌+◌, ◌-◌}
use lib.ListN.{length}
use Rattle.dips.specs.Dips.{recorded, day_differs}
use Rattle.dips.proofs.Walk.{Walked}
use Rattle.dips.proofs.pair.Given as goal

abbrev pub invariant-loop-i : goal.invariant-loop-i
invariant-loop-i l = Walked l.first.days.now l.second.days.now (day_differs (recorded l.first) (recorded l.second)) l.i l.j l.paired l.first_differing

abbrev pub decreases-loop-i : goal.decreases-loop-i
decreases-loop-i l = length l.first.days.now - l.i + (length l.second.days.now - l.j)
