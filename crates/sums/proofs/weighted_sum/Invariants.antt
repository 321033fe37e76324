-- `sums::weighted_sum` meets its contract: the sum so far and what is left make the whole, which fits. Assumes nothing.
use Rattle.std.proofs.Common.{◌≡◌, ◌+◌, drop}
use Rattle.sums.specs.Sums.{weighted}
use Rattle.sums.proofs.weighted_sum.Given as goal

abbrev pub invariant-loop-i : goal.invariant-loop-i
invariant-loop-i l = l.sum + weighted (drop l.i l.weights) (drop l.i l.values) ≡ weighted l.weights l.values
