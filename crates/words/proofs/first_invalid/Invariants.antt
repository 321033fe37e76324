-- `words::first_invalid` meets its contract: every place before `at` was found valid. Assumes nothing.
use mathlib.Core.Bool.{true}
use Prim.Native.Nat.{ℕ, ◌<◌, ◌≤◌}
use Rattle.words.proofs.first_invalid.Given as goal

abbrev pub invariant-loop-at : goal.invariant-loop-at
invariant-loop-at g l = (k : ℕ) → l.from ≤ k → k < l.at → goal.F-post g l.is_valid k true
