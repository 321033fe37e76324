-- `book::joined` meets its contract: `x` is the number in the words so far. Assumes nothing.
use mathlib.Core.Path.{◌≡◌}
use Rattle.book.specs.Layout.{joined}
use Rattle.book.proofs.joined.Given as goal

abbrev pub invariant-loop-k : goal.invariant-loop-k
invariant-loop-k l = l.x ≡ joined l.book l.from l.k
