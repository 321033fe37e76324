-- `book::put_joined` meets its contract: what is left to store is stored from the book as it is. Assumes nothing.
use mathlib.Core.Path.{◌≡◌}
use lib.ListN.{length}
use Rattle.words.specs.Kinds.{kind_of}
use Rattle.book.specs.Layout.{stored}
use Rattle.book.proofs.put_joined.Given as goal

abbrev pub invariant-loop-k : goal.invariant-loop-k
invariant-loop-k l = (length l.book ≡ length l.initial.book) × (stored (kind_of l.kind) l.book l.from l.k l.rest ≡ stored (kind_of l.kind) l.initial.book l.from l.n l.x)
