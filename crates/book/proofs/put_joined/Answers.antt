-- `book::put_joined` meets its contract: what is left to store is stored from the book as it is. Assumes nothing.
use mathlib.Core.Path.{◌≡◌}
use Prim.Native.Nat.{suc, ◌-◌}
use native.Mathlib.Omega.{arith}
use lib.ListN.{length-set}
use Rattle.book.specs.Layout.{stored}
use Rattle.book.proofs.put_joined.Goals as goal

pub loop-k-preserved : goal.loop-k-preserved
unfolding stored
loop-k-preserved c =
    let put = c.put_payload in
    let loop = c.loop-k in
    let k : loop.k ≡ suc (loop.k - 1) = omega arith in
    (rw (put.ensures, length-set) loop.invariant.0, rw put.ensures (rw k at loop.invariant.1))

pub returns : goal.returns
unfolding stored
returns c =
    let loop = c.loop-k in
    let e : loop.k ≡ 0 = omega arith in
    rw e at loop.invariant.1
