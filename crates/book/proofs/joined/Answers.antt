-- `book::joined` meets its contract: x is the number in the words so far. Assumes nothing.
use mathlib.Core.Path.{◌≡◌}
use Prim.Native.Nat.{◌^◌, ◌<◌}
use native.Mathlib.Numerals.{add-one}
use native.Mathlib.Omega.{arith}
use borrow.Author.Rules.{rules}
use Rattle.book.specs.Layout.{joined}
use Rattle.book.proofs.Numbers.{joined_one}
use Rattle.book.proofs.joined.Goals as goal

pub loop-k-init : goal.loop-k-init
unfolding joined
loop-k-init c = search rules

pub overflow_mul-x : goal.overflow_mul-x
overflow_mul-x c =
    let loop = c.loop-k in
    let below : loop.x < 2 ^ 28 = rw loop.invariant (joined_one _ _ loop.k (omega arith)) in
    search rules

pub overflow_add-x : goal.overflow_add-x
overflow_add-x c =
    let loop = c.loop-k in
    let below : loop.x < 2 ^ 28 = rw loop.invariant (joined_one _ _ loop.k (omega arith)) in
    search rules

pub loop-k-preserved : goal.loop-k-preserved
unfolding joined
loop-k-preserved c =
    let loop = c.loop-k in
    rw (c.from.ensures, c.of.ensures, loop.invariant, add-one loop.k)

pub returns : goal.returns
returns c =
    let loop = c.loop-k in
    let e : loop.k ≡ c.args.n = omega arith in
    rw e at loop.invariant
