-- `pair` meets its contract: at the places i and j, what was found before them and what is ahead make the whole. Assumes nothing.
use native.Mathlib.Omega.{arith}
use mathlib.Core.Path.{◌≡◌}
use Prim.Native.Nat.{◌<◌}
use lib.ListN.{length, get_or}
use Rattle.dips.proofs.Walk.{walked_none, walked_first, walked_second, walked_both, first_all, second_all}
use Rattle.dips.proofs.Days.{rising, day_differs_is, figures_by}
use Rattle.dips.proofs.pair.Goals as goal
use Rattle.dips.proofs.pair.Goals.{then-loop-i-test+else-j-second, else-loop-i-test}

pub loop-i-init : goal.loop-i-init
loop-i-init c = walked_none _ _ _ (rising c.requires.0) (rising c.requires.1)

pub loop-i-preserved : goal.loop-i-preserved
loop-i-preserved c =
    let there : c.loop-i.i < length c.args.first.now.days.now = omega (arith, c.loop-i-test.true) in
    let same : get_or c.args.first.now.days.now c.loop-i.i 0 ≡ get_or c.args.second.now.days.now c.loop-i.j 0 = omega (arith, c.if-a-b.false, c.if-b-a.false) in
    walked_both _ _ _ _ _ _ _ c.loop-i.invariant there c.if-j-second.true same _
    (rw (day_differs_is c.requires.0 c.requires.1 _ _ there c.if-j-second.true same) (rw (c.dip.ensures, c.dip-else-b-a.ensures) at c.first_found-first_differing.ensures))

pub loop-i-preserved-then-a-b : goal.loop-i-preserved-then-a-b
loop-i-preserved-then-a-b c = walked_first _ _ _ _ _ _ _ c.loop-i.invariant (omega (arith, c.loop-i-test.true)) c.if-j-second.true c.if-a-b.true

pub loop-i-preserved-then-b-a : goal.loop-i-preserved-then-b-a
loop-i-preserved-then-b-a c = walked_second _ _ _ _ _ _ _ c.loop-i.invariant (omega (arith, c.loop-i-test.true)) c.if-j-second.true c.if-b-a.true

pub returns : goal.returns
returns c =
    elim c.loop-i-test.branch [
      | then-loop-i-test+else-j-second w ↦ figures_by c.requires.0 c.requires.1 _ _ (second_all _ _ _ _ _ _ _ c.loop-i.invariant w.if-j-second.false)
      | else-loop-i-test w ↦ figures_by c.requires.0 c.requires.1 _ _ (first_all _ _ _ _ _ _ _ c.loop-i.invariant w.loop-i-test.false)
    ]
