-- `peatrun::remaining_total` meets its contract: in iteration i the sum is that of the first i cells, below 2 ^ 32 each. Assumes nothing.
use mathlib.Core.Path.{◌≡◌, ap, ◌∙◌}
use native.Mathlib.Omega.{arith}
use Rattle.words.proofs.Sums.{sum_none, sum_next}
use Rattle.fields.specs.declared.Head.{Head}
use Rattle.listing.specs.Layout.{cells}
use Rattle.peatrun.specs.Years.{remaining_total}
use Rattle.peatrun.proofs.remaining_total.Goals as goal
use Rattle.peatrun.proofs.remaining_total.Goals.{At-loop-i}

module _ (a : At-loop-i) where
  count : a.head-cells.result.cells ≡ cells a.args.listing.now
  count = ap (λ (h : Head). h.cells) a.head-cells.ensures

pub loop-i-init : goal.loop-i-init
loop-i-init c = record { most = omega arith; so_far = sum_none _ }

pub remaining-requires : goal.remaining-requires
remaining-requires c = (c.requires, omega (arith, count (goal.at.remaining-requires c).At-loop-i, c.loop-i-test.true))

pub loop-i-preserved : goal.loop-i-preserved
loop-i-preserved c = record { most = omega arith; so_far = sum_next _ c.loop-i.i c.loop-i.invariant.so_far (c.from-sum.ensures ∙ c.remaining.ensures) }

pub returns : goal.returns
unfolding remaining_total
returns c =
    let all : c.loop-i.i ≡ cells c.args.listing.now = omega (arith, count (goal.at.returns c).At-loop-i) in
    rw all at c.loop-i.invariant.so_far
