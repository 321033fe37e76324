-- `terms::end_of_terms_to_date` meets its contract: the words before `low` are to date, those from `high` on are not. Assumes nothing.
use native.Mathlib.Omega.{arith}
use Rattle.terms.proofs.Sums.{split_none, split_met, split_above, split_below}
use Rattle.terms.proofs.end_of_terms_to_date.Goals as goal

pub loop-low-init : goal.loop-low-init
loop-low-init c = rw c.offsets-low.ensures (split_none _ _ c.args.listing.now.accepted.long)

pub loop-low-preserved-then-from-year : goal.loop-low-preserved-then-from-year
loop-low-preserved-then-from-year c =
    split_above _ _ c.loop-low.invariant c.args.listing.now.accepted _ (omega arith) (omega arith) _ c.from.ensures (omega arith)

pub loop-low-preserved : goal.loop-low-preserved
loop-low-preserved c =
    split_below _ _ c.loop-low.invariant c.args.listing.now.accepted _ (omega arith) (omega arith) _ c.from.ensures (omega arith)

pub returns : goal.returns
returns c = split_met _ _ c.loop-low.invariant c.loop-low-test.false
