-- `balance::kg_to_date` meets its contract: in iteration i the sum is that of the first i cells. Assumes nothing.
use mathlib.Core.Path.{◌≡◌, ap, ◌∙◌}
use Prim.Native.Nat.{◌+◌, ◌^◌, ◌<◌}
use native.Mathlib.Omega.{arith}
use Rattle.words.specs.Sums.{sum_below}
use Rattle.words.proofs.Sums.{sum_none}
use Rattle.listing.specs.Layout.{cells}
use Rattle.listing.proofs.Accepted.{listing_cells}
use Rattle.book.specs.Current.{kg_to_date}
use Rattle.balance.proofs.Bounds.{kg_next}
use Rattle.balance.proofs.kg_to_date.Goals as goal
use Rattle.balance.proofs.kg_to_date.Goals.{In-loop-i, After-from-kg}

below : (c : In-loop-i) → c.loop-i.i < cells c.args.book.now.listing.words.now
below c = omega (arith, listing_cells c.args.book.now.listing, c.loop-i-test.true)

pub loop-i-init : goal.loop-i-init
loop-i-init c = sum_none _

pub kg_to_date-requires : goal.kg_to_date-requires
kg_to_date-requires c = omega (arith, below (goal.at.kg_to_date-requires c).In-loop-i)

iterations : (c : After-from-kg) →
    let b = c.args.book.now in
    (c.loop-i.kg + c.from-kg.result ≡ sum_below (kg_to_date b.listing.words.now b.words.now) (c.loop-i.i + 1)) × (c.loop-i.kg + c.from-kg.result < 2 ^ 64)
iterations c =
    let b = c.args.book.now in
    kg_next _ _ b.accepted (below (goal.at.After-from-kg c).In-loop-i) c.loop-i.invariant (c.from-kg.ensures ∙ c.kg_to_date.ensures)

pub loop-i-preserved : goal.loop-i-preserved
loop-i-preserved c = (iterations (goal.at.loop-i-preserved c).After-from-kg).0

pub overflow_add-kg : goal.overflow_add-kg
overflow_add-kg c = omega (arith, (iterations (goal.at.overflow_add-kg c).After-from-kg).1)

pub returns : goal.returns
returns c =
    let b = c.args.book.now in
    let count = listing_cells b.listing in
    let all : c.loop-i.i ≡ cells b.listing.words.now = omega (arith, count, c.loop-i-test.false) in
    c.loop-i.invariant ∙ ap (sum_below (kg_to_date b.listing.words.now b.words.now)) all
