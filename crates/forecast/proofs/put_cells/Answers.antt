-- `forecast::put_cells` meets its contract: iteration i writes cell i. Assumes nothing.
use mathlib.Core.Path.{◌≡◌}
use Prim.Native.Nat.{◌<◌}
use native.Mathlib.Omega.{arith}
use Rattle.words.proofs.Blocks.{filling_none}
use Rattle.listing.specs.Layout.{cells, horizon}
use Rattle.listing.proofs.Accepted.{listing_cells}
use Rattle.book.specs.Current.{current}
use Rattle.book.proofs.AcceptedBook.{shaped}
use Rattle.book.proofs.Held.{held_at_sized, put_allowed, put_next}
use Rattle.years.specs.Years.{entries_after}
use Rattle.years.proofs.After.{after_storable}
use Rattle.forecast.proofs.Loop.{held_entry}
use Rattle.forecast.proofs.put_cells.Goals as goal
use Rattle.forecast.proofs.put_cells.Goals.{After-entry_to_date, In-loop-i}

pub loop-i-init : goal.loop-i-init
loop-i-init c =
    let l = c.args.listing.now.words.now in
    filling_none (held_at_sized current shaped (entries_after l (horizon l))) c.requires.0.capacity

-- the iteration of cell i
there : (n : In-loop-i) → n.loop-i.i < cells n.args.listing.now.words.now
there n = omega (arith, listing_cells n.args.listing.now, n.loop-i-test.true)

-- its entry is that after the last year
last : (c : After-entry_to_date) → let l = c.args.listing.now.words.now in c.entry_to_date.result ≡ entries_after l (horizon l) c.loop-i.i
last c =
    let lt = there (goal.at.After-entry_to_date c).In-loop-i in
    held_entry _ _ (c.requires.1.each _ _ lt) c.entry_to_date.ensures

pub put_entry-requires : goal.put_entry-requires
put_entry-requires c =
    let at = goal.at.put_entry-requires c in
    let lt = there at.In-loop-i in
    let l = c.args.listing.now.words.now in
    put_allowed shaped _ c.loop-i.invariant lt c.entry_at-a.ensures (last at.After-entry_to_date) (after_storable c.requires.0.accepted _ lt (horizon l))

pub loop-i-preserved : goal.loop-i-preserved
loop-i-preserved c =
    let at = goal.at.loop-i-preserved c in
    put_next shaped _ c.loop-i.invariant (there at.In-loop-i) c.entry_at-a.ensures (last at.After-entry_to_date) c.put_entry.ensures
