-- `converting::convert_cells` meets its contract: iteration i writes cell i. Assumes nothing.
use Prim.Native.Nat.{◌<◌}
use native.Mathlib.Omega.{arith}
use Rattle.words.proofs.Blocks.{filling_none}
use Rattle.listing.specs.Layout.{cells}
use Rattle.listing.proofs.Accepted.{listing_cells}
use Rattle.book.specs.Layout.{entry}
use Rattle.book.proofs.Held.{held_at_sized, valid_storable, put_allowed, put_next}
use Rattle.converting.proofs.convert_cells.Goals as goal
use Rattle.converting.proofs.convert_cells.Goals.{In-loop-i}

pub loop-i-init : goal.loop-i-init
loop-i-init c = filling_none (held_at_sized c.args.to c.requires.fitted.shaped (entry c.args.from c.args.old.now)) c.requires.fitted.capacity

-- the iteration of cell i
there : (n : In-loop-i) → n.loop-i.i < cells n.args.listing.now.words.now
there n = omega (arith, listing_cells n.args.listing.now, n.loop-i-test.true)

-- its entry, that of the old book, is valid
pub put_entry-requires : goal.put_entry-requires
put_entry-requires c =
    let lt = there (goal.at.put_entry-requires c).In-loop-i in
    let accepted = c.requires.fitted.accepted in
    put_allowed c.requires.fitted.shaped _ c.loop-i.invariant lt c.entry_at-a.ensures c.entry-kept.ensures
    (valid_storable accepted.head_valid (accepted.cell_valid _ lt) _ (c.requires.accepted_book.entry_valid _ lt))

pub loop-i-preserved : goal.loop-i-preserved
loop-i-preserved c =
    let lt = there (goal.at.loop-i-preserved c).In-loop-i in
    put_next c.requires.fitted.shaped _ c.loop-i.invariant lt c.entry_at-a.ensures c.entry-kept.ensures c.put_entry.ensures
