-- `opening::open_cells` meets its contract: iteration i writes cell i. Assumes nothing.
use mathlib.Core.Path.{◌≡◌, ap, ◌∙◌}
use Prim.Native.Nat.{◌<◌}
use native.Mathlib.Omega.{arith}
use Rattle.words.proofs.Blocks.{filling_none}
use Rattle.fields.specs.declared.Cell.{Cell}
use Rattle.listing.specs.Layout.{cells}
use Rattle.listing.proofs.Accepted.{listing_cells}
use Rattle.year.specs.Year.{opened}
use Rattle.book.specs.Current.{current}
use Rattle.book.proofs.AcceptedBook.{shaped}
use Rattle.book.proofs.Held.{held_at_sized, put_next}
use Rattle.opening.specs.Opening.{open_entry}
use Rattle.opening.proofs.open_cells.Goals as goal
use Rattle.opening.proofs.open_cells.Goals.{After-opened, In-loop-i}

pub loop-i-init : goal.loop-i-init
loop-i-init c = filling_none (held_at_sized current shaped (open_entry c.args.listing.now.words.now)) c.requires.capacity

-- the iteration of cell i
there : (n : In-loop-i) → n.loop-i.i < cells n.args.listing.now.words.now
there n = omega (arith, listing_cells n.args.listing.now, n.loop-i-test.true)

-- its entry is that of the listing
new : (c : After-opened) → c.opened.result ≡ open_entry c.args.listing.now.words.now c.loop-i.i
new c = c.opened.ensures ∙ ap (λ (x : Cell). opened x.conversion) c.cell-c.ensures

pub loop-i-preserved : goal.loop-i-preserved
loop-i-preserved c =
    let at = goal.at.loop-i-preserved c in
    put_next shaped _ c.loop-i.invariant (there at.In-loop-i) c.entry_at-a.ensures (new at.After-opened) c.put_entry.ensures
