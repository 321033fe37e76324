-- `book::FittedBook::cells_valid` meets its contract: while `valid` is true, the search has come to cell `i`. Assumes nothing.
use mathlib.Core.Path.{◌≡◌, refl}
use Prim.Native.Nat.{◌<◌}
use native.Mathlib.Omega.{arith}
use Rattle.words.proofs.Steps.{so_far_all}
use Rattle.listing.specs.Layout.{cells}
use Rattle.listing.proofs.Accepted.{listing_cells}
use Rattle.book.proofs.AcceptedBook.{fitted_book, fitted_cell}
use Rattle.book.proofs.Search.{cells_begin_so_far, cell_sized, cell_so_far}
use Rattle.book.proofs.FittedBook.cells_valid.Goals as goal
use Rattle.book.proofs.FittedBook.cells_valid.Goals.{In-loop-i}

pub loop-i-init : goal.loop-i-init
loop-i-init c = cells_begin_so_far (fitted_book c.args.self.now) c.args.self.now.listing.is_head refl

there : (c : In-loop-i) → c.loop-i.i < cells c.args.self.now.listing.words.now
there c = omega (arith, listing_cells c.args.self.now.listing, c.loop-i-test.true)

pub entry_valid-valid-requires : goal.entry_valid-valid-requires
entry_valid-valid-requires c =
    cell_sized (fitted_book c.args.self.now) c.args.self.now.listing.is_head refl _ _ (there (goal.at.entry_valid-valid-requires c).In-loop-i) c.words_of-words.ensures

pub loop-i-preserved : goal.loop-i-preserved
loop-i-preserved c =
    cell_so_far (fitted_book c.args.self.now) c.args.self.now.listing.is_head refl _ _ _ (there (goal.at.loop-i-preserved c).In-loop-i) c.cell.ensures c.words_of-words.ensures _ _ c.loop-i.invariant
    c.entry_valid-valid.ensures

pub returns : goal.returns
returns c =
    let count = listing_cells c.args.self.now.listing in
    let e : c.loop-i.i ≡ cells c.args.self.now.listing.words.now = omega (arith, count, c.loop-i-test.false) in
    so_far_all _ (rw e at c.loop-i.invariant) (omega arith) (omega arith)

pub cell-requires : goal.cell-requires
cell-requires c = there (goal.at.cell-requires c).In-loop-i

pub words_of-words-requires : goal.words_of-words-requires
words_of-words-requires c = fitted_cell _ _ _ (fitted_book c.args.self.now) _ (there (goal.at.words_of-words-requires c).In-loop-i)
