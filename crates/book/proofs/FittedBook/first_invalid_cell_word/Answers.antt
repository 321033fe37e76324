-- `book::FittedBook::first_invalid_cell_word` meets its contract: the search has come to where cell i begins. Assumes nothing.
use mathlib.Core.Path.{◌≡◌, ◌∙◌, refl}
use Prim.Native.Nat.{◌<◌}
use native.Mathlib.Omega.{arith}
use Rattle.words.proofs.Steps.{passed_all}
use Rattle.listing.specs.Layout.{cells}
use Rattle.listing.proofs.Accepted.{listing_cells}
use Rattle.book.proofs.Places.{size_small}
use Rattle.book.proofs.Search.{cells_begin, cell_sized, cell_stop, cell_more}
use Rattle.book.proofs.AcceptedBook.{fitted_book, fitted_cell}
use Rattle.book.proofs.FittedBook.first_invalid_cell_word.Goals as goal
use Rattle.book.proofs.FittedBook.first_invalid_cell_word.Goals.{In-loop-i}

pub loop-i-init : goal.loop-i-init
loop-i-init c = cells_begin (fitted_book c.args.self.now) c.args.self.now.listing.is_head refl

there : (c : In-loop-i) → c.loop-i.i < cells c.args.self.now.listing.words.now
there c = omega (arith, listing_cells c.args.self.now.listing, c.loop-i-test.true)

pub first_invalid_entry_word-j-requires : goal.first_invalid_entry_word-j-requires
first_invalid_entry_word-j-requires c =
    cell_sized (fitted_book c.args.self.now) c.args.self.now.listing.is_head refl _ _ (there (goal.at.first_invalid_entry_word-j-requires c).In-loop-i) c.words_of-words.ensures

pub overflow_add-result : goal.overflow_add-result
overflow_add-result c =
    let g = (fitted_book c.args.self.now).shaped in
    let in_book = fitted_cell _ _ _ (fitted_book c.args.self.now) _ (there (goal.at.overflow_add-result c).In-loop-i) in
    omega (arith, c.entry_at.ensures, c.if-j-self.true, size_small c.args.self.now.shape g c.loop-i.i in_book.small, g.head.1, g.entry.most)

-- by name, so that a wrong place or a wrong test is reported at this return
pub returns-then-j-self : goal.returns-then-j-self
returns-then-j-self c =
    rw c.entry_at.ensures
    (cell_stop (fitted_book c.args.self.now) c.args.self.now.listing.is_head refl _ _ _ (there (goal.at.returns-then-j-self c).In-loop-i) c.cell.ensures c.words_of-words.ensures _ c.loop-i.invariant
    c.first_invalid_entry_word-j.ensures c.if-j-self.true)

pub loop-i-preserved : goal.loop-i-preserved
loop-i-preserved c =
    cell_more (fitted_book c.args.self.now) c.args.self.now.listing.is_head refl _ _ _ (there (goal.at.loop-i-preserved c).In-loop-i) c.cell.ensures c.words_of-words.ensures _ c.loop-i.invariant
    c.first_invalid_entry_word-j.ensures c.if-j-self.false

pub returns : goal.returns
returns c =
    let count = listing_cells c.args.self.now.listing in
    let e : c.loop-i.i ≡ cells c.args.self.now.listing.words.now = omega (arith, count, c.loop-i-test.false) in
    c.size.ensures ∙ passed_all (rw e at c.loop-i.invariant) (omega arith)

pub cell-requires : goal.cell-requires
cell-requires c = there (goal.at.cell-requires c).In-loop-i

pub words_of-words-requires : goal.words_of-words-requires
words_of-words-requires c = fitted_cell _ _ _ (fitted_book c.args.self.now) _ (there (goal.at.words_of-words-requires c).In-loop-i)

pub entry_at-requires : goal.entry_at-requires
entry_at-requires c = ((fitted_book c.args.self.now).shaped, (fitted_cell _ _ _ (fitted_book c.args.self.now) _ (there (goal.at.entry_at-requires c).In-loop-i)).small)
