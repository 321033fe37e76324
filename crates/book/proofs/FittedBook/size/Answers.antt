-- `book::FittedBook::size` meets its contract: the cells begin behind the head, and end with the book. Assumes nothing.
use mathlib.Core.Path.{ap, ◌∙◌}
use native.Mathlib.Omega.{arith}
use Rattle.listing.proofs.Accepted.{listing_cells}
use Rattle.book.specs.Layout.{book_size}
use Rattle.book.proofs.FittedBook.size.Goals as goal

pub entry_at-requires : goal.entry_at-requires
entry_at-requires c =
    let f = c.args.self.now in
    let most = f.listing.accepted.head_valid.cells.1 in
    (f.shaped, omega (arith, listing_cells f.listing))

pub returns : goal.returns
returns c = let f = c.args.self.now in c.entry_at.ensures ∙ ap (book_size f.shape) (listing_cells f.listing)
