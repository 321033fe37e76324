-- `closing::close_year` meets its contract: the cells are closed, and then the year's word is stored. Assumes nothing.
use mathlib.Core.Path.{ap, ap₂, ◌∙◌}
use Prim.Native.Nat.{◌+◌}
use Rattle.book.specs.Layout.{with_year}
use Rattle.closing.specs.Closing.{book_after}
use Rattle.closing.proofs.close_year.Goals as goal

pub returns-clause-new_book : goal.returns-clause-new_book
unfolding book_after
returns-clause-new_book c =
    c.put_year.ensures ∙ ap₂ with_year c.close_cells.ensures.new_book (ap (λ t. t + 1) c.year-year.ensures)
