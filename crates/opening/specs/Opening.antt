-- Document 01, "Book and calls": what an open of listing l writes into a book b: year 0, 0 issued, plan years of the listing, nothing
-- withdrawn, zeros.
use Rattle.std.specs.Prelude.{ℕ, List}
use Rattle.listing.specs.Layout.{cell}
use Rattle.year.specs.Year.{opened}
use Rattle.year.specs.declared.Entry.{Entry}
use Rattle.book.specs.Current.{new_book}

-- cell i: its conversion year as plan year, no mark, O and B zero
abbrev pub open_entry : List ℕ → ℕ → Entry
open_entry l i = opened (cell l i).conversion

-- year 0, and 0 issued
abbrev pub open_book : List ℕ → List ℕ → List ℕ
open_book l b = new_book l b 0 0 (open_entry l)
