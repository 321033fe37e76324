-- What holds of a cell that a call found; proofs/AdmittedCell.antt makes it from the answers.
use Rattle.std.specs.Prelude.{ℕ, ◌<◌, ◌≡◌, true, List}
use Rattle.listing.specs.Layout.{head, cells, cell}
use Rattle.book.specs.Current.{words_of, entry, admitted, CellInBook, AcceptedBook}
use Rattle.book.specs.AcceptedBook.{EntryValid, CellWordsValid}

-- cell i of an accepted listing and book
pub record AdmittedCell (l b : List ℕ) (i : ℕ) : Type 0 where
  pub admits : (admitted l b).done ≡ true
  pub accepted_book : AcceptedBook l b
  pub there : i < cells l
  pub capacity : CellInBook b i
  pub entry_valid : EntryValid (head l) (cell l i) (entry b i)
  pub words_valid : CellWordsValid (head l) (cell l i) (words_of b i)
