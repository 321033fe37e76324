-- What the steps of a closing require; proofs/Closable.antt makes it from the answers.
use Rattle.std.specs.Prelude.{ℕ, ◌+◌, ◌*◌, ◌≤◌, ◌<◌, ◌≡◌, true, List}
use Rattle.fields.specs.Valid.{CellValid}
use Rattle.fields.specs.declared.Cell.{Cell}
use Rattle.listing.specs.Layout.{head, cells, strata, horizon}
use Rattle.year.specs.declared.Entry.{Entry}
use Rattle.book.specs.Current.{admitted, AcceptedBook}
use Rattle.book.specs.Layout.{line_words, year}
use Rattle.book.specs.AcceptedBook.{EntryValid}
use Rattle.closing.specs.Closing.{loss, most_payload}

-- a cell c with entry e can be worked out for year t
pub record CellYear (l : List ℕ) (c : Cell) (e : Entry) (t : ℕ) : Type 0 where
  pub cell_valid : CellValid (strata l) (horizon l) c
  pub entry_valid : EntryValid (head l) c e
  pub in_time : (1 ≤ t) × (t ≤ horizon l)

-- an accepted book, and t the year after its current one
pub record NextYear (l b : List ℕ) (t : ℕ) : Type 0 where
  pub accepted_book : AcceptedBook l b
  pub next : t ≡ year b + 1
  pub in_time : t ≤ horizon l

-- what a closing with a lines buffer of `size` words is given
pub record Closable (l b : List ℕ) (size : ℕ) : Type 0 where
  pub admits : (admitted l b).done ≡ true
  pub accepted_book : AcceptedBook l b
  pub ahead : year b < horizon l
  pub capacity : line_words * cells l ≤ size
  pub fits : (i : ℕ) → i < cells l → (loss l b i).kg ≤ most_payload
