-- What an accepted book guarantees, for the contracts of its readers and for the crates above. proofs/AcceptedBook.antt makes it from the check's answer.
use Rattle.std.specs.Prelude.{◌≡◌, Bool, true, ℕ, ◌+◌, ◌*◌, ◌^◌, ◌≤◌, ◌<◌, List, length}
use Rattle.fields.specs.declared.Head.{Head}
use Rattle.fields.specs.declared.Cell.{Cell}
use Rattle.listing.specs.Layout.{head, cells, horizon, cell}
use Rattle.listing.specs.Accepted.{Accepted}
use Rattle.year.specs.Year.{most_loss}
use Rattle.year.specs.Limits.{WithinLimits}
use Rattle.year.specs.declared.Entry.{Entry}
use Rattle.book.specs.Layout.{Sized, Shaped, entry_at, book_size, issued_words, year, issued, entry_of, words_of, entry}
use Rattle.book.specs.Check.{head_word_valid, entry_word_valid}
use Rattle.book.specs.declared.Shape.{Shape}

-- an accepted listing, and space for its book
pub record Fitted (s : Shape) (l b : List ℕ) : Type 0 where
  pub shaped : Shaped s
  pub accepted : Accepted l
  pub capacity : book_size s (cells l) ≤ length b

-- space for the words of cell i
pub record CellInBook (s : Shape) (b : List ℕ) (i : ℕ) : Type 0 where
  pub shaped : Shaped s
  pub in_book : entry_at s i + s.entry ≤ length b
  pub small : i < 2 ^ 32

-- ---- words

-- all before place n are valid
pub record All (valid : ℕ → Bool) (n : ℕ) : Type 0 where
  pub each : (k : ℕ) → k < n → valid k ≡ true

-- all words of the book
pub record WordsValid (s : Shape) (l b : List ℕ) : Type 0 where
  pub head_words : All (head_word_valid (horizon l) b) s.head
  pub entry_words : (i : ℕ) → i < cells l → All (entry_word_valid (head l) (cell l i) (words_of s b i)) s.entry

-- ---- what they hold

-- an entry's figures, by the head and the cell of the listing
pub record EntryValid (h : Head) (c : Cell) (e : Entry) : Type 0 where
  pub plan : e.plan ≤ h.horizon
  pub most : e.oxidised + e.burned ≤ most_loss h c
  pub lost : e.oxidised + e.burned ≤ c.entered

-- an entry that fits its words
pub record Storable (e : Entry) : Type 0 where
  pub plan : e.plan < 2 ^ 8
  pub oxidised : e.oxidised < 2 ^ 28
  pub burned : e.burned < 2 ^ 28

-- a cell's own words, by the head and the cell of the listing: its kg to date can be worked out from them
pub record CellWordsValid (h : Head) (c : Cell) (w : List ℕ) : Type 0 where
  pub sized : Sized (length w)
  pub fit : WithinLimits h c (entry_of w).oxidised (entry_of w).burned

-- all of it
pub record AcceptedBook (s : Shape) (l b : List ℕ) : Type 0 where
  pub fitted : Fitted s l b
  pub year : year b ≤ horizon l
  pub issued : issued s b < 2 ^ (28 * issued_words s)
  pub entry_valid : (i : ℕ) → i < cells l → EntryValid (head l) (cell l i) (entry s b i)
  pub words_valid : (i : ℕ) → i < cells l → CellWordsValid (head l) (cell l i) (words_of s b i)
