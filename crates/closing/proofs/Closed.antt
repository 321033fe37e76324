-- What book and lines hold after a closing. Assumes nothing.
use mathlib.Core.Path.{◌≡◌, refl, sym, ap, ◌∙◌}
use mathlib.Core.List.{List}
use Prim.Native.Nat.{ℕ, zero-le, ◌+◌, ◌*◌, ◌^◌, ◌≤◌, ◌<◌}
use native.Mathlib.Nat.{zero-add}
use native.Mathlib.Omega.{arith}
use lib.ListN.{length, get_or}
use Rattle.words.proofs.Blocks.{length_filled, filled_word}
use Rattle.listing.specs.Layout.{head, cells, cell}
use Rattle.listing.specs.Accepted.{Accepted}
use Rattle.book.specs.Current.{current, book_size, issued, words_of, Holds}
use Rattle.book.specs.Layout.{year_kind, oxidised_line_kind, burned_line_kind, kg_line_kind, line_words, year_at, payload, year, lines_of, oxidised_line, burned_line, kg_line}
use Rattle.book.specs.AcceptedBook.{Storable, EntryValid}
use Rattle.book.proofs.Words.{payload_of}
use Rattle.book.proofs.Numbers.{stored_same}
use Rattle.book.proofs.AcceptedBook.{shaped}
use Rattle.book.proofs.Entries.{year_by, words_stored, head_filled, words_filled}
use Rattle.book.proofs.Holds.{holds, holds_year, holds_entries}
use Rattle.closing.specs.Closing.{loss, closed_entry, closed_words, closed_lines, book_after, lines_after}
use Rattle.closing.specs.Closable.{NextYear, Closable}
use Rattle.closing.proofs.Closable.{cell_year_valid, cell_year_storable, next_cell_year}
use Rattle.closing.proofs.Loop.{closed_sized, lines_sized, next_year_is}

-- ---- word by word

-- the lines of cell i
pub line_word : (l b x : List ℕ) (i : ℕ) → i < cells l → (j : ℕ) → j < line_words → get_or (lines_after l b x) (line_words * i + j) 0 ≡ get_or (closed_lines l b i) j 0
unfolding lines_after
line_word l b x i lt j h = rw zero-add at (filled_word line_words x 0 (closed_lines l b) (lines_sized l b) zero-le (cells l) i j lt h)

-- the cells of the book, and its head, with that of another book that had the same head
module _ (l b : List ℕ) (capacity : book_size (cells l) ≤ length b) where
  pub after_words : (i : ℕ) → i < cells l → words_of (book_after l b) i ≡ closed_words l b i
  unfolding book_after
  after_words i lt = words_stored current _ year_kind year_at 1 _ i (omega arith) ∙ words_filled current b (closed_words l b) (closed_sized l b) (omega arith) (cells l) i lt

  pub after_head : (l' b' : List ℕ) → book_size (cells l') ≤ length b' → ((k : ℕ) → k < current.head → get_or b k 0 ≡ get_or b' k 0) → (k : ℕ) → k < current.head →
      get_or (book_after l b) k 0 ≡ get_or (book_after l' b') k 0
  unfolding book_after
  after_head l' b' capacity' same k lt =
      let filled_length = length_filled current.entry b current.head (closed_words l b) (closed_sized l b) (omega arith) (cells l) capacity in
      let filled_length' = length_filled current.entry b' current.head (closed_words l' b') (closed_sized l' b') (omega arith) (cells l') capacity' in
      rw (year_by current b b' (omega arith) same)
      (stored_same year_kind year_at 1 _ k _ _ (omega arith) (omega arith)
      (λ beside.
      head_filled current b (closed_words l b) (closed_sized l b) (omega arith) (cells l) k lt
      ∙ same k lt
      ∙ sym (head_filled current b' (closed_words l' b') (closed_sized l' b') (omega arith) (cells l') k lt)))

-- ---- by what they say

module _ (l b : List ℕ) (capacity : ℕ) (p : Closable l b capacity) where
  next_year : NextYear l b (year b + 1)
  next_year = next_year_is p.accepted_book p.ahead refl

  valid : Accepted l
  valid = p.accepted_book.fitted.accepted

  -- the entry of cell i is valid, and so fits its words
  pub closed_valid : (i : ℕ) → i < cells l → EntryValid (head l) (cell l i) (closed_entry l b i)
  closed_valid i lt = cell_year_valid valid (next_cell_year next_year i lt)

  closed_storable : (i : ℕ) → i < cells l → Storable (closed_entry l b i)
  closed_storable i lt = cell_year_storable valid (next_cell_year next_year i lt)

  -- all words: the cells', then the year's
  pub year_holds : Holds l (book_after l b) (year b + 1) (issued b) (closed_entry l b)
  unfolding book_after
  year_holds = holds_year shaped (holds_entries shaped (holds current l b p.admits) (closed_entry l b) closed_valid) (year b + 1) (omega (arith, p.ahead))

  -- the lines of cell i
  module _ (x : List ℕ) (i : ℕ) (lt : i < cells l) where
    pub year_lines :
        (oxidised_line (lines_after l b x) i ≡ (loss l b i).oxidised) × (burned_line (lines_after l b x) i ≡ (loss l b i).burned) × (kg_line (lines_after l b x) i ≡ (loss l b i).kg)
    unfolding closed_lines lines_of
    year_lines =
        let fits = closed_storable i lt in
        let o : (loss l b i).oxidised < 2 ^ 28 = omega (arith, fits.oxidised) in
        let u : (loss l b i).burned < 2 ^ 28 = omega (arith, fits.burned) in (
          ap payload (line_word l b x i lt 0 (omega arith)) ∙ payload_of oxidised_line_kind (loss l b i).oxidised o,
          ap payload (line_word l b x i lt 1 (omega arith)) ∙ payload_of burned_line_kind (loss l b i).burned u,
          ap payload (line_word l b x i lt 2 (omega arith)) ∙ payload_of kg_line_kind (loss l b i).kg (omega (arith, p.fits i lt)),
        )
