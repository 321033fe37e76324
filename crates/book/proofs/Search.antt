-- The search of a book's cells: what the tests of cell i's own words say of the words of the book. Assumes nothing.
use mathlib.Core.Path.{◌≡◌, refl, sym}
use mathlib.Core.Bool.{Bool, true, ◌&&◌}
use mathlib.Core.List.{List}
use Prim.Native.Nat.{ℕ, ◌+◌, ◌≤◌, ◌<◌}
use native.Mathlib.Nat.{mul-zero}
use native.Mathlib.Omega.{arith}
use lib.ListN.{length}
use Rattle.words.specs.Search.{first_invalid}
use Rattle.words.proofs.Steps.{Passed, passed_none, ValidSoFar, so_far_none}
use Rattle.fields.specs.declared.Head.{Head}
use Rattle.fields.specs.declared.Cell.{Cell}
use Rattle.listing.specs.Layout.{head, cells, cell}
use Rattle.book.specs.Layout.{Sized, entry_at, book_size, words_of}
use Rattle.book.specs.Check.{entry_word_valid, book_word_valid}
use Rattle.book.specs.AcceptedBook.{Fitted, CellInBook, All}
use Rattle.book.specs.declared.Shape.{Shape}
use Rattle.book.proofs.Places.{next_entry, entry_before}
use Rattle.book.proofs.Parts.{part_stop, part_more, part_so_far}
use Rattle.book.proofs.Valid.{valid_entry}
use Rattle.book.proofs.AcceptedBook.{fitted_cell, words_sized, words_valid}

module _ {s : Shape} {l b : List ℕ} {h : Head} {end : ℕ} (f : Fitted s l b) (same : h ≡ head l) (last : end ≡ book_size s (cells l)) where
  -- before the first cell
  first : s.head ≡ entry_at s 0
  first = omega (arith, mul-zero s.entry)

  pub cells_begin : Passed (book_word_valid s l b) s.head end (entry_at s 0)
  cells_begin = rw (← first) passed_none

  pub cells_begin_so_far : ValidSoFar (book_word_valid s l b) s.head end (entry_at s 0) true
  cells_begin_so_far = rw (← first) so_far_none

  -- cell i, with the words w that were read: it has as many as a cell has, whatever cell they are tested by
  pub cell_sized : (i : ℕ) (w : List ℕ) → i < cells l → w ≡ words_of s b i → Sized (length w)
  cell_sized i w lt part = rw part (words_valid s b i (fitted_cell s l b f i lt))

  -- and with the cell c
  module _ (i : ℕ) (c : Cell) (w : List ℕ) (lt : i < cells l) (own : c ≡ cell l i) (part : w ≡ words_of s b i) where
    cell_in_book : CellInBook s b i
    cell_in_book = fitted_cell s l b f i lt

    within : entry_at s i + s.entry ≤ end
    within = omega (arith, entry_before s i (cells l) lt)

    -- the search of its own words found j
    module _ (j : ℕ) (p : Passed (book_word_valid s l b) s.head end (entry_at s i)) (e : j ≡ first_invalid (entry_word_valid h c w) 0 (length w)) where
      found : j ≡ first_invalid (entry_word_valid (head l) (cell l i) (words_of s b i)) 0 s.entry
      found = rw (same, own, part, words_sized s b i cell_in_book) at e

      pub cell_stop : j < s.entry → entry_at s i + j ≡ first_invalid (book_word_valid s l b) s.head end
      cell_stop = part_stop (book_word_valid s l b) s.head end (entry_word_valid (head l) (cell l i) (words_of s b i)) s.entry within (valid_entry s l b i) j p found (entry_at s i + j) refl

      pub cell_more : s.entry ≤ j → Passed (book_word_valid s l b) s.head end (entry_at s (i + 1))
      cell_more =
          part_more (book_word_valid s l b) s.head end (entry_word_valid (head l) (cell l i) (words_of s b i)) s.entry within (valid_entry s l b i) j p found
          (entry_at s (i + 1)) (sym (next_entry s i))

    -- its words were tested together, by `good`
    pub cell_so_far : (valid cell_valid : Bool) → ValidSoFar (book_word_valid s l b) s.head end (entry_at s i) valid → (cell_valid ≡ true → All (entry_word_valid h c w) (length w)) →
        ValidSoFar (book_word_valid s l b) s.head end (entry_at s (i + 1)) (valid && cell_valid)
    cell_so_far valid cell_valid p all =
        part_so_far (book_word_valid s l b) s.head end (entry_word_valid (head l) (cell l i) (words_of s b i)) s.entry within (valid_entry s l b i) valid cell_valid
        (entry_at s (i + 1)) (sym (next_entry s i)) p
        (λ t. rw (same, own, part, words_sized s b i cell_in_book) at (all t))
