-- A closing, one cell in each iteration: what an iteration is lent and leaves. Assumes nothing.
use mathlib.Core.Path.{◌≡◌, refl, ◌∙◌}
use mathlib.Core.List.{List}
use Prim.Native.Nat.{ℕ, ◌+◌, ◌-◌, ◌*◌, ◌≤◌, ◌<◌}
use native.Mathlib.Omega.{arith}
use lib.ListN.{length, take, drop}
use borrow.Rule.Slice.PartMut.{put_mid}
use Rattle.words.specs.Blocks.{filled}
use Rattle.words.proofs.Blocks.{Filling, filling_none, filling_lent, filling_lent_length, filling_next, filling_all}
use Rattle.listing.specs.Layout.{head, cells, horizon, cell}
use Rattle.year.specs.Year.{after_loss}
use Rattle.year.specs.declared.Loss.{Loss}
use Rattle.book.specs.Current.{current, entry_at, words_of, AcceptedBook}
use Rattle.book.specs.Layout.{line_words, year, entry_of, held_words, lines_of}
use Rattle.book.specs.AcceptedBook.{CellWordsValid}
use Rattle.book.proofs.AcceptedBook.{shaped}
use Rattle.book.proofs.Held.{held_at_sized}
use Rattle.closing.specs.Closing.{cell_loss, loss, closed_entry, closed_words, closed_lines, lines_after, most_payload}
use Rattle.closing.specs.Closable.{CellYear, NextYear, Closable}
use Rattle.closing.proofs.Closable.{lost_then, next_cell_year}

-- the words of a closed cell are as many as the shape has, and its lines are three
pub closed_sized : (l b : List ℕ) (i : ℕ) → length (closed_words l b i) ≡ current.entry
closed_sized l b = held_at_sized current shaped (closed_entry l b)

pub lines_sized : (l b : List ℕ) (i : ℕ) → length (closed_lines l b i) ≡ line_words
unfolding closed_lines lines_of
lines_sized l b i = refl

-- i cells are closed: b and d are the book and the lines at the start, x and y as they are now
pub record Progress (l b d : List ℕ) (i : ℕ) (x y : List ℕ) : Type 0 where
  pub book : Filling current.entry b current.head (closed_words l b) (cells l) i x
  pub lines : Filling line_words d 0 (closed_lines l b) (cells l) i y

module _ {l b : List ℕ} (d : List ℕ) (k : Closable l b (length d)) where
  pub progress_none : Progress l b d 0 b d
  progress_none = record { book = filling_none (closed_sized l b) k.accepted_book.fitted.capacity; lines = filling_none (lines_sized l b) (omega (arith, k.capacity)) }

  -- the iteration of cell i, whose words begin at a
  module _ {t : ℕ} (g : NextYear l b t) (i : ℕ) (lt : i < cells l) {x y : List ℕ} (r : Progress l b d i x y) (a : ℕ) (here : a ≡ entry_at i) where
    -- its words that are lent
    abbrev lent : List ℕ
    lent = take (a + current.entry - a) (drop a x)

    -- they are as they were at the start
    lent_is : lent ≡ words_of b i
    lent_is = filling_lent r.book lt a here

    lent_sized : length lent ≡ current.entry
    lent_sized = filling_lent_length r.book lt a here

    pub iteration_cell_year : CellWordsValid (head l) (cell l i) lent × (i < cells l) × CellYear l (cell l i) (entry_of lent) t
    iteration_cell_year = (rw lent_is (g.accepted_book.words_valid i lt), lt, rw lent_is (next_cell_year g i lt))

    iteration_loss : cell_loss l t i (entry_of lent) ≡ loss l b i
    iteration_loss = rw (lent_is, g.next)

    -- s is the loss that was answered: its lines fit their words
    module _ {s : Loss} (s_is : s ≡ cell_loss l t i (entry_of lent)) where
      answered : s ≡ loss l b i
      answered = s_is ∙ iteration_loss

      pub iteration_fits : (s.oxidised ≤ most_payload) × (s.burned ≤ most_payload) × (s.kg ≤ most_payload)
      iteration_fits =
          let most = rw g.next at (lost_then k.accepted_book.fitted.accepted (next_cell_year g i lt)) in
          rw answered (omega arith, omega arith, k.fits i lt)

      -- ws and ls are the words and the lines that came back
      module _ {ws ls : List ℕ} (ws_is : ws ≡ held_words (length lent) (after_loss (entry_of lent) (cell_loss l t i (entry_of lent)))) (ls_is : ls ≡ lines_of s) where
        words_closed : ws ≡ closed_words l b i
        words_closed = rw (lent_sized, iteration_loss, lent_is) at ws_is

        lines_closed : ls ≡ closed_lines l b i
        unfolding closed_lines
        lines_closed = rw answered at ls_is

        pub progress_next : Progress l b d (i + 1) (put_mid a (a + current.entry - a) x ws) (put_mid (line_words * i) (line_words * i + line_words - line_words * i) y ls)
        progress_next = record { book = filling_next r.book lt a here words_closed; lines = filling_next r.lines lt (line_words * i) (omega arith) lines_closed }

-- every cell is closed
pub progress_all : {l b d : List ℕ} {i : ℕ} {x y : List ℕ} → Progress l b d i x y → cells l ≤ i → (x ≡ filled current.entry b current.head (closed_words l b) (cells l)) × (y ≡ lines_after l b d)
unfolding lines_after
progress_all r le = (filling_all r.book le, filling_all r.lines le)

-- t is the year after the current one
pub next_year_is : {l b : List ℕ} {t : ℕ} → AcceptedBook l b → year b < horizon l → t ≡ year b + 1 → NextYear l b t
next_year_is s ahead t-is = record { accepted_book = s; next = t-is; in_time = omega arith }
