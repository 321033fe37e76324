-- A cell's year depends on its own words. Assumes nothing.
use mathlib.Core.Path.{◌≡◌, sym, ap₂, ◌∙◌}
use mathlib.Core.List.{List}
use Prim.Native.Nat.{ℕ, ◌+◌, ◌<◌}
use native.Mathlib.Nat.{add-zero}
use native.Mathlib.Omega.{arith}
use Rattle.fields.specs.Fields.{cell_of}
use Rattle.listing.specs.Layout.{cell_words, row, cell_at, cell}
use Rattle.year.specs.Year.{after_loss}
use Rattle.year.specs.declared.Entry.{Entry}
use Rattle.year.specs.declared.Loss.{Loss}
use Rattle.year.proofs.Laws.{loss_by_figures}
use Rattle.book.specs.Current.{current}
use Rattle.book.specs.Layout.{Shaped, entry_at, year, words_of, entry, held_words}
use Rattle.book.specs.declared.Shape.{Shape}
use Rattle.book.proofs.AcceptedBook.{shaped}
use Rattle.book.proofs.Entries.{entry_word, entry_by}
use Rattle.closing.specs.Closing.{loss, closed_lines}
use Rattle.order.specs.Order.{SameWords, OwnWords}

-- two words make a cell
pub cell_same : (l l' : List ℕ) (i i' : ℕ) → SameWords cell_words l (cell_at l i) l' (cell_at l' i') → cell l i ≡ cell l' i'
cell_same l l' i i' same = ap₂ cell_of (rw (add-zero (cell_at l i), add-zero (cell_at l' i')) at (same 0 (omega arith))) (same 1 (omega arith))

-- three words make an entry
pub entry_same : (s : Shape) → Shaped s → (b b' : List ℕ) (i i' : ℕ) → SameWords s.entry b (entry_at s i) b' (entry_at s i') → entry s b i ≡ entry s b' i'
entry_same s g b b' i i' same =
    entry_by (words_of s b i) (words_of s b' i')
    (λ k lt.
    let least = g.entry.least in
    let less : k < s.entry = omega arith in
    entry_word s b i k less ∙ same k less ∙ sym (entry_word s b' i' k less))

pub own_words : OwnWords
unfolding closed_lines
own_words l b i l' b' i' same =
    let own_entry = entry_same current shaped b b' i i' same.book_words in
    let lost : loss l b i ≡ loss l' b' i' =
    loss_by_figures same.figures (cell l i) (entry current b i) (row l) (row l') (year b + 1) same.own_row
    ∙ rw (cell_same l l' i i' same.listing_words, own_entry, same.year_is) in
    record {
      loss_is = lost;
      words_are = ap₂ (λ (e : Entry) (s : Loss). held_words current.entry (after_loss e s)) own_entry lost;
      lines_are = rw lost;
    }
