-- What is known once a book fits its listing, and once it was accepted. Assumes nothing.
use mathlib.Core.Path.{◌≡◌, sym, ap}
use mathlib.Core.Bool.{true}
use mathlib.Core.List.{List}
use Prim.Native.Nat.{ℕ, ◌+◌, ◌≤◌, ◌<◌}
use native.Mathlib.Omega.{arith}
use lib.Dec.{leb}
use lib.ListN.{length, get_or, drop, length-drop}
use lib.Seq.{length-take-le}
use borrow.Author.Tests.{leb-true}
use Rattle.words.specs.Bits.{within}
use Rattle.words.specs.Answers.{Answer, accepted as answered}
use Rattle.words.proofs.Answers.{need_accepted, after_accepted, and_left, and_right, within_most}
use Rattle.fields.specs.declared.Head.{Head}
use Rattle.fields.specs.declared.Cell.{Cell}
use Rattle.listing.specs.Layout.{head, cells, horizon, cell}
use Rattle.listing.specs.Accepted.{Accepted}
use Rattle.listing.proofs.Accepted.{accepted}
use Rattle.year.specs.Year.{most_loss}
use Rattle.year.specs.Limits.{WithinLimits}
use Rattle.year.specs.declared.Entry.{Entry}
use Rattle.year.proofs.Laws.{most_entered}
use Rattle.book.specs.Layout.{Sized, Shaped, issued_in_one_word, year_at, entry_at, issued_at, issued_words, payload, plan_of, joined, year, issued, entry_of, words_of}
use Rattle.book.specs.Current.{current}
use Rattle.book.specs.Check.{is_year_word, is_plan_word, is_burned_word, is_head_word, entry_word_valid, capacity_checked, fitted, book_checked, admitted}
use Rattle.book.specs.AcceptedBook.{Fitted, CellInBook, All, WordsValid, EntryValid, CellWordsValid, AcceptedBook}
use Rattle.book.specs.declared.FittedBook.{FittedBook}
use Rattle.book.specs.declared.OpenBook.{OpenBook}
use Rattle.book.specs.declared.Shape.{Shape}
use Rattle.book.proofs.Places.{entry_before}
use Rattle.book.proofs.Numbers.{joined_below}
use Rattle.book.proofs.Valid.{checked_valid}

-- a head of two words, and one of three, with three words a cell
pub head_shaped : (n : ℕ) → 2 ≤ n → n ≤ 3 → Shaped (record { head = n; entry = 3 })
head_shaped n least most = record { head = (least, most); entry = record { least = omega arith; most = omega arith } }

pub one_word_shaped : Shaped issued_in_one_word
one_word_shaped = head_shaped 2 (omega arith) (omega arith)

pub shaped : Shaped current
shaped = head_shaped 3 (omega arith) (omega arith)

-- what holds at each size of a cell
pub by_size : (P : ℕ → Type 0) (n : ℕ) → Sized n → P 3 → P n
by_size P n g p = let is : n ≡ 3 = omega (arith, g.least, g.most) in rw is p

pub fitted_accepted : (s : Shape) (l b : List ℕ) → Shaped s → (fitted s l b).done ≡ true → Fitted s l b
unfolding fitted capacity_checked
fitted_accepted s l b g h =
    let h₁ = after_accepted _ _ h in
    let h₂ = need_accepted _ _ _ _ h₁.1 in
    record { shaped = g; accepted = accepted l h₁.0; capacity = leb-true _ _ h₂.0 }

-- ---- what a valid word guarantees

year_bound : (horizon w : ℕ) → is_year_word horizon w ≡ true → payload w ≤ horizon
unfolding is_year_word
year_bound horizon w h = let e : within 0 horizon (payload w) ≡ true = search (and_left, and_right) in within_most 0 horizon (payload w) e

plan_bound : (horizon w : ℕ) → is_plan_word horizon w ≡ true → plan_of w ≤ horizon
unfolding is_plan_word
plan_bound horizon w h = let e : within 0 horizon (plan_of w) ≡ true = search (and_left, and_right) in within_most 0 horizon (plan_of w) e

pub burned_bound : (most before w : ℕ) → is_burned_word most before w ≡ true → payload before + payload w ≤ most
unfolding is_burned_word
burned_bound most before w h = let e : leb (payload before + payload w) most ≡ true = search (and_left, and_right) in leb-true _ _ e

entry_bounds : (n : ℕ) (h : Head) (c : Cell) (w : List ℕ) → 3 ≤ n → All (entry_word_valid h c w) n → EntryValid h c (entry_of w)
unfolding entry_of entry_word_valid
entry_bounds n h c w le r =
    let most = burned_bound (most_loss h c) (get_or w 1 0) (get_or w 2 0) (r.each 2 (omega arith)) in
    record { plan = plan_bound h.horizon (get_or w 0 0) (r.each 0 (omega arith)); most = most; lost = omega (arith, most_entered h c) }

-- ---- capacity

-- every cell of a book that fits has space for its words
pub fitted_cell : (s : Shape) (l b : List ℕ) → Fitted s l b → (i : ℕ) → i < cells l → CellInBook s b i
fitted_cell s l b f i lt =
    let capacity = f.capacity in
    let cells_most = f.accepted.head_valid.cells.1 in
    record { shaped = f.shaped; in_book = omega (arith, entry_before s i (cells l) lt); small = omega arith }

-- and its words are as many as the shape has
pub words_sized : (s : Shape) (b : List ℕ) (i : ℕ) → CellInBook s b i → length (words_of s b i) ≡ s.entry
words_sized s b i r = let capacity = r.in_book in length-take-le s.entry (drop (entry_at s i) b) (rw length-drop (omega arith))

pub words_valid : (s : Shape) (b : List ℕ) (i : ℕ) → CellInBook s b i → Sized (length (words_of s b i))
words_valid s b i r = rw (words_sized s b i r) r.shaped.entry

pub words_long : (s : Shape) (b : List ℕ) (i : ℕ) → CellInBook s b i → 3 ≤ length (words_of s b i)
words_long s b i r = (words_valid s b i r).least

-- ---- all of it

-- the figures of cell i fit, with what its entry e has lost
pub entry_fit : (l : List ℕ) (i : ℕ) (e : Entry) → Accepted l → i < cells l → EntryValid (head l) (cell l i) e → WithinLimits (head l) (cell l i) e.oxidised e.burned
entry_fit l i e a lt valid = record { head_valid = a.head_valid; cell_valid = a.cell_valid i lt; lost = valid.lost }

module _ (s : Shape) (l b : List ℕ) (g : Shaped s) where
  holds : WordsValid s l b → (i : ℕ) → i < cells l → EntryValid (head l) (cell l i) (entry_of (words_of s b i))
  holds r i lt = entry_bounds s.entry (head l) (cell l i) (words_of s b i) g.entry.least (r.entry_words i lt)

  pub checked_accepted_book : Fitted s l b → (book_checked s l b).done ≡ true → AcceptedBook s l b
  unfolding year issued joined is_head_word
  checked_accepted_book fits h =
      let r = checked_valid s l b h in
      let two = g.head in
      record {
        fitted = fits;
        year = omega (arith, year_bound (horizon l) (get_or b year_at 0) (r.head_words.each year_at (omega arith)));
        issued = joined_below b issued_at (issued_words s);
        entry_valid = holds r;
        words_valid = λ i lt. record { sized = words_valid s b i (fitted_cell s l b fits i lt); fit = entry_fit l i _ fits.accepted lt (holds r i lt) };
      }

  pub accepted_book : (admitted s l b).done ≡ true → AcceptedBook s l b
  unfolding admitted
  accepted_book h = let both = after_accepted _ _ h in checked_accepted_book (fitted_accepted s l b g both.0) both.1

  -- the same by the answers
  pub fitted_by : (x : ℕ) → answered x ≡ fitted s l b → Fitted s l b
  fitted_by x e = fitted_accepted s l b g (ap (λ (a : Answer). a.done) (sym e))

  pub checked_by : (x : ℕ) → Fitted s l b → answered x ≡ book_checked s l b → AcceptedBook s l b
  checked_by x fits e = checked_accepted_book fits (ap (λ (a : Answer). a.done) (sym e))

  pub accepted_book_by : (x : ℕ) → answered x ≡ admitted s l b → AcceptedBook s l b
  accepted_book_by x e = accepted_book (ap (λ (a : Answer). a.done) (sym e))

-- every cell of an accepted book has space for its words
pub accepted_book_cell : (s : Shape) (l b : List ℕ) → AcceptedBook s l b → (i : ℕ) → i < cells l → CellInBook s b i
accepted_book_cell s l b accepted_book = fitted_cell s l b accepted_book.fitted

-- ---- an open book, by its ghost field

module _ (b : OpenBook) where
  -- its head, and cell i with its words
  pub open_head : current.head ≤ length b.words.now
  open_head = let capacity = b.accepted.fitted.capacity in omega arith

  pub open_cell : (i : ℕ) → i < cells b.listing.words.now → CellInBook current b.words.now i
  open_cell = accepted_book_cell current _ _ b.accepted

  pub open_words : (c : Cell) (w : List ℕ) (i : ℕ) → i < cells b.listing.words.now → c ≡ cell b.listing.words.now i → w ≡ words_of current b.words.now i → CellWordsValid b.listing.figures c w
  open_words c w i lt f g = rw (b.listing.is_head, f, g) (b.accepted.words_valid i lt)

-- ---- a book that fits, by its ghost fields

pub fitted_book : (f : FittedBook) → Fitted f.shape f.listing.words.now f.words.now
fitted_book f = record { shaped = f.shaped; accepted = f.listing.accepted; capacity = f.capacity }
