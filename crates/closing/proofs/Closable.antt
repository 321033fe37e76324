-- What the steps of a closing are given, from its answers. Assumes nothing.
use mathlib.Core.Path.{◌≡◌, refl, sym, ap, ◌∙◌}
use mathlib.Core.Bool.{true, false}
use mathlib.Core.List.{List}
use Prim.Native.Nat.{ℕ, zero-le, ◌+◌, ◌*◌, ◌≤◌, ◌<◌}
use native.Mathlib.Omega.{arith}
use lib.Dec.{leb, ltb}
use borrow.Author.Tests.{le-leb, lt-ltb, leb-true, ltb-true}
use Rattle.words.specs.Answers.{Answer, accepted, need, after}
use Rattle.words.specs.Refusals.{lines_short, horizon_reached, line_too_large}
use Rattle.words.proofs.Answers.{need_accepted, need_all_accepted, after_accepted, need_is, need_all_is, after_is}
use Rattle.fields.specs.declared.Cell.{Cell}
use Rattle.listing.specs.Layout.{head, cells, strata, horizon, row, cell}
use Rattle.listing.specs.Accepted.{Accepted}
use Rattle.year.specs.Year.{inactive, age, most_line, loss_of, year_loss, after_loss}
use Rattle.year.specs.Limits.{WithinLimits}
use Rattle.year.specs.declared.Entry.{Entry}
use Rattle.year.specs.declared.Loss.{Loss}
use Rattle.fields.specs.declared.Head.{Head}
use Rattle.fields.specs.declared.Row.{Row}
use Rattle.year.proofs.Laws.{active, converted, most_entered, year_most, year_kg_most, loss_active}
use Rattle.book.specs.Current.{current, entry, fitted, book_checked, admitted, AcceptedBook}
use Rattle.book.specs.Layout.{line_words, year, entry_of}
use Rattle.book.specs.AcceptedBook.{Storable, EntryValid}
use Rattle.book.proofs.Valid.{admitted_valid, valid_checked, checked_admits}
use Rattle.book.proofs.AcceptedBook.{shaped, accepted_book}
use Rattle.book.proofs.Held.{valid_storable}
use Rattle.book.proofs.Keeps.{admitted_fitted}
use Rattle.closing.specs.Closing.{loss, cell_loss, EveryLine, lines_checked, most_payload, line_fits, year_checked, close_answer}
use Rattle.closing.specs.Closable.{CellYear, NextYear, Closable}

-- ---- a cell that is worked out
module _ {l : List ℕ} (a : Accepted l) {c : Cell} {e : Entry} {t : ℕ} (g : CellYear l c e t) where
  -- its entry is valid after the year too, and its mm to date are at most 20,000
  abbrev entry_then : Entry
  entry_then = after_loss e (year_loss (head l) (row l) c e t)

  pub cell_year_valid : EntryValid (head l) c entry_then
  cell_year_valid =
      let most = year_most (head l) (row l) c e t g.entry_valid.most in
      record { plan = g.entry_valid.plan; most = most; lost = omega (arith, most_entered (head l) c) }

  pub lost_then : entry_then.oxidised + entry_then.burned ≤ 20000
  lost_then = omega (arith, cell_year_valid.lost, g.cell_valid.entered)

  pub cell_year_storable : Storable entry_then
  cell_year_storable = valid_storable a.head_valid g.cell_valid entry_then cell_year_valid

  pub cell_year_fit : WithinLimits (head l) c e.oxidised e.burned
  cell_year_fit = record { head_valid = a.head_valid; cell_valid = g.cell_valid; lost = g.entry_valid.lost }

  -- where it is active, its table has a row for its age
  pub active_age : inactive (head l) c e t ≡ false → (e.plan ≤ t) × (c.stratum < strata l) × (1 ≤ age e.plan t) × (age e.plan t ≤ horizon l)
  active_age q =
      let p = converted e.plan t (active (head l) c e t q).0 in
      let time = g.in_time in
      (p.1, g.cell_valid.stratum, omega arith, omega arith)

-- r is the row that was read, and s the loss that was answered by it
pub active_loss_lem : (l : List ℕ) (h : Head) (c : Cell) (e : Entry) (t : ℕ) → h ≡ head l → inactive (head l) c e t ≡ false →
    (r : Row) → r ≡ row l c.stratum (age e.plan t) → (s : Loss) → s ≡ loss_of h c r e → s ≡ year_loss (head l) (row l) c e t
active_loss_lem l h c e t h_is q r r_is s s_is = (rw (r_is, h_is) at s_is) ∙ sym (loss_active (head l) (row l) c e t q)

-- s is the loss that was answered for the cell c and the entry e, which were read from a cell's own words w
pub step_loss : (l : List ℕ) (t i : ℕ) (w : List ℕ) {c : Cell} {e : Entry} {s : Loss} → c ≡ cell l i → e ≡ entry_of w → s ≡ year_loss (head l) (row l) c e t →
    s ≡ cell_loss l t i (entry_of w)
step_loss l t i w c_is e_is s_is = rw (c_is, e_is) at s_is

-- every cell of a valid book can be
pub next_cell_year : {l b : List ℕ} {t : ℕ} → NextYear l b t → (i : ℕ) → i < cells l → CellYear l (cell l i) (entry b i) t
next_cell_year g i lt =
    let next = g.next in
    record { cell_valid = g.accepted_book.fitted.accepted.cell_valid i lt; entry_valid = g.accepted_book.entry_valid i lt; in_time = (omega arith, g.in_time) }

-- ---- a valid book before the horizon: no kg line is too large for its word

module _ (l b : List ℕ) (s : AcceptedBook l b) where
  line_most : (i : ℕ) → i < cells l → (loss l b i).kg ≤ most_line
  line_most i lt = let valid = s.fitted.accepted in year_kg_most (head l) (row l) (cell l i) (entry b i) _ valid.head_valid (valid.cell_valid i lt) valid.row_valid

  pub lines_fit : (i : ℕ) → i < cells l → (loss l b i).kg ≤ most_payload
  lines_fit i lt = omega (arith, line_most i lt)

  -- so number 9 is the only one
  pub year_checked_is : year_checked l b ≡ need (ltb (year b) (horizon l)) horizon_reached 0 (accepted 0)
  unfolding year_checked line_fits
  year_checked_is =
      ap (need (ltb (year b) (horizon l)) horizon_reached 0)
      (sym (need_all_is line_too_large (line_fits l b) 0 (cells l) (accepted 0) zero-le (λ i p lt. le-leb (loss l b i).kg most_payload (lines_fit i lt))))

  pub year_passed : year b < horizon l → accepted 0 ≡ year_checked l b
  year_passed ahead = need_is (ltb (year b) (horizon l)) horizon_reached 0 (accepted 0) (lt-ltb (year b) (horizon l) ahead) ∙ sym year_checked_is

pub every_line : EveryLine
every_line l b a = line_most l b (accepted_book current l b shaped a)

-- ---- a closing that is accepted, and one that can be
module _ (l b : List ℕ) (capacity : ℕ) where
  -- the lines are tested before the book's words
  order : close_answer l b capacity ≡ after (fitted l b) (after (lines_checked l capacity) (after (book_checked l b) (year_checked l b)))
  unfolding close_answer
  order = refl

  pub closable : (close_answer l b capacity).done ≡ true → Closable l b capacity
  unfolding lines_checked year_checked line_fits
  closable a =
      let h₁ = after_accepted _ _ (rw order at a) in
      let h₂ = after_accepted _ _ h₁.1 in
      let h₃ = after_accepted _ _ h₂.1 in
      let h₄ = need_accepted _ _ _ _ h₃.1 in
      let admits = checked_admits current l b h₁.0 h₃.0 in
      record {
        admits = admits;
        accepted_book = accepted_book current l b shaped admits;
        ahead = ltb-true _ _ h₄.0;
        capacity = leb-true _ _ (need_accepted _ _ _ _ h₂.0).0;
        fits = λ i lt. leb-true _ _ ((need_all_accepted _ _ _ _ _ h₄.1).0 i zero-le lt);
      }

  -- the same by the answer
  pub closable_by : (x : ℕ) → accepted x ≡ close_answer l b capacity → Closable l b capacity
  closable_by x e = closable (ap (λ (a : Answer). a.done) (sym e))

  -- an accepted book before the horizon, with space for its lines
  pub closable_before : line_words * cells l ≤ capacity → year b < horizon l → (admitted l b).done ≡ true → Closable l b capacity
  closable_before enough ahead a =
      let s = accepted_book current l b shaped a in
      record { admits = a; accepted_book = s; ahead = ahead; capacity = enough; fits = lines_fit l b s }

  -- what can be closed is
  pub closes : Closable l b capacity → (close_answer l b capacity).done ≡ true
  unfolding lines_checked
  closes k =
      let valid = admitted_valid current l b k.admits in
      sym
      (ap (λ (a : Answer). a.done)
      (year_passed l b k.accepted_book k.ahead
      ∙ after_is _ (book_checked l b) (ap (λ (a : Answer). a.done) (valid_checked current l b shaped valid))
      ∙ after_is _ (lines_checked l capacity) (ap (λ (a : Answer). a.done) (sym (need_is (leb (line_words * cells l) capacity) lines_short capacity (accepted 0) (le-leb _ _ k.capacity))))
      ∙ after_is _ (fitted l b) (admitted_fitted current l b k.admits)
      ∙ sym order))
