-- A call on a listing and a book with their cells in another order: the same answer, and the book and the lines in that order. Assumes nothing.
use mathlib.Core.Path.{◌≡◌, refl, sym, ap, ap₂, ◌∙◌}
use mathlib.Core.Bool.{true}
use mathlib.Core.List.{List, []}
use Prim.Native.Nat.{ℕ, ◌<◌}
use native.Mathlib.Omega.{arith}
use lib.Dec.{ltb}
use lib.ListN.{length}
use borrow.Author.Tests.{lt-ltb}
use Rattle.words.specs.Answers.{Answer, AnswerWith, accepted, after}
use Rattle.words.specs.Effect.{written}
use Rattle.words.specs.Sums.{sum_below}
use Rattle.words.proofs.Answers.{cond_both, after_both}
use Rattle.words.proofs.Effect.{written_new, written_both}
use Rattle.words.proofs.Signed.{by_less}
use Rattle.fields.specs.declared.Head.{Head}
use Rattle.fields.specs.declared.Cell.{Cell}
use Rattle.listing.specs.Layout.{head, cells, strata, cell}
use Rattle.year.specs.Year.{kg_of, planned, marked}
use Rattle.year.proofs.Laws.{converted, same_figures}
use Rattle.book.specs.Current.{current, entry, kg_to_date, fitted, book_checked, admitted, AcceptedBook}
use Rattle.book.specs.Layout.{year}
use Rattle.book.specs.Check as check
use Rattle.book.proofs.Valid.{admitted_valid, valid_checked, fitted_is, checked_admits}
use Rattle.book.proofs.AcceptedBook.{shaped, fitted_accepted, accepted_book}
use Rattle.book.proofs.Keeps.{admitted_fitted}
use Rattle.balance.specs.Balance.{balance_in, due, tonnes_due}
use Rattle.balance.proofs.Bounds.{balance_by}
use Rattle.closing.specs.Closing.{lines_checked, year_checked, close_answer}
use Rattle.closing.proofs.Closable.{year_checked_is, closable}
use Rattle.ledger.specs.declared.CellFigures.{CellFigures}
use Rattle.ledger.specs.Calls.{close_effect, cell_checked, admitted_cell, mark_checked, admitted_unwithdrawn, ahead, plan_checked, replan_answer, replan_effect, withdraw_effect}
use Rattle.ledger.specs.Calls.{issue_answer, issue_effect, no_figures, figures_of, statement_answer, Call, Close, Replan, Withdraw, Issue, call_effect}
use Rattle.ledger.specs.Calls.{lines_buffer}
use Rattle.ledger.proofs.AdmittedCell.{admitted_cell_accepted, unwithdrawn_accepted, replan_accepted}
use Rattle.ledger.proofs.After.{call_admitted, call_admits}
use Rattle.order.specs.Order.{SameYear, Order, Moved, ListingMoved, BookMoved, LinesMoved, ProjectMoved, ButForPlace, moved, SameCall}
use Rattle.order.proofs.Answers.{alike_same}
use Rattle.order.proofs.Moved.{to_within, to_beyond, moved_there, same_sum}
use Rattle.order.proofs.OwnWords.{own_words}
use Rattle.order.proofs.Listings.{cells_is, horizon_is, cell_is, row_is, terms_are_lem}
use Rattle.order.proofs.Books.{year_is, issued_is, entry_is, there, plan_moved, issued_moved, closed_moved, lines_moved, fitted_alike, book_alike}

-- ---- what two calls leave

-- two slices, where both calls are accepted, whatever was there
pub written_moved : {n : ℕ} {o : Order n} {size at : ℕ} (a a' : Answer) (old : List ℕ) {new : List ℕ} (old' : List ℕ) {new' : List ℕ} → a.done ≡ true → a'.done ≡ true →
    Moved o size at new new' → Moved o size at (written a old new) (written a' old' new')
written_moved a a' old {new} old' {new'} done done' e = rw (written_new a old new done, written_new a' old' new' done') e

-- no lines
pub none_moved : {n : ℕ} {o : Order n} → LinesMoved o [] []
none_moved = record { before = λ k lt. refl; block = λ m lt k less. refl }

-- ---- two answers, by a relation that their tests have: equal, or equal but for the place
pub record Related (R : Answer → Answer → Type 0) (l l' b b' : List ℕ) : Type 0 where
  pub same : (a : Answer) → R a a
  pub both_done : (a a' : Answer) → R a a' → a.done ≡ a'.done
  pub fits : R (fitted l b) (fitted l' b')
  pub checks : (fitted l b).done ≡ true → R (book_checked l b) (book_checked l' b')

module _ {R : Answer → Answer → Type 0} {l l' b b' : List ℕ} (r : Related R l l' b b') where
  pub equal : {a a' : Answer} → a' ≡ a → R a a'
  equal q = rw q (r.same _)

  pub next : {a a' next next' : Answer} → R a a' → (a.done ≡ true → R next next') → R (after a next) (after a' next')
  next q f = after_both R _ _ _ _ (r.both_done _ _ q) q f

  pub admitted_by : R (admitted l b) (admitted l' b')
  unfolding check.admitted
  admitted_by = next r.fits r.checks

-- ---- a listing and a book, and the same in another order: if a call accepts the book, one on the other listing accepts the other
pub record Pair {n : ℕ} (o : Order n) (l l' b b' : List ℕ) : Type 0 where
  pub listing : ListingMoved o l l'
  pub book : BookMoved o b b'
  pub admits : (admitted l b).done ≡ true → (admitted l' b').done ≡ true

module _ {n : ℕ} {o : Order n} {l l' b b' : List ℕ} (v : Pair o l l' b b') where
  abbrev e : ListingMoved o l l'
  e = v.listing

  abbrev eb : BookMoved o b b'
  eb = v.book

  -- ---- a cell

  here_cell : (k : ℕ) → k < n → cell l' (o.to k) ≡ cell l k
  here_cell = moved_there o (cell l) (cell l') (cell_is e)

  here_entry : (k : ℕ) → k < n → entry b' (o.to k) ≡ entry b k
  here_entry = moved_there o (entry b) (entry b') (entry_is current shaped eb)

  -- it is one, or it is none
  there_same : (k : ℕ) → ltb (o.to k) n ≡ ltb k n
  there_same k =
      by_less k n
      (λ lt. lt-ltb (o.to k) n (to_within o k lt) ∙ sym (lt-ltb k n lt))
      (λ le. ap (λ (m : ℕ). ltb m n) (to_beyond o k le))

  cell_same : (k : ℕ) → cell_checked l' (o.to k) ≡ cell_checked l k
  unfolding cell_checked
  cell_same k = rw (cells_is e, e.count, there_same k)

  mark_same : (k : ℕ) → k < n → mark_checked b' (o.to k) ≡ mark_checked b k
  unfolding mark_checked
  mark_same k lt = rw (here_entry k lt)

  plan_same : (k t : ℕ) → k < n → plan_checked l' b' (o.to k) t ≡ plan_checked l b k t
  unfolding plan_checked ahead
  plan_same k t lt = rw (here_entry k lt, year_is current shaped eb, horizon_is e)

  figures_same : (k : ℕ) → k < n → figures_of l' b' (o.to k) ≡ figures_of l b k
  unfolding figures_of
  figures_same k lt = rw (here_cell k lt, here_entry k lt, e.head_is)

  -- ---- what is due

  kg_is : (m : ℕ) → m < n → kg_to_date l' b' m ≡ kg_to_date l b (o.from m)
  kg_is m lt = ap (λ (h : Head). kg_of h (cell l' m) (entry b' m)) e.head_is ∙ ap₂ (kg_of (head l)) (cell_is e m lt) (entry_is current shaped eb m lt)

  pub kg_sum_is : sum_below (kg_to_date l' b') (cells l') ≡ sum_below (kg_to_date l b) (cells l)
  kg_sum_is = rw (cells_is e, e.count) (same_sum o (kg_to_date l b) (kg_to_date l' b') kg_is)

  due_is : tonnes_due l' b' ≡ tonnes_due l b
  due_is =
      let balance_is : balance_in l' b' ≡ balance_in l b =
      balance_by l' l (year b') (year b) (kg_to_date l' b') (kg_to_date l b) (year_is current shaped eb) kg_sum_is (ap (λ (h : Head). h.buffer) e.head_is) (terms_are_lem e) in
      ap₂ due balance_is (issued_is current shaped eb)

  -- ---- a year

  -- of a closing that is accepted: cell m now is the cell from where it came
  own : (size : ℕ) → (close_answer l b size).done ≡ true → (m : ℕ) → m < n → SameYear l' b' m l b (o.from m)
  own size done m lt =
      let s = closable l b size done in
      let valid = s.accepted_book.fitted.accepted in
      let ahead = s.ahead in
      let years = year_is current shaped eb in
      let stratum : (cell l' m).stratum < strata l = omega (arith, ap (λ (c : Cell). c.stratum) (cell_is e m lt), (valid.cell_valid (o.from m) (there current shaped e m lt)).stratum) in
      own_words l' b' m l b (o.from m)
      (record {
        figures = same_figures e.head_is;
        listing_words = rw e.head_is (e.cells_moved.block m lt);
        book_words = eb.block m lt;
        year_is = years;
        own_row = λ past. row_is e valid _ _ stratum (let within = converted _ _ past in (omega arith, omega arith));
      })

  -- ---- of a book that a call accepts

  module _ (a : (admitted l b).done ≡ true) where
    valid : AcceptedBook l b
    valid = accepted_book current l b shaped a

    valid' : AcceptedBook l' b'
    valid' = accepted_book current l' b' shaped (v.admits a)

    year_same : year_checked l' b' ≡ year_checked l b
    year_same = year_checked_is l' b' valid' ∙ rw (year_is current shaped eb, horizon_is e) (sym (year_checked_is l b valid))

    -- 1 to 8 are passed on both
    pub equally : Related (λ x x'. x' ≡ x) l l' b b'
    equally =
        let a' = v.admits a in
        record {
          same = λ x. refl;
          both_done = λ x x' q. ap (λ (y : Answer). y.done) (sym q);
          fits = fitted_is current l' b' (admitted_fitted current l' b' a') ∙ sym (fitted_is current l b (admitted_fitted current l b a));
          checks = λ fits. valid_checked current l' b' shaped (admitted_valid current l' b' a') ∙ sym (valid_checked current l b shaped (admitted_valid current l b a));
        }

  -- ---- every answer

  module _ {R : Answer → Answer → Type 0} (r : Related R l l' b b') where
    pub admitted_cell_by : (k : ℕ) → R (admitted_cell l b k) (admitted_cell l' b' (o.to k))
    unfolding admitted_cell
    admitted_cell_by k = next r (admitted_by r) (λ done. equal r (cell_same k))

    unwithdrawn_by : (k : ℕ) → R (admitted_unwithdrawn l b k) (admitted_unwithdrawn l' b' (o.to k))
    unfolding admitted_unwithdrawn
    unwithdrawn_by k = next r (admitted_cell_by k) (λ done. equal r (mark_same k (rw e.count at (admitted_cell_accepted l b k done).there)))

    close_by : (size : ℕ) → R (close_answer l b size) (close_answer l' b' size)
    unfolding close_answer lines_checked
    close_by size =
        next r r.fits
        (λ fits. next r (equal r (rw (cells_is e, e.count)))
        (λ capacity. next r (r.checks fits)
        (λ checked. equal r (year_same (checked_admits current l b fits checked)))))

    pub call_by : (c : Call) (y : List ℕ) → length y ≡ length (lines_buffer c) → R (call_effect l b c).answer (call_effect l' b' (moved o y c)).answer
    unfolding close_effect replan_effect replan_answer withdraw_effect issue_effect issue_answer
    call_by (Close x) y long = rw long (close_by (length x))
    call_by (Replan k t) y long = next r (unwithdrawn_by k) (λ done. equal r (plan_same k t (rw e.count at (unwithdrawn_accepted l b k done).there)))
    call_by (Withdraw k) y long = unwithdrawn_by k
    call_by Issue y long = next r (admitted_by r) (λ done. equal r (ap accepted due_is))

  -- ---- every call that is accepted in both or in none

  both : (a a' : Answer) {new new' : List ℕ} → a'.done ≡ a.done → (a.done ≡ true → BookMoved o new new') → BookMoved o (written a b new) (written a' b' new')
  both a a' alike f = written_both (BookMoved o) a a' b _ b' _ (sym alike) eb f

  pub book_same : (c : Call) (y : List ℕ) → (call_effect l' b' (moved o y c)).answer.done ≡ (call_effect l b c).answer.done →
      BookMoved o (call_effect l b c).book (call_effect l' b' (moved o y c)).book
  unfolding close_effect replan_effect withdraw_effect issue_effect
  book_same (Close x) y alike = both _ _ alike (λ done. let a = call_admitted l b (Close x) done in closed_moved e eb (valid a).fitted (valid' a).fitted (own (length x) done))
  book_same (Replan k t) y alike =
      both _ _ alike
      (λ done.
      let (r, in_time) = replan_accepted l b k t done in
      rw (here_entry k (rw e.count at r.there)) (plan_moved e eb r.accepted_book.fitted (valid' r.admits).fitted k (planned (entry b k) t)))
  book_same (Withdraw k) y alike =
      both _ _ alike
      (λ done.
      let r = unwithdrawn_accepted l b k done in
      rw (here_entry k (rw e.count at r.there)) (plan_moved e eb r.accepted_book.fitted (valid' r.admits).fitted k (marked (entry b k))))
  book_same Issue y alike =
      both _ _ alike
      (λ done. let a = call_admitted l b Issue done in rw (due_is, issued_is current shaped eb) (issued_moved e eb (valid a).fitted (valid' a).fitted _))

  lines_same : (c : Call) (y : List ℕ) → (call_effect l' b' (moved o y c)).answer.done ≡ (call_effect l b c).answer.done → (call_effect l b c).answer.done ≡ true →
      LinesMoved o (call_effect l b c).output (call_effect l' b' (moved o y c)).output
  unfolding close_effect replan_effect withdraw_effect issue_effect
  lines_same (Close x) y alike done = written_moved _ _ x y done (alike ∙ done) (lines_moved e b b' (own (length x) done) x y)
  lines_same (Replan k t) y alike done = none_moved
  lines_same (Withdraw k) y alike done = none_moved
  lines_same Issue y alike done = none_moved

  -- ---- all that is claimed of a call on a book that a call accepts

  module _ (a : (admitted l b).done ≡ true) where
    pub statement_same : (k : ℕ) → statement_answer l' b' (o.to k) ≡ statement_answer l b k
    unfolding statement_answer
    statement_same k =
        let same : admitted_cell l' b' (o.to k) ≡ admitted_cell l b k = admitted_cell_by (equally a) k in
        rw same
        (ap (answer_of (admitted_cell l b k))
        (cond_both (λ x x'. x' ≡ x) (admitted_cell l b k).done (admitted_cell l b k).done _ no_figures _ no_figures refl
        (λ done. figures_same k (rw e.count at (admitted_cell_accepted l b k done).there)) (λ refused. refl)))
      where
        answer_of : Answer → CellFigures → AnswerWith CellFigures
        answer_of x c = record { answer = x; figures = c }

    module _ (c : Call) (y : List ℕ) (long : length y ≡ length (lines_buffer c)) where
      answer_same : (call_effect l' b' (moved o y c)).answer ≡ (call_effect l b c).answer
      answer_same = call_by (equally a) c y long

      alike : (call_effect l' b' (moved o y c)).answer.done ≡ (call_effect l b c).answer.done
      alike = ap (λ (x : Answer). x.done) answer_same

      pub pair_next : Pair o l l' (call_effect l b c).book (call_effect l' b' (moved o y c)).book
      pair_next = record { listing = e; book = book_same c y alike; admits = λ then. call_admits l' b' (moved o y c) (v.admits a) }

-- what a call leaves
pub same_call : {n : ℕ} {o : Order n} {l l' b b' : List ℕ} (v : Pair o l l' b b') → (admitted l b).done ≡ true → (c : Call) (y : List ℕ) →
    length y ≡ length (lines_buffer c) → SameCall o l l' (call_effect l b c) (call_effect l' b' (moved o y c))
same_call {l = l} {b = b} v a c y long =
    record {
      answer_is = answer_same v a c y long;
      book_moved = book_same v c y (alike v a c y long);
      lines_moved = lines_same v c y (alike v a c y long);
      statement_is = statement_same (pair_next v a c y long) (call_admits l b c a);
    }

-- ---- any listing and any book, valid or not: by tests that are the same but for the place

module _ {n : ℕ} {o : Order n} {l l' b b' : List ℕ} (p : ProjectMoved o l b l' b') where
  pub related : Related ButForPlace l l' b b'
  related =
      let fits = fitted_alike current shaped p.listing b b' p.length_is in
      record {
        same = alike_same;
        both_done = λ a a' e. sym e.done_is;
        fits = fits;
        checks = λ done. book_alike current shaped p.listing p.book (fitted_accepted current l b shaped done) (fitted_accepted current l' b' shaped (fits.done_is ∙ done));
      }

  pub pair_alike : Pair o l l' b b'
  pair_alike = record { listing = p.listing; book = p.book; admits = λ a. (admitted_by related).done_is ∙ a }
