-- Which answers peatrun meets: an open is refused by the listing's own numbers alone, and no call after it is refused. Assumes nothing.
use mathlib.Core.Path.{◌≡◌, sym, ap, ◌∙◌}
use mathlib.Core.Bool.{true, false, false≢true}
use mathlib.Core.List.{List, []}
use Prim.Native.Nat.{ℕ, ◌+◌, ◌*◌, ◌≤◌, ◌<◌}
use native.Mathlib.Numerals.{add-one}
use native.Mathlib.Omega.{arith}
use lib.Dec.{leb}
use lib.ListN.{length}
use borrow.Author.Tests.{le-leb}
use Rattle.words.specs.Answers.{Answer, AnswerWith, accepted, after}
use Rattle.words.specs.Effect.{Effect, effect}
use Rattle.words.specs.Refusals.{book_short}
use Rattle.words.proofs.Answers.{need_is, after_is}
use Rattle.words.proofs.Effect.{effect_answer, effect_book, effect_output}
use Rattle.words.proofs.Signed.{by_test}
use Rattle.fields.specs.Words.{most_cells}
use Rattle.listing.specs.Layout.{least_words, cells, horizon, cell}
use Rattle.listing.specs.Check.{checked}
use Rattle.listing.proofs.Accepted.{accepted as accepted-listing}
use Rattle.listing.proofs.Numbers.{checked_either}
use Rattle.year.specs.Year.{remaining}
use Rattle.book.specs.Current.{current, book_size, entry, admitted}
use Rattle.book.specs.Layout.{line_words}
use Rattle.book.specs.Check.{capacity_checked}
use Rattle.book.specs.Check as check
use Rattle.book.proofs.AcceptedBook.{shaped, accepted_book}
use Rattle.closing.specs.Closable.{Closable}
use Rattle.closing.proofs.Closable.{closable_before, closes}
use Rattle.ledger.specs.declared.CellFigures.{CellFigures}
use Rattle.ledger.specs.Calls.{open_effect, close_effect, issue_answer, issue_effect, figures_of, statement_answer}
use Rattle.ledger.proofs.AdmittedCell.{cell_admitted}
use Rattle.ledger.proofs.After.{opened_holds, closed_holds, issued_holds}
use Rattle.peatrun.specs.Years.{RefusedByListing, InYear, Ran, Slices, ran_for}

-- ---- open, on a book with space for the most cells

-- an answer that is accepted, or refused by 1 to 5
abbrev ByListing : Answer → Type 0
ByListing a = a.done ≡ false → RefusedByListing a

module _ (l b : List ℕ) (long_enough : book_size most_cells ≤ length b) where
  capacity_listed : (checked l).done ≡ true → ByListing (capacity_checked current l b)
  unfolding capacity_checked
  capacity_listed done =
      let cells_most = (accepted-listing l done).head_valid.cells.1 in
      let enough : book_size (cells l) ≤ length b = omega arith in
      rw (sym (need_is (leb (book_size (cells l)) (length b)) book_short (length b) (accepted 0) (le-leb _ _ enough))) (λ h. absurd (false≢true (sym h)))

  -- it is refused by the listing's own numbers alone
  pub opened_listed : ByListing (open_effect l b).answer
  unfolding open_effect check.fitted after
  opened_listed =
      by_test ByListing (checked l).done (capacity_checked current l b) (checked l) capacity_listed
      (λ _. checked_either ByListing (λ n k low high h. record { refused = h; least = low; most = high }) (λ h. absurd (false≢true (sym h))) l)

  pub opened_refused : (a : Answer) (book' : List ℕ) → effect a book' [] ≡ open_effect l b → a.done ≡ false → RefusedByListing a
  opened_refused a book' e d = let same = effect_answer e in rw same (opened_listed (rw same at d))

-- and where it was accepted the book is opened
pub opened : (l b book' : List ℕ) (x : ℕ) → effect (accepted x) book' [] ≡ open_effect l b → InYear l book' 0
opened l b book' x e =
    let holds = opened_holds l b (ap (λ (a : Answer). a.done) (sym (effect_answer e))) in
    rw (effect_book e) (record { admits = holds.admits; year_is = holds.year_is })

-- ---- a year of an opened book

pub opened_cells : (l b : List ℕ) → (admitted l b).done ≡ true → cells l ≤ most_cells
opened_cells l b admits = (accepted_book current l b shaped admits).fitted.accepted.head_valid.cells.1

pub opened_long : (l b : List ℕ) → (admitted l b).done ≡ true → least_words ≤ length l
opened_long l b admits =
    let a = (accepted_book current l b shaped admits).fitted.accepted in
    omega (arith, a.long, a.parts.tables, a.parts.cells, a.parts.terms)

module _ (l b : List ℕ) (t : ℕ) (o : InYear l b t) where
  pub closable : t < horizon l → (capacity : ℕ) → capacity ≡ line_words * cells l → Closable l b capacity
  closable ahead capacity enough = closable_before l b capacity (omega arith) (rw o.year_is ahead) o.admits

-- the closing answered a, and left book' and lines'
module _ (l b x : List ℕ) (k : Closable l b (length x)) (a : Answer) (book' lines' : List ℕ) (e : effect a book' lines' ≡ close_effect l b x) where
  closed_done : (close_effect l b x).answer.done ≡ true
  unfolding close_effect
  closed_done = closes l b (length x) k

  pub closed_passed : a.done ≡ true
  closed_passed = rw (effect_answer e) closed_done

  -- the issue after it answered w, and left book''
  module _ (w : Answer) (book'' : List ℕ) (f : effect w book'' [] ≡ issue_effect l book') where
    pub issued_passed : w.done ≡ true
    unfolding issue_effect issue_answer
    issued_passed =
        let admits : (admitted l book').done ≡ true = rw (effect_book e) (closed_holds l b x closed_done).admits in
        rw (effect_answer f) (sym (ap (λ (t : Answer). t.done) (after_is _ (admitted l book') admits)))

    pub ran : (tonnes : ℕ) → a ≡ accepted 0 → w ≡ accepted tonnes → Ran l b x book'' lines' tonnes
    ran tonnes p q = let book_is = effect_book e in record { closed = rw (p, book_is) at e; issued = rw (q, book_is) at f }

-- the book after it is in the next year
pub ran_opened : (l b x book' lines' : List ℕ) (tonnes t : ℕ) → InYear l b t → Ran l b x book' lines' tonnes → InYear l book' (t + 1)
ran_opened l b x book' lines' tonnes t o r =
    let closed = closed_holds l b x (sym (ap (λ (m : Effect). m.answer.done) r.closed)) in
    let issued = issued_holds l (close_effect l b x).book (sym (ap (λ (m : Effect). m.answer.done) r.issued)) in
    let same = effect_book r.issued in
    record { admits = rw same issued.admits; year_is = rw same (issued.year_is ∙ closed.year_is ∙ ap (λ (y : ℕ). y + 1) o.year_is) }

-- after t years and one more: book and lines are those of t + 1
pub ran_next : (l : List ℕ) (s : Slices) (t : ℕ) (b x book' lines' : List ℕ) (tonnes : ℕ) → b ≡ (ran_for l s t).book → x ≡ (ran_for l s t).lines → Ran l b x book' lines' tonnes →
    (book' ≡ (ran_for l s (t + 1)).book) × (lines' ≡ (ran_for l s (t + 1)).lines)
unfolding ran_for
ran_next l s t b x book' lines' tonnes b-is x_is r = (
  rw (add-one, sym b-is, sym x_is) (effect_book r.issued),
  rw (add-one, sym b-is, sym x_is) (effect_output r.closed),
)

-- ---- a statement of a cell of an opened book, which answered s

module _ (l b : List ℕ) (i : ℕ) (admits : (admitted l b).done ≡ true) (lt : i < cells l) (s : AnswerWith CellFigures) (e : s ≡ statement_answer l b i) where
  pub stated_passed : s.answer.done ≡ true
  unfolding statement_answer
  stated_passed = rw e (cell_admitted l b i admits lt)

  pub stated_remaining : s.figures.remaining ≡ remaining (cell l i) (entry b i)
  unfolding statement_answer figures_of
  stated_remaining = rw (e, cell_admitted l b i admits lt)
