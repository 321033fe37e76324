-- Words beyond those needed are untouched by every start and every call. Assumes nothing.
use mathlib.Core.Path.{◌≡◌, refl, ◌∙◌}
use mathlib.Core.Bool.{Bool, true, false}
use mathlib.Core.List.{List}
use Prim.Native.Nat.{ℕ, ◌+◌, ◌*◌, ◌≤◌}
use native.Mathlib.Nat.{zero-add}
use native.Mathlib.Omega.{arith}
use lib.ListN.{length, length-set}
use lib.Seq.{get_or-set_other}
use Rattle.words.specs.Answers.{Answer}
use Rattle.words.specs.Blocks.{filled}
use Rattle.words.specs.Effect.{written}
use Rattle.words.proofs.Blocks.{length_filled, filled_behind}
use Rattle.words.proofs.Effect.{written_new, written_old}
use Rattle.words.proofs.Signed.{by_test}
use Rattle.listing.specs.Layout.{cells}
use Rattle.year.specs.Year.{planned, marked}
use Rattle.year.specs.declared.Entry.{Entry}
use Rattle.book.specs.Current.{current, book_size, entry, with_plan, held_at, new_book, fitted, Fitted}
use Rattle.book.specs.Held as held
use Rattle.book.specs.Layout.{issued_in_one_word, line_words, issued_at, issued_words, issued_kind, year_at, year_kind, year, stored}
use Rattle.book.proofs.Numbers.{length_stored, stored_outside}
use Rattle.book.proofs.Places.{entry_before}
use Rattle.book.proofs.AcceptedBook.{shaped, one_word_shaped, fitted_accepted}
use Rattle.book.proofs.Held.{held_at_sized}
use Rattle.opening.specs.Opening.{open_entry, open_book}
use Rattle.closing.specs.Closing.{closed_words, closed_lines, book_after, lines_after, close_answer}
use Rattle.closing.specs.Closable.{Closable}
use Rattle.closing.proofs.Closable.{closable}
use Rattle.closing.proofs.Loop.{closed_sized, lines_sized}
use Rattle.converting.specs.Converting.{convert_answer, converted_book}
use Rattle.converting.proofs.Convertible.{convertible}
use Rattle.ledger.specs.Calls.{admitted_unwithdrawn, replan_answer, replan_effect, withdraw_effect, issue_answer, issue_effect, open_effect, close_effect, Close, Replan}
use Rattle.ledger.specs.Calls.{Start, Open, Convert, start_effect, start_book, convert_effect, Withdraw, Issue, UntouchedFrom, EveryUntouched, Call, call_effect, lines_buffer}
use Rattle.ledger.specs.AdmittedCell.{AdmittedCell}
use Rattle.ledger.proofs.AdmittedCell.{unwithdrawn_accepted, replan_accepted}

-- nothing written
same : (n : ℕ) (x : List ℕ) → UntouchedFrom n x x
same n x = record { length_is = refl; words_are = λ k le. refl }

-- by the answer: what was written, or nothing
pub committed : (n : ℕ) (a : Answer) (old new : List ℕ) → (a.done ≡ true → UntouchedFrom n old new) → UntouchedFrom n old (written a old new)
committed n a old new kept =
    by_test (λ (t : Bool). UntouchedFrom n old (written a old new)) a.done true false (λ e. rw (written_new a old new e) (kept e)) (λ e. rw (written_old a old new e) (same n old))

-- a number stored before place n, and blocks
stored_beyond : (n : ℕ) (x : List ℕ) (kind from m v : ℕ) → from + m ≤ n → UntouchedFrom n x (stored kind x from m v)
stored_beyond n x kind from m v le = record { length_is = length_stored kind from m v x; words_are = λ k far. stored_outside kind from m v k x (λ _. omega arith) }

pub filled_beyond : (size : ℕ) (x : List ℕ) (at : ℕ) (f : ℕ → List ℕ) (count : ℕ) → ((i : ℕ) → length (f i) ≡ size) → at + size * count ≤ length x →
    UntouchedFrom (at + size * count) x (filled size x at f count)
filled_beyond size x at f count sized capacity =
    record { length_is = length_filled size x at f sized (omega arith) count capacity; words_are = λ k far. filled_behind size x at f sized (omega arith) count k far }

both : {n : ℕ} {x y z : List ℕ} → UntouchedFrom n x y → UntouchedFrom n y z → UntouchedFrom n x z
both p q = record { length_is = q.length_is ∙ p.length_is; words_are = λ k far. q.words_are k far ∙ p.words_are k far }

module _ (l b : List ℕ) where
  planned_beyond : (i : ℕ) (e : Entry) → AdmittedCell l b i → UntouchedFrom (book_size (cells l)) b (with_plan b i e)
  planned_beyond i e r =
      let here = entry_before current i (cells l) r.there in
      record { length_is = length-set b _ _; words_are = λ k far. get_or-set_other b _ k _ 0 (λ q. omega arith) }

  module _ (size : ℕ) (k : Closable l b size) where
    closed_beyond : UntouchedFrom (book_size (cells l)) b (book_after l b)
    unfolding book_after
    closed_beyond =
        both (filled_beyond current.entry b current.head (closed_words l b) (cells l) (closed_sized l b) k.accepted_book.fitted.capacity)
        (stored_beyond (book_size (cells l)) _ year_kind year_at 1 (year b + 1) (omega arith))

    lines_beyond : (x : List ℕ) → length x ≡ size → UntouchedFrom (line_words * cells l) x (lines_after l b x)
    unfolding lines_after
    lines_beyond x e = rw zero-add at (filled_beyond line_words x 0 (closed_lines l b) (cells l) (lines_sized l b) (omega (arith, k.capacity)))

-- a book written anew
pub new_beyond : (l b : List ℕ) (t n : ℕ) (e : ℕ → Entry) → Fitted l b → UntouchedFrom (book_size (cells l)) b (new_book l b t n e)
unfolding held.new_book
new_beyond l b t n e fits =
    both
    (both (filled_beyond current.entry b current.head (held_at e) (cells l) (held_at_sized current shaped e) fits.capacity)
    (stored_beyond (book_size (cells l)) _ year_kind year_at 1 t (omega arith)))
    (stored_beyond (book_size (cells l)) _ issued_kind issued_at (issued_words current) n (omega arith))

start_beyond : (l : List ℕ) (from : Start) → UntouchedFrom (book_size (cells l)) (start_book from) (start_effect l from).book
unfolding open_effect convert_effect
start_beyond l (Open b) = committed _ (fitted l b) b (open_book l b) (λ e. new_beyond l b 0 0 (open_entry l) (fitted_accepted current l b shaped e))
start_beyond l (Convert old new) =
    committed _ (convert_answer issued_in_one_word current l old new) new (converted_book issued_in_one_word current l old new)
    (λ e. new_beyond l new _ _ _ (convertible issued_in_one_word current one_word_shaped shaped (omega arith) l old new e).fitted)

book_beyond : (l b : List ℕ) (c : Call) → UntouchedFrom (book_size (cells l)) b (call_effect l b c).book
unfolding close_effect replan_effect withdraw_effect issue_effect
book_beyond l b (Close x) = committed _ (close_answer l b (length x)) b (book_after l b) (λ e. closed_beyond l b (length x) (closable l b (length x) e))
book_beyond l b (Replan i y) = committed _ (replan_answer l b i y) b _ (λ e. planned_beyond l b i (planned (entry b i) y) (replan_accepted l b i y e).0)
book_beyond l b (Withdraw i) = committed _ (admitted_unwithdrawn l b i) b _ (λ e. planned_beyond l b i (marked (entry b i)) (unwithdrawn_accepted l b i e))
book_beyond l b Issue = committed _ (issue_answer l b) b _ (λ e. stored_beyond (book_size (cells l)) b issued_kind issued_at (issued_words current) _ (omega arith))

output_beyond : (l b : List ℕ) (c : Call) → UntouchedFrom (line_words * cells l) (lines_buffer c) (call_effect l b c).output
unfolding close_effect replan_effect withdraw_effect issue_effect
output_beyond l b (Close x) = committed _ (close_answer l b (length x)) x (lines_after l b x) (λ e. lines_beyond l b (length x) (closable l b (length x) e) x refl)
output_beyond l b (Replan i y) = same _ _
output_beyond l b (Withdraw i) = same _ _
output_beyond l b Issue = same _ _

pub every_untouched : EveryUntouched
every_untouched = record { start = start_beyond; book = book_beyond; lines = output_beyond }
