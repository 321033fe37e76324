-- What a book holds after each call, and what a closing writes. Assumes nothing.
use mathlib.Core.Path.{◌≡◌, refl, sym, ap, ◌∙◌}
use mathlib.Core.Bool.{Bool, true, false, cond}
use mathlib.Core.List.{List}
use Prim.Native.Nat.{ℕ, ◌+◌, ◌≤◌, ◌<◌}
use native.Mathlib.Omega.{arith}
use lib.Dec.{eqb}
use lib.ListN.{length}
use borrow.Author.Tests.{eqb-true}
use Rattle.words.specs.Answers.{Answer}
use Rattle.words.proofs.Answers.{after_accepted, after_is}
use Rattle.words.proofs.Effect.{written_new, written_old}
use Rattle.words.proofs.Signed.{by_test}
use Rattle.listing.specs.Layout.{cells, horizon}
use Rattle.year.specs.Year.{planned, marked}
use Rattle.year.specs.declared.Entry.{Entry}
use Rattle.book.specs.Current.{current, issued, with_issued, with_plan, entry, fitted, admitted, Holds}
use Rattle.book.specs.Layout.{issued_in_one_word, year, oxidised_line, burned_line, kg_line}
use Rattle.book.proofs.AcceptedBook.{shaped, one_word_shaped, accepted_book}
use Rattle.book.proofs.Entries.{replaced}
use Rattle.book.proofs.Holds.{holds, holds_as, holds_issued, holds_plan}
use Rattle.balance.specs.Balance.{tonnes_due}
use Rattle.balance.proofs.Bounds.{issued_fits}
use Rattle.opening.specs.Opening.{open_entry, open_book}
use Rattle.opening.proofs.Opened.{open_holds}
use Rattle.closing.specs.Closing.{loss, closed_entry, book_after, lines_after, close_answer}
use Rattle.closing.proofs.Closable.{closable}
use Rattle.closing.proofs.Closed.{year_holds, year_lines}
use Rattle.converting.specs.Converting.{convert_answer, converted_book}
use Rattle.converting.proofs.Converted.{converted_holds}
use Rattle.ledger.specs.Calls.{open_effect, close_effect, admitted_unwithdrawn, replan_answer, replan_effect, withdraw_effect, issue_answer, issue_effect, Call, Close}
use Rattle.ledger.specs.Calls.{Replan, Withdraw, Issue, call_effect, convert_effect, EveryConversion, Start, Open, Convert, start_effect}
use Rattle.ledger.proofs.AdmittedCell.{unwithdrawn_accepted, replan_accepted}

-- ---- open and close

pub opened_holds : (l b : List ℕ) → (open_effect l b).answer.done ≡ true → Holds l (open_effect l b).book 0 0 (open_entry l)
unfolding open_effect
opened_holds l b h = rw (written_new (fitted l b) b (open_book l b) h) (open_holds l b h)

pub closed_holds : (l b x : List ℕ) → (close_effect l b x).answer.done ≡ true → Holds l (close_effect l b x).book (year b + 1) (issued b) (closed_entry l b)
unfolding close_effect
closed_holds l b x h =
    rw (written_new (close_answer l b (length x)) b (book_after l b) h)
    (year_holds l b (length x) (closable l b (length x) h))

pub closed_line : (l b x : List ℕ) → (close_effect l b x).answer.done ≡ true → (i : ℕ) → i < cells l →
    (oxidised_line (close_effect l b x).output i ≡ (loss l b i).oxidised) × (burned_line (close_effect l b x).output i ≡ (loss l b i).burned)
    × (kg_line (close_effect l b x).output i ≡ (loss l b i).kg)
unfolding close_effect
closed_line l b x h i lt =
    let same = written_new (close_answer l b (length x)) x (lines_after l b x) h in
    let line = year_lines l b (length x) (closable l b (length x) h) x i lt in
    (ap (λ (y : List ℕ). oxidised_line y i) same ∙ line.0, ap (λ (y : List ℕ). burned_line y i) same ∙ line.1, ap (λ (y : List ℕ). kg_line y i) same ∙ line.2)

-- ---- convert

pub every_conversion : EveryConversion
unfolding convert_effect
every_conversion l old new h =
    rw (written_new (convert_answer issued_in_one_word current l old new) new (converted_book issued_in_one_word current l old new) h)
    (converted_holds issued_in_one_word current one_word_shaped shaped (omega arith) l old new h)

-- ---- any start leaves an accepted book

pub start_admits : (l : List ℕ) (from : Start) → (start_effect l from).answer.done ≡ true → (admitted l (start_effect l from).book).done ≡ true
start_admits l (Open b) done = (opened_holds l b done).admits
start_admits l (Convert old new) done = (every_conversion l old new done).admits

-- ---- replan and withdraw: the entry of cell i is changed, and no other

-- two cases that are the same where the test holds
same_case : (t : Bool) (x x' y : Entry) → (t ≡ true → x ≡ x') → cond t x y ≡ cond t x' y
same_case true x x' y h = h refl
same_case false x x' y h = refl

-- a change of mark and plan year alone
changed_holds : (l b : List ℕ) (i : ℕ) (change : Entry → Entry) → ((e : Entry) → replaced e (change e).withdrawn (change e).plan ≡ change e) →
    (admitted l b).done ≡ true → (change (entry b i)).plan ≤ horizon l →
    Holds l (with_plan b i (change (entry b i))) (year b) (issued b) (λ j. cond (eqb i j) (change (entry b j)) (entry b j))
changed_holds l b i change keeps a in_time =
    holds_as shaped (holds_plan shaped (holds current l b a) i (change (entry b i)) in_time) _
    (λ j lt.
    same_case (eqb i j) (replaced (entry b j) (change (entry b i)).withdrawn (change (entry b i)).plan) (change (entry b j)) (entry b j)
    (λ e. rw (eqb-true i j e) (keeps (entry b j))))

pub replanned_holds : (l b : List ℕ) (i y : ℕ) → (replan_effect l b i y).answer.done ≡ true →
    Holds l (replan_effect l b i y).book (year b) (issued b) (λ j. cond (eqb i j) (planned (entry b j) y) (entry b j))
unfolding replan_effect
replanned_holds l b i y h =
    let p = replan_accepted l b i y h in
    rw (written_new (replan_answer l b i y) b (with_plan b i (planned (entry b i) y)) h) (changed_holds l b i (λ (e : Entry). planned e y) (λ e. refl) p.0.admits p.1)

pub withdrawn_holds : (l b : List ℕ) (i : ℕ) → (withdraw_effect l b i).answer.done ≡ true →
    Holds l (withdraw_effect l b i).book (year b) (issued b) (λ j. cond (eqb i j) (marked (entry b j)) (entry b j))
unfolding withdraw_effect
withdrawn_holds l b i h =
    let p = unwithdrawn_accepted l b i h in
    rw (written_new (admitted_unwithdrawn l b i) b (with_plan b i (marked (entry b i))) h) (changed_holds l b i marked (λ e. refl) p.admits p.entry_valid.plan)

-- ---- issue

pub issued_holds : (l b : List ℕ) → (issue_effect l b).answer.done ≡ true → Holds l (issue_effect l b).book (year b) (issued b + tonnes_due l b) (entry b)
unfolding issue_effect issue_answer
issued_holds l b h =
    let a = (after_accepted _ _ h).0 in
    let book_is : (issue_effect l b).book ≡ with_issued b (issued b + tonnes_due l b) = written_new (issue_answer l b) b (with_issued b (issued b + tonnes_due l b)) h in
    rw book_is
    (holds_issued shaped (holds current l b a) (issued b + tonnes_due l b) (issued_fits l b (accepted_book current l b shaped a)))

pub issued_value : (l b : List ℕ) → (issue_effect l b).answer.done ≡ true → (issue_effect l b).answer.value ≡ tonnes_due l b
unfolding issue_effect issue_answer
issued_value l b h = sym (ap (λ (a : Answer). a.value) (after_is _ (admitted l b) (after_accepted _ _ h).0))

-- ---- any call

-- a refused one leaves the book as it was
pub call_refused : (l b : List ℕ) (c : Call) → (call_effect l b c).answer.done ≡ false → (call_effect l b c).book ≡ b
unfolding close_effect replan_effect withdraw_effect issue_effect
call_refused l b (Close x) h = written_old _ b _ h
call_refused l b (Replan i y) h = written_old _ b _ h
call_refused l b (Withdraw i) h = written_old _ b _ h
call_refused l b Issue h = written_old _ b _ h

-- an accepted one was admitted
pub call_admitted : (l b : List ℕ) (c : Call) → (call_effect l b c).answer.done ≡ true → (admitted l b).done ≡ true
unfolding close_effect replan_effect withdraw_effect issue_effect issue_answer
call_admitted l b (Close x) h = (closable l b (length x) h).admits
call_admitted l b (Replan i y) h = (replan_accepted l b i y h).0.admits
call_admitted l b (Withdraw i) h = (unwithdrawn_accepted l b i h).admits
call_admitted l b Issue h = (after_accepted _ _ h).0

-- each leaves an accepted book
pub call_admits : (l b : List ℕ) (c : Call) → (admitted l b).done ≡ true → (admitted l (call_effect l b c).book).done ≡ true
call_admits l b c a =
    by_test (λ (t : Bool). (admitted l (call_effect l b c).book).done ≡ true) (call_effect l b c).answer.done true false
    (accepted_admits l b c)
    (λ e. rw (call_refused l b c e) a)
  where
    accepted_admits : (l b : List ℕ) (c : Call) → (call_effect l b c).answer.done ≡ true → (admitted l (call_effect l b c).book).done ≡ true
    accepted_admits l b (Close x) h = (closed_holds l b x h).admits
    accepted_admits l b (Replan i y) h = (replanned_holds l b i y h).admits
    accepted_admits l b (Withdraw i) h = (withdrawn_holds l b i h).admits
    accepted_admits l b Issue h = (issued_holds l b h).admits
