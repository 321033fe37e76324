-- Document 01, "Book and calls", with the conversion of document 02: what each call on a listing l and a book b answers, and what it leaves in the
-- slices lent to it.
use Rattle.std.specs.Prelude.{◌≡◌, ℕ, ◌+◌, ◌*◌, ◌≤◌, Bool, true, false, not, ◌&&◌, ◌||◌, List, [], leb, ltb, eqb, length, get_or}
use Rattle.words.specs.Answers.{Answer, AnswerWith, accepted, need, after, with_figures}
use Rattle.words.specs.Effect.{Effect, commit, commit_both}
use Rattle.words.specs.Refusals.{no_such_cell, cell_withdrawn, cell_converted, year_not_ahead}
use Rattle.listing.specs.Layout.{cells, horizon, cell}
use Rattle.year.specs.Year.{unconverted, remaining, planned, marked}
use Rattle.book.specs.Current.{book_size, issued, entry, kg_to_date, with_issued, with_plan, fitted, admitted, Holds}
use Rattle.book.specs.Layout as layout
use Rattle.book.specs.Layout.{issued_in_one_word, issued_in_two_words, line_words, year}
use Rattle.balance.specs.Balance.{tonnes_due}
use Rattle.opening.specs.Opening.{open_book}
use Rattle.closing.specs.Closing.{book_after, lines_after, close_answer}
use Rattle.converting.specs.Converting.{convert_answer, converted_book}
use Rattle.ledger.specs.declared.CellFigures.{CellFigures}

-- ---- open: year 0, 0 issued, plan years of the listing, nothing withdrawn, zeros

-- refused by 1 to 6
unfoldable pub open_effect : List ℕ → List ℕ → Effect
open_effect l b = commit (fitted l b) b (open_book l b)

-- ---- close, with a lines buffer x

-- refused by 1 to 9 and 14, and then neither slice is written
unfoldable pub close_effect : List ℕ → List ℕ → List ℕ → Effect
close_effect l b x = commit_both (close_answer l b (length x)) b (book_after l b) x (lines_after l b x)

-- ---- calls on cell i: number 10, and for replan and withdraw 11

-- 10, no such cell
unfoldable pub cell_checked : List ℕ → ℕ → Answer
cell_checked l i = need (ltb i (cells l)) no_such_cell 0 (accepted 0)

-- after 1 to 6 and 8
unfoldable pub admitted_cell : List ℕ → List ℕ → ℕ → Answer
admitted_cell l b i = after (admitted l b) (cell_checked l i)

-- 11, cell withdrawn
unfoldable pub mark_checked : List ℕ → ℕ → Answer
mark_checked b i = need (not (entry b i).withdrawn) cell_withdrawn 0 (accepted 0)

-- after 1 to 6, 8 and 10
unfoldable pub admitted_unwithdrawn : List ℕ → List ℕ → ℕ → Answer
admitted_unwithdrawn l b i = after (admitted_cell l b i) (mark_checked b i)

-- ---- replan: sets the plan year of a cell not yet converted

-- the new year is 0 or current + 1 to the horizon
unfoldable pub ahead : List ℕ → List ℕ → ℕ → Bool
ahead l b y = eqb y 0 || (ltb (year b) y && leb y (horizon l))

-- 12, plan year from 1 to current; 13, new year not ahead
unfoldable pub plan_checked : List ℕ → List ℕ → ℕ → ℕ → Answer
plan_checked l b i y =
    need (unconverted (entry b i).plan (year b)) cell_converted 0
    (need (ahead l b y) year_not_ahead 0
    (accepted 0))

-- after 1 to 6, 8, 10 and 11
unfoldable pub replan_answer : List ℕ → List ℕ → ℕ → ℕ → Answer
replan_answer l b i y = after (admitted_unwithdrawn l b i) (plan_checked l b i y)

-- the cell's word of kind 10 alone is written; the mark stays, and a cell that is not withdrawn has none
unfoldable pub replan_effect : List ℕ → List ℕ → ℕ → ℕ → Effect
replan_effect l b i y = commit (replan_answer l b i y) b (with_plan b i (planned (entry b i) y))

-- ---- withdraw: marks a cell for good; what it has lost stays counted

-- the mark is set, and the plan year stays
unfoldable pub withdraw_effect : List ℕ → List ℕ → ℕ → Effect
withdraw_effect l b i = commit (admitted_unwithdrawn l b i) b (with_plan b i (marked (entry b i)))

-- ---- issue: answers what is due, and adds it to issued

-- refused by 1 to 6 and 8, and otherwise balance − issued, or 0
unfoldable pub issue_answer : List ℕ → List ℕ → Answer
issue_answer l b = after (admitted l b) (accepted (tonnes_due l b))

-- the answer is added to issued
unfoldable pub issue_effect : List ℕ → List ℕ → Effect
issue_effect l b = commit (issue_answer l b) b (with_issued b (issued b + tonnes_due l b))

-- ---- statement: a cell's entered, remaining, O, B, kg to date, plan year and mark; writes nothing

-- where it is refused, every figure is 0
abbrev pub no_figures : CellFigures
no_figures = record { entered = 0; remaining = 0; oxidised = 0; burned = 0; kg = 0; plan_year = 0; withdrawn = false }

-- the figures of cell i: remaining depth and kg to date follow from O and B
unfoldable pub figures_of : List ℕ → List ℕ → ℕ → CellFigures
figures_of l b i =
    record {
      entered = (cell l i).entered;
      remaining = remaining (cell l i) (entry b i);
      oxidised = (entry b i).oxidised;
      burned = (entry b i).burned;
      kg = kg_to_date l b i;
      plan_year = (entry b i).plan;
      withdrawn = (entry b i).withdrawn;
    }

-- refused by 1 to 6, 8 and 10
unfoldable pub statement_answer : List ℕ → List ℕ → ℕ → AnswerWith CellFigures
statement_answer l b i = with_figures no_figures (admitted_cell l b i) (figures_of l b i)

-- ---- convert: writes a book with one word of tonnes issued, `old`, with two into a second slice, `new`

-- refused by 1 to 5, by 6 for the length of `old`, by 6 for that of `new`, then by 8 for a word of `old`; `new` is then not written
unfoldable pub convert_effect : List ℕ → List ℕ → List ℕ → Effect
convert_effect l old new =
    commit (convert_answer issued_in_one_word issued_in_two_words l old new) new (converted_book issued_in_one_word issued_in_two_words l old new)

-- the new book passes 6 and 8 of every call on that listing, and its year, its tonnes issued and each cell's mark, plan year, O and B are those of
-- the old one; proofs/After.antt proves it
abbrev pub EveryConversion : Type 0
EveryConversion =
    (l old new : List ℕ) → (convert_effect l old new).answer.done ≡ true →
    Holds l (convert_effect l old new).book (year old) (layout.issued issued_in_one_word old) (layout.entry issued_in_one_word old)

-- ---- the call that a list of calls starts from

-- an open of a book, or a conversion of an old book into a new one
pub data Start : Type 0 where
  Open : List ℕ → Start
  Convert : List ℕ → List ℕ → Start

-- what it answers and leaves
abbrev pub start_effect : List ℕ → Start → Effect
start_effect l (Open b) = open_effect l b
start_effect l (Convert old new) = convert_effect l old new

-- the slice that it may write
abbrev pub start_book : Start → List ℕ
start_book (Open b) = b
start_book (Convert old new) = new

-- ---- any call that may write

-- with whatever arguments the caller gives: any lines buffer, any cell, any year
pub data Call : Type 0 where
  Close : List ℕ → Call
  Replan : ℕ → ℕ → Call
  Withdraw : ℕ → Call
  Issue : Call

-- what it answers and leaves
abbrev pub call_effect : List ℕ → List ℕ → Call → Effect
call_effect l b (Close x) = close_effect l b x
call_effect l b (Replan i y) = replan_effect l b i y
call_effect l b (Withdraw i) = withdraw_effect l b i
call_effect l b Issue = issue_effect l b

-- its lines buffer
abbrev pub lines_buffer : Call → List ℕ
lines_buffer (Close x) = x
lines_buffer (Replan i y) = []
lines_buffer (Withdraw i) = []
lines_buffer Issue = []

-- y is as long as x, and has x's words from place n on
pub record UntouchedFrom (n : ℕ) (x y : List ℕ) : Type 0 where
  pub length_is : length y ≡ length x
  pub words_are : (k : ℕ) → n ≤ k → get_or y k 0 ≡ get_or x k 0

-- words beyond those needed are untouched everywhere; proofs/Untouched.antt proves it, and the forecast has a statement of its own
pub record EveryUntouched : Type 0 where
  pub start : (l : List ℕ) (from : Start) → UntouchedFrom (book_size (cells l)) (start_book from) (start_effect l from).book
  pub book : (l b : List ℕ) (c : Call) → UntouchedFrom (book_size (cells l)) b (call_effect l b c).book
  pub lines : (l b : List ℕ) (c : Call) → UntouchedFrom (line_words * cells l) (lines_buffer c) (call_effect l b c).output
