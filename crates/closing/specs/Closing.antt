-- Document 01, "Book and calls": what a closing of listing l and book b answers and writes. Every cell is worked out from the book as it
-- was at the start.
use Rattle.std.specs.Prelude.{◌≡◌, ℕ, ◌+◌, ◌-◌, ◌*◌, ◌^◌, ◌≤◌, ◌<◌, Bool, true, List, leb, ltb}
use Rattle.words.specs.Answers.{Answer, accepted, need, need_all, after}
use Rattle.words.specs.Blocks.{filled}
use Rattle.words.specs.Refusals.{lines_short, horizon_reached, line_too_large}
use Rattle.listing.specs.Layout.{head, cells, horizon, row, cell}
use Rattle.year.specs.Year.{year_loss, most_line, after_loss}
use Rattle.year.specs.declared.Entry.{Entry}
use Rattle.year.specs.declared.Loss.{Loss}
use Rattle.book.specs.Current.{current, entry, held_at, fitted, book_checked, admitted}
use Rattle.book.specs.Layout.{line_words, year, with_year, lines_of}

-- what cell i loses in year t, by its entry e in the book, its own words in the listing, and the row of its own stratum and age
abbrev pub cell_loss : List ℕ → ℕ → ℕ → Entry → Loss
cell_loss l t i e = year_loss (head l) (row l) (cell l i) e t

-- the same in the year current + 1
abbrev pub loss : List ℕ → List ℕ → ℕ → Loss
loss l b i = cell_loss l (year b + 1) i (entry b i)

-- the entry of cell i after the year: mark and plan year as they were, O and B with the year's mm added
abbrev pub closed_entry : List ℕ → List ℕ → ℕ → Entry
closed_entry l b i = after_loss (entry b i) (loss l b i)

-- its words and its lines
abbrev pub closed_words : List ℕ → List ℕ → ℕ → List ℕ
closed_words l b = held_at (closed_entry l b)

unfoldable pub closed_lines : List ℕ → List ℕ → ℕ → List ℕ
closed_lines l b i = lines_of (loss l b i)

-- the book and the lines buffer x then: the words beyond those needed are untouched
unfoldable pub book_after : List ℕ → List ℕ → List ℕ
book_after l b = with_year (filled current.entry b current.head (closed_words l b) (cells l)) (year b + 1)

unfoldable pub lines_after : List ℕ → List ℕ → List ℕ → List ℕ
lines_after l b x = filled line_words x 0 (closed_lines l b) (cells l)

-- number 7: lines below 3 × cells words, at their length
unfoldable pub lines_checked : List ℕ → ℕ → Answer
lines_checked l capacity = need (leb (line_words * cells l) capacity) lines_short capacity (accepted 0)

-- the greatest number that a word's bits 27–0 hold, 268,435,455
abbrev pub most_payload : ℕ
most_payload = 2 ^ 28 - 1

-- cell i's kg line is not above that
unfoldable pub line_fits : List ℕ → List ℕ → ℕ → Bool
line_fits l b i = leb (loss l b i).kg most_payload

-- number 9, close at the horizon, at place 0; and number 14, a kg line that is too large, at its cell
unfoldable pub year_checked : List ℕ → List ℕ → Answer
year_checked l b =
    need (ltb (year b) (horizon l)) horizon_reached 0
    (need_all line_too_large (line_fits l b) 0 (cells l)
    (accepted 0))

-- what a closing answers for a lines buffer of `capacity` words: 1 to 6, then 7, then 8, then 9 and 14
unfoldable pub close_answer : List ℕ → List ℕ → ℕ → Answer
close_answer l b capacity = after (fitted l b) (after (lines_checked l capacity) (after (book_checked l b) (year_checked l b)))

-- no kg line of an accepted listing and book is above 50,740,800, whatever the year; proofs/Closable.antt proves it
abbrev pub EveryLine : Type 0
EveryLine = (l b : List ℕ) → (admitted l b).done ≡ true → (i : ℕ) → i < cells l → (loss l b i).kg ≤ most_line
