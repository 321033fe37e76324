-- Document 01, "Forecast, readings, discount, program": what peatrun works out. It closes every year and issues after each. What it prints
-- is tested, and not stated here.
use Rattle.std.specs.Prelude.{ℕ, zero, suc, ◌*◌, ◌≤◌, ◌≡◌, true, false, List, [], length}
use Rattle.words.specs.Answers.{Answer, accepted}
use Rattle.words.specs.Effect.{effect}
use Rattle.words.specs.Refusals.{too_few_words, term_not_above}
use Rattle.words.specs.Sums.{sum_below}
use Rattle.listing.specs.Layout.{most_words, cells, cell}
use Rattle.listing.specs.Check.{checked}
use Rattle.year.specs.Year.{remaining}
use Rattle.book.specs.Current.{entry, admitted}
use Rattle.book.specs.Layout.{year}
use Rattle.ledger.specs.Calls.{close_effect, issue_effect}

-- the bytes of the longest listing, 17,212
abbrev pub most_bytes : ℕ
most_bytes = 4 * most_words

-- so what is `too long` would be refused as a listing too; proofs/Longest.antt proves it
abbrev pub Longest : Type 0
Longest = (l : List ℕ) → (checked l).done ≡ true → 4 * length l ≤ most_bytes

-- a refusal by one of the listing's own numbers, 1 to 5
pub record RefusedByListing (a : Answer) : Type 0 where
  pub refused : a.done ≡ false
  pub least : too_few_words ≤ a.number
  pub most : a.number ≤ term_not_above

-- book b of listing l passes the tests 1 to 6 and 8, and is in year t
pub record InYear (l b : List ℕ) (t : ℕ) : Type 0 where
  pub admits : (admitted l b).done ≡ true
  pub year_is : year b ≡ t

-- a year of book b and lines buffer x: the closing and the issue after it are accepted and leave book' and lines'; the issue answers the tonnes
pub record Ran (l b x book' lines' : List ℕ) (tonnes : ℕ) : Type 0 where
  pub closed : effect (accepted 0) (close_effect l b x).book lines' ≡ close_effect l b x
  pub issued : effect (accepted tonnes) book' [] ≡ issue_effect l (close_effect l b x).book

-- book and lines buffer
pub record Slices : Type 0 where
  pub book : List ℕ
  pub lines : List ℕ

-- what t years leave: each is closed, and issued after it
unfoldable pub ran_for : List ℕ → Slices → ℕ → Slices
ran_for l s zero = s
ran_for l s (suc t) =
    let before = ran_for l s t in
    let closed = close_effect l before.book before.lines in
    record { book = (issue_effect l closed.book).book; lines = closed.output }

-- mm remaining, over all cells
unfoldable pub remaining_total : List ℕ → List ℕ → ℕ
remaining_total l b = sum_below (λ i. remaining (cell l i) (entry b i)) (cells l)
