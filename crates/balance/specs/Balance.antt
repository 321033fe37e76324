-- Document 01, "Book and calls": peat tonnes, N and S to date, withheld, and the balance, by the current year t and the kg to date of each
-- cell, kg.
use Rattle.std.specs.Prelude.{ℕ, ◌+◌, ◌*◌, ◌/◌, ◌^◌, List, ℤ, pos, ◌+ℤ◌, ◌-ℤ◌}
use Rattle.words.specs.Bits.{at_least_0}
use Rattle.words.specs.Sums.{sum_below}
use Rattle.fields.specs.Words.{most_cells}
use Rattle.listing.specs.Layout.{head, cells}
use Rattle.terms.specs.Terms.{terms_to_date, most_term_sum}
use Rattle.year.specs.Year.{most_emission}
use Rattle.book.specs.Current.{issued, kg_to_date}
use Rattle.book.specs.Layout.{year}

-- peat tonnes to date: the kg to date of all cells added, divided by 1,000, rounded down; this is term 2
unfoldable pub peat_tonnes : List ℕ → (ℕ → ℕ) → ℕ
peat_tonnes l kg = sum_below kg (cells l) / 1000

-- the most peat tonnes that a listing's cells can have, 816,000,000
abbrev pub most_peat : ℕ
most_peat = most_emission * most_cells / 1000

-- terms 1 to `last` to date, those of years 1 to t: 8 for N, 5 for S
abbrev pub to_date : List ℕ → ℕ → ℕ → ℕ → ℤ
to_date l t peat last = pos peat +ℤ terms_to_date l t last

-- withheld: p × S / 100 rounded up, 0 if S is negative
unfoldable pub withheld : ℕ → ℤ → ℕ
withheld p s = (p * at_least_0 s + 99) / 100

-- the balance (EQ54) = N − withheld, and may be negative
unfoldable pub balance_of : List ℕ → ℕ → ℕ → ℤ
balance_of l t peat = to_date l t peat 8 -ℤ pos (withheld (head l).buffer (to_date l t peat 5))

abbrev pub balance : List ℕ → ℕ → (ℕ → ℕ) → ℤ
balance l t kg = balance_of l t (peat_tonnes l kg)

-- the greatest balance, 861,874,500
abbrev pub most_balance : ℕ
most_balance = most_peat + most_term_sum

-- no number of tonnes on the way to a balance is larger than this, above or below zero: twice the peat and the terms below zero are less
abbrev pub most_tonnes : ℕ
most_tonnes = 2 ^ 31

-- an issue answers balance − issued, or 0 if that is negative
unfoldable pub due : ℤ → ℕ → ℕ
due z issued = at_least_0 (z -ℤ pos issued)

-- ---- by a book

-- the balance, and what an issue answers
abbrev pub balance_in : List ℕ → List ℕ → ℤ
balance_in l b = balance l (year b) (kg_to_date l b)

abbrev pub tonnes_due : List ℕ → List ℕ → ℕ
tonnes_due l b = due (balance_in l b) (issued b)
