-- The terms to date in the order of the listing, for the contracts below `terms_to_date`. proofs/Sums.antt says that they come to the sums of
-- Terms.antt.
use Rattle.std.specs.Prelude.{ℕ, ◌≤◌, ◌<◌, cond, List, leb, length, get_or, ℤ, pos}
use Rattle.fields.specs.Fields.{term_of, year_of, tonnes_of}

-- what a word of a year to date adds to the terms up to `last`
unfoldable pub up_to : ℕ → ℕ → ℤ
up_to last w = cond (leb (term_of w) last) (tonnes_of w) (pos 0)

-- of the words from `start` on, those before `low` are of the years 1 to `year`, and those from `high` on are of later years
pub record Split (l : List ℕ) (year start low high : ℕ) : Type 0 where
  pub ordered : (start ≤ low) × (low ≤ high) × (high ≤ length l)
  pub before : (k : ℕ) → start ≤ k → k < low → year_of (get_or l k 0) ≤ year
  pub after : (k : ℕ) → high ≤ k → k < length l → year < year_of (get_or l k 0)
