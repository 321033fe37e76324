-- What an accepted listing guarantees, for the contracts of its readers and for the crates above. proofs/Accepted.antt makes it from the check's answer.
use Rattle.std.specs.Prelude.{◌≡◌, true, ℕ, ◌+◌, ◌-◌, ◌*◌, ◌≤◌, ◌<◌, List, length, get_or}
use Rattle.fields.specs.Words.{year_terms, is_above}
use Rattle.fields.specs.Valid.{HeadValid, RowValid, CellValid, TermValid}
use Rattle.fields.specs.declared.Head.{Head}
use Rattle.listing.specs.Layout.{cell_words, tables_at, latest_terms_at, head, cells, strata, horizon, offsets, row, cell}
use Rattle.listing.specs.declared.Offsets.{Offsets}

-- the parts follow each other, and the terms begin at word 3,603 or before
pub record Contiguous (h : Head) (s : Offsets) : Type 0 where
  pub tables : s.tables ≡ tables_at h
  pub cells : s.cells ≡ s.tables + h.strata * h.horizon
  pub terms : s.terms ≡ s.cells + cell_words * h.cells
  pub terms_at_most : s.terms ≤ latest_terms_at

-- all of it
pub record Accepted (l : List ℕ) : Type 0 where
  pub head_valid : HeadValid (head l)
  pub parts : Contiguous (head l) (offsets l)
  pub long : (offsets l).terms ≤ length l
  pub row_valid : (stratum age : ℕ) → RowValid (row l stratum age)
  pub cell_valid : (i : ℕ) → i < cells l → CellValid (strata l) (horizon l) (cell l i)
  pub term_valid : (k : ℕ) → (offsets l).terms ≤ k → k < length l → TermValid (horizon l) (get_or l k 0)
  pub rising : (k : ℕ) → (offsets l).terms + 1 ≤ k → k < length l → is_above (get_or l (k - 1) 0) (get_or l k 0) ≡ true
  -- so a year has at most one word for each term that it may have
  pub words_at_most : length l ≤ (offsets l).terms + year_terms * horizon l
