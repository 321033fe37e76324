-- What valid words guarantee, for the contracts of the crates above. proofs/Valid.antt makes it from the tests.
use Rattle.std.specs.Prelude.{◌≡◌, ◌⊎◌, ℕ, ◌+◌, ◌*◌, ◌≤◌, ◌<◌}
use Rattle.fields.specs.Fields.{term_of, year_of}
use Rattle.fields.specs.Words.{most_cells, most_strata, most_horizon, most_buffer, most_warming, most_methane, most_guard, most_thickness, most_depth, most_area, most_density, most_term}
use Rattle.fields.specs.declared.Head.{Head}
use Rattle.fields.specs.declared.Row.{Row}
use Rattle.fields.specs.declared.Cell.{Cell}

-- the sizes of word 0 are within their limits
pub record SizesWithin (h : Head) : Type 0 where
  pub cells : h.cells ≤ most_cells
  pub strata : h.strata ≤ most_strata
  pub horizon : h.horizon ≤ most_horizon

-- the figures of words 0 and 1, and of the site
pub record HeadValid (h : Head) : Type 0 where
  pub cells : (1 ≤ h.cells) × (h.cells ≤ most_cells)
  pub strata : (1 ≤ h.strata) × (h.strata ≤ most_strata)
  pub horizon : (1 ≤ h.horizon) × (h.horizon ≤ most_horizon)
  pub char : h.char ≤ 31
  pub buffer : h.buffer ≤ most_buffer
  pub warming : (1 ≤ h.warming) × (h.warming ≤ most_warming)
  pub methane : h.methane ≤ most_methane
  pub guard : h.guard ≤ most_guard
  pub thickness : h.thickness ≤ most_thickness

-- a row's figures
pub record RowValid (r : Row) : Type 0 where
  pub drainage : r.drainage ≤ 255
  pub oxidation : r.oxidation ≤ 1023
  pub burning : r.burning ≤ 1023

-- a cell's figures, in a listing of so many strata and years
pub record CellValid (strata horizon : ℕ) (c : Cell) : Type 0 where
  pub stratum : c.stratum < strata
  pub conversion : c.conversion ≤ horizon
  pub entered : c.entered ≤ most_depth
  pub area : (1 ≤ c.area) × (c.area ≤ most_area)
  pub density : (1 ≤ c.density) × (c.density ≤ most_density)

-- a term that a listing may have
abbrev pub Listed : ℕ → Type 0
Listed term = (term ≡ 1) ⊎ ((3 ≤ term) × (term ≤ most_term))

-- a term's word
pub record TermValid (horizon w : ℕ) : Type 0 where
  pub term : Listed (term_of w)
  pub year : (1 ≤ year_of w) × (year_of w ≤ horizon)

-- a number that has the order of terms, by year, then term, which has 4 bits
unfoldable pub term_order : ℕ → ℕ
term_order w = year_of w * 16 + term_of w
