-- Document 01, "Project listing", with the site word of document 02: where the words of a listing l are. Check.antt names words 0 and 1 again,
-- to refuse them at their places.
use Rattle.std.specs.Prelude.{ℕ, ◌+◌, ◌-◌, ◌*◌, cond, List, get_or}
use Rattle.fields.specs.Fields.{head_of, row_of, cell_of}
use Rattle.fields.specs.Words.{most_cells, most_strata, most_horizon, year_terms}
use Rattle.fields.specs.declared.Head.{Head}
use Rattle.fields.specs.declared.Row.{Row}
use Rattle.fields.specs.declared.Cell.{Cell}
use Rattle.listing.specs.declared.Offsets.{Offsets}

-- the place of the site word, in a listing that carries it
abbrev pub site_at : ℕ
site_at = 2

-- words 0 to 2, and their figures by name. A listing that ends before word 2 has no site word, since 0 is not of kind 7
abbrev pub head : List ℕ → Head
head l = head_of (get_or l 0 0) (get_or l 1 0) (get_or l site_at 0)

abbrev pub cells : List ℕ → ℕ
cells l = (head l).cells

abbrev pub strata : List ℕ → ℕ
strata l = (head l).strata

abbrev pub horizon : List ℕ → ℕ
horizon l = (head l).horizon

abbrev pub guard : List ℕ → ℕ
guard l = (head l).guard

-- the words that every listing has: 0 and 1
abbrev pub least_words : ℕ
least_words = 2

-- the words of a cell
abbrev pub cell_words : ℕ
cell_words = 2

-- where the tables begin: after the site word, which is the latest such place, or at word 2 where there is none
abbrev pub latest_tables_at : ℕ
latest_tables_at = site_at + 1

unfoldable pub tables_at : Head → ℕ
tables_at h = cond h.has_site_word latest_tables_at site_at

-- the tables have for each stratum one word for each year of age; then come the cells; then the terms
unfoldable pub offsets_of : Head → Offsets
offsets_of h =
    record {
      tables = tables_at h;
      cells = tables_at h + h.strata * h.horizon;
      terms = tables_at h + h.strata * h.horizon + cell_words * h.cells;
    }

abbrev pub offsets : List ℕ → Offsets
offsets l = offsets_of (head l)

-- the latest place where the terms begin, the most terms, 700, and the words of the longest listing
abbrev pub latest_terms_at : ℕ
latest_terms_at = latest_tables_at + most_strata * most_horizon + cell_words * most_cells

abbrev pub most_term_words : ℕ
most_term_words = year_terms * most_horizon

abbrev pub most_words : ℕ
most_words = latest_terms_at + most_term_words

-- the row of a stratum's table for a year of age, 1 to the horizon
abbrev pub row_at : List ℕ → ℕ → ℕ → ℕ
row_at l stratum age = (offsets l).tables + stratum * horizon l + (age - 1)

abbrev pub row : List ℕ → ℕ → ℕ → Row
row l stratum age = row_of (get_or l (row_at l stratum age) 0)

-- cell i, by the first of its two words
abbrev pub cell_at : List ℕ → ℕ → ℕ
cell_at l i = (offsets l).cells + cell_words * i

abbrev pub cell : List ℕ → ℕ → Cell
cell l i = cell_of (get_or l (cell_at l i) 0) (get_or l (cell_at l i + 1) 0)
