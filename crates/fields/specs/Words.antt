-- Document 01, "Project listing", with the site word and the char percentage of document 02: which words are valid, each by
-- itself, and the order of terms.
use Rattle.std.specs.Prelude.{ℕ, Bool, ◌&&◌, ◌||◌, leb, ltb, eqb}
use Rattle.words.specs.Bits.{bits, within, is_kind}
use Rattle.fields.specs.Fields.{cells_of, strata_of, horizon_of, buffer_of, warming_of, methane_of, stratum_of, conversion_of, entered_of, area_of, density_of, term_of, year_of}
use Rattle.fields.specs.declared.Head.{Head}

-- the limits of word 0
abbrev pub most_cells : ℕ
most_cells = 1000

abbrev pub most_strata : ℕ
most_strata = 16

abbrev pub most_horizon : ℕ
most_horizon = 100

-- of word 1: p, G, e
abbrev pub most_buffer : ℕ
most_buffer = 100

abbrev pub most_warming : ℕ
most_warming = 100

abbrev pub most_methane : ℕ
most_methane = 100

-- of the site word: guard, least thickness
abbrev pub most_guard : ℕ
most_guard = 2000

abbrev pub most_thickness : ℕ
most_thickness = 2000

-- of a cell's words: depth, area, density
abbrev pub most_depth : ℕ
most_depth = 20000

abbrev pub most_area : ℕ
most_area = 10000

abbrev pub most_density : ℕ
most_density = 2400

-- of a term: its number, and its tonnes above zero and below it
abbrev pub most_term : ℕ
most_term = 8

abbrev pub most_term_tonnes : ℕ
most_term_tonnes = 65535

abbrev pub most_term_tonnes_below : ℕ
most_term_tonnes_below = 65536

-- the terms that a year may have, each once: 1 and 3 to 8
abbrev pub year_terms : ℕ
year_terms = 7

-- word 0: 1–1,000 cells, 1–16 strata, a horizon of 1–100 years
unfoldable pub is_size_word : ℕ → Bool
is_size_word w = is_kind 1 w && within 1 most_cells (cells_of w) && within 1 most_strata (strata_of w) && within 1 most_horizon (horizon_of w)

-- word 1: p 0–100, G 1–100, e 0–100; every h is allowed
unfoldable pub is_figure_word : ℕ → Bool
is_figure_word w = is_kind 2 w && within 0 most_buffer (buffer_of w) && within 1 most_warming (warming_of w) && within 0 most_methane (methane_of w)

-- the site's figures: a guard and a least thickness of 0–2,000. All bits of the site word are named, and what holds without one is in range
unfoldable pub is_site_valid : Head → Bool
is_site_valid h = leb h.guard most_guard && leb h.thickness most_thickness

-- a word of a table: all values are allowed
abbrev pub is_table_word : ℕ → Bool
is_table_word w = is_kind 3 w

-- the first word of a cell: a stratum below the count, a conversion year 0 or 1 to the horizon, a depth of 0–20,000
unfoldable pub is_depth_word : ℕ → ℕ → ℕ → Bool
is_depth_word strata horizon w = is_kind 4 w && ltb (stratum_of w) strata && within 0 horizon (conversion_of w) && within 0 most_depth (entered_of w)

-- the second: an area of 1–10,000, a density of 1–2,400; bits 27–26 are zero
unfoldable pub is_area_word : ℕ → Bool
is_area_word w = is_kind 5 w && eqb (bits w 27 26) 0 && within 1 most_area (area_of w) && within 1 most_density (density_of w)

-- a term but for its year: 1 or 3 to 8; every number of tonnes is allowed
unfoldable pub is_listed_term : ℕ → Bool
is_listed_term w = is_kind 6 w && (eqb (term_of w) 1 || within 3 most_term (term_of w))

-- a term: with a year of 1 to the horizon
unfoldable pub is_term_word : ℕ → ℕ → Bool
is_term_word horizon w = is_listed_term w && within 1 horizon (year_of w)

-- terms rise strictly by year, then term
unfoldable pub is_above : ℕ → ℕ → Bool
is_above before w = ltb (year_of before) (year_of w) || (eqb (year_of before) (year_of w) && ltb (term_of before) (term_of w))
