-- Document 01, "Project listing", with the site word and the char percentage of document 02: the fields of each kind of word, w. The bits that
-- must be zero are named in Words.antt.
use Rattle.std.specs.Prelude.{ℕ, ℤ, Bool, cond}
use Rattle.words.specs.Bits.{bits, signed_bits, is_kind}
use Rattle.fields.specs.declared.Head.{Head}
use Rattle.fields.specs.declared.Row.{Row}
use Rattle.fields.specs.declared.Cell.{Cell}
use Rattle.fields.specs.declared.YearlyTerm.{YearlyTerm}

-- kind 1, word 0: cells, strata, horizon in years
abbrev pub cells_of : ℕ → ℕ
cells_of w = bits w 27 16

abbrev pub strata_of : ℕ → ℕ
strata_of w = bits w 15 8

abbrev pub horizon_of : ℕ → ℕ
horizon_of w = bits w 7 0

-- kind 2, word 1: char percentage h, buffer percentage p, warming potential of methane G, methane emission ratio e in thousandths
abbrev pub char_of : ℕ → ℕ
char_of w = bits w 27 23

abbrev pub buffer_of : ℕ → ℕ
buffer_of w = bits w 22 16

abbrev pub warming_of : ℕ → ℕ
warming_of w = bits w 15 8

abbrev pub methane_of : ℕ → ℕ
methane_of w = bits w 7 0

-- kind 3: drainage in cm, greatest oxidation in mm, greatest burning in mm
abbrev pub drainage_of : ℕ → ℕ
drainage_of w = bits w 27 20

abbrev pub oxidation_of : ℕ → ℕ
oxidation_of w = bits w 19 10

abbrev pub burning_of : ℕ → ℕ
burning_of w = bits w 9 0

-- kind 4: stratum, conversion year, entered depth in mm
abbrev pub stratum_of : ℕ → ℕ
stratum_of w = bits w 27 24

abbrev pub conversion_of : ℕ → ℕ
conversion_of w = bits w 23 16

abbrev pub entered_of : ℕ → ℕ
entered_of w = bits w 15 0

-- kind 5: area in m², carbon density q in tenths of kg per m³
abbrev pub area_of : ℕ → ℕ
area_of w = bits w 25 12

abbrev pub density_of : ℕ → ℕ
density_of w = bits w 11 0

-- kind 6: term, year, tonnes as a two's complement number
abbrev pub term_of : ℕ → ℕ
term_of w = bits w 27 24

abbrev pub year_of : ℕ → ℕ
year_of w = bits w 23 17

abbrev pub tonnes_of : ℕ → ℤ
tonnes_of w = signed_bits w 16 0

-- kind 7, the site word, which is word 2 where a listing carries it: the guard and the least thickness of peat, in mm
abbrev pub guard_of : ℕ → ℕ
guard_of w = bits w 27 14

abbrev pub thickness_of : ℕ → ℕ
thickness_of w = bits w 13 0

-- whether word 2, x, is one: by its kind alone
abbrev pub is_site_word : ℕ → Bool
is_site_word x = is_kind 7 x

-- the guard and the least thickness of a listing without it
abbrev pub default_guard : ℕ
default_guard = 400

abbrev pub default_thickness : ℕ
default_thickness = 300

-- ---- the same together

-- words 0 and 1, and x, word 2, if it is the site word
unfoldable pub head_of : ℕ → ℕ → ℕ → Head
head_of w v x =
    record {
      cells = cells_of w;
      strata = strata_of w;
      horizon = horizon_of w;
      char = char_of v;
      buffer = buffer_of v;
      warming = warming_of v;
      methane = methane_of v;
      has_site_word = is_site_word x;
      guard = cond (is_site_word x) (guard_of x) default_guard;
      thickness = cond (is_site_word x) (thickness_of x) default_thickness;
    }

-- a word of a table
unfoldable pub row_of : ℕ → Row
row_of w = record { drainage = drainage_of w; oxidation = oxidation_of w; burning = burning_of w }

-- the two words of a cell
unfoldable pub cell_of : ℕ → ℕ → Cell
cell_of w v =
    record {
      stratum = stratum_of w;
      conversion = conversion_of w;
      entered = entered_of w;
      area = area_of v;
      density = density_of v;
    }

-- a term's word
unfoldable pub yearly_term_of : ℕ → YearlyTerm
yearly_term_of w = record { term = term_of w; year = year_of w; tonnes = tonnes_of w }
