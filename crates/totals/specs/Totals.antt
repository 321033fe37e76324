-- What one line of each cell comes to, over all cells of a lines buffer x.
use Rattle.std.specs.Prelude.{ℕ, ◌/◌, List, length}
use Rattle.book.specs.Layout.{line_words, line_at}
use Rattle.words.specs.Sums.{sum_below}
use Rattle.totals.specs.declared.Line.{Line}
use Rattle.totals.specs.declared.Line.TheVariants.{Oxidised, Burned, Kg}

-- a line's place among those of its cell: mm oxidised, mm burned, kg
abbrev pub line_place : Line → ℕ
line_place Oxidised = 0
line_place Burned = 1
line_place Kg = 2

-- line 0 of each cell (mm oxidised), or 1 (mm burned), or 2 (kg), added up
unfoldable pub line_total : List ℕ → ℕ → ℕ
line_total x line = sum_below (line_at line x) (length x / line_words)
