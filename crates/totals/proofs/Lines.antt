-- A line lies among those of its cell. Assumes nothing.
use Prim.Native.Nat.{◌<◌}
use native.Mathlib.Omega.{arith}
use Rattle.book.specs.Layout.{line_words}
use Rattle.totals.specs.Totals.{line_place}
use Rattle.totals.specs.declared.Line.{Line}
use Rattle.totals.specs.declared.Line.TheVariants.{Oxidised, Burned, Kg}

pub place_below : (line : Line) → line_place line < line_words
place_below Oxidised = omega arith
place_below Burned = omega arith
place_below Kg = omega arith
