-- `reading::in_core` meets its contract: the ends are the whole numbers of the definition. Assumes nothing.
use mathlib.Core.Path.{refl}
use lib.Ieee.{of_bits, neg}
use Rattle.reading.specs.Metres.{in_core}
use Rattle.reading.proofs.in_core.Goals as goal

pub in_range-requires : goal.in_range-requires
unfolding of_bits neg
in_range-requires c = record { low_finite = refl; low_whole = refl; high_finite = refl; high_whole = refl }

pub returns : goal.returns
unfolding in_core of_bits neg
returns c = c.in_range.ensures
