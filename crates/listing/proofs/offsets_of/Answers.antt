-- `listing::offsets_of` meets its contract: the places are those of the head's sizes, and small. Assumes nothing.
use native.Mathlib.Omega.{arith}
use Rattle.listing.specs.Layout.{offsets_of}
use Rattle.listing.proofs.Accepted.{tables_within, rows_most}
use Rattle.listing.proofs.offsets_of.Goals as goal

pub overflow_mul-cells : goal.overflow_mul-cells
overflow_mul-cells c = omega (arith, rows_most c.requires)

pub overflow_cast-cells : goal.overflow_cast-cells
overflow_cast-cells c = omega (arith, rows_most c.requires)

pub overflow_add-cells : goal.overflow_add-cells
overflow_add-cells c = omega (arith, c.tables_at-tables.ensures, tables_within c.args.h, rows_most c.requires)

pub overflow_add-result : goal.overflow_add-result
overflow_add-result c = omega (arith, c.tables_at-tables.ensures, tables_within c.args.h, rows_most c.requires)

pub returns : goal.returns
unfolding offsets_of
returns c = rw c.tables_at-tables.ensures
