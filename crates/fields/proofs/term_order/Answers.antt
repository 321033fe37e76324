-- `fields::term_order` meets its contract: the year has 7 bits, so that the number is small. Assumes nothing.
use native.Mathlib.Omega.{arith}
use Rattle.fields.specs.Valid.{term_order}
use Rattle.fields.proofs.term_order.Goals as goal

pub overflow_mul-result : goal.overflow_mul-result
unfolding term_order
overflow_mul-result c = omega (arith, c.of.ensures)

pub overflow_add-result : goal.overflow_add-result
unfolding term_order
overflow_add-result c = omega (arith, c.of.ensures, c.of-2.ensures)

pub returns : goal.returns
unfolding term_order
returns c = rw (c.of.ensures, c.of-2.ensures)
