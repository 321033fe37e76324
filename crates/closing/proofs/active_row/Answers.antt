-- `closing::active_row` meets its contract: an active cell has an age, and its table a row for it. Assumes nothing.
use native.Mathlib.Omega.{arith}
use Rattle.closing.proofs.Closable.{active_age}
use Rattle.closing.proofs.active_row.Goals as goal

pub overflow_sub-age : goal.overflow_sub-age
overflow_sub-age c = (active_age c.args.listing.now.accepted c.requires.0 c.requires.1).0

pub overflow_add-age : goal.overflow_add-age
overflow_add-age c = omega (arith, c.args.listing.now.accepted.head_valid.horizon, c.requires.0.in_time)

pub row-requires : goal.row-requires
row-requires c =
    let a = active_age c.args.listing.now.accepted c.requires.0 c.requires.1 in
    let time = c.requires.0.in_time in
    (omega (arith, a.1), omega arith, omega arith)
