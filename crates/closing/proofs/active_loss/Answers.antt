-- `closing::active_loss` meets its contract: the row is that of the cell's own stratum and age. Assumes nothing.
use Rattle.year.specs.Year.{age}
use Rattle.closing.proofs.Closable.{cell_year_fit, active_loss_lem}
use Rattle.closing.proofs.active_loss.Goals as goal

pub loss_of-requires : goal.loss_of-requires
loss_of-requires c =
    let a = c.args.listing.now.accepted in
    rw c.args.listing.now.is_head (cell_year_fit a c.requires.0, rw c.active_row-r.ensures (a.row_valid c.args.c.stratum (age c.args.e.plan c.args.year)), c.requires.2)

pub returns : goal.returns
returns c = active_loss_lem _ _ _ _ _ c.args.listing.now.is_head c.requires.1 _ c.active_row-r.ensures _ c.loss_of.ensures
