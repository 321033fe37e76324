-- `peatrun::run` prints the refusal of the listing, or the table of an opened book. Assumes nothing.
use mathlib.Core.Path.{refl}
use native.Mathlib.Omega.{arith}
use Rattle.peatrun.proofs.Years.{opened_refused, opened, opened_cells}
use Rattle.peatrun.proofs.run.Goals as goal

pub print_refusal-requires : goal.print_refusal-requires
print_refusal-requires g c = rw c.in_default.is (opened_refused _ _ (omega arith) _ _ c.in_default.ensures refl)

pub run_opened-requires : goal.run_opened-requires
run_opened-requires g c =
    let o = opened c.args.listing.now _ _ _ c.in-Ok.ensures in
    (o, omega (arith, opened_cells _ _ o.admits))
