-- `book::kg_of` meets its contract: the emission of the entry that the words hold. Assumes nothing.
use native.Mathlib.Omega.{arith}
use Rattle.book.proofs.kg_of.Goals as goal

pub emission-requires : goal.emission-requires
emission-requires c =
    let fit = c.requires.fit in
    rw c.entry_of-e.ensures (record { head_valid = fit.head_valid; cell_valid = fit.cell_valid; lost = omega (arith, fit.lost) })

pub returns : goal.returns
returns c = rw (c.emission.ensures, c.entry_of-e.ensures)
