-- `ledger::figures_of` meets its contract: each figure is read where the definition reads it. Assumes nothing.
use native.Mathlib.Omega.{arith}
use Rattle.year.specs.Limits.{WithinLimits}
use Rattle.ledger.specs.Calls.{figures_of}
use Rattle.ledger.proofs.figures_of.Goals as goal
use Rattle.ledger.proofs.figures_of.Goals.{After-entry-e}

-- what is lost fits the cell
fits : (c : After-entry-e) → WithinLimits c.args.book.now.listing.figures c.cell-c.result c.entry-e.result.oxidised c.entry-e.result.burned
fits c =
    let b = c.args.book.now in
    rw (b.listing.is_head, c.cell-c.ensures, c.entry-e.ensures) (b.accepted.words_valid _ c.requires).fit

pub returns : goal.returns
unfolding figures_of
returns c = rw (c.kg_to_date.ensures, c.cell-c.ensures, c.entry-e.ensures)

pub overflow_add-result : goal.overflow_add-result
overflow_add-result c = let f = fits (goal.at.overflow_add-result c).After-entry-e in omega (arith, f.lost, f.cell_valid.entered)

pub overflow_sub-result : goal.overflow_sub-result
overflow_sub-result c = omega (arith, (fits (goal.at.overflow_sub-result c).After-entry-e).lost)
