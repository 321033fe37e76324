-- `fields::cell_of` meets its contract: each figure is its field of one of the two words. Assumes nothing.
use Rattle.fields.specs.Fields.{cell_of}
use Rattle.fields.proofs.cell_of.Goals as goal

pub returns : goal.returns
unfolding cell_of
returns c = rw (c.of.ensures, c.of-2.ensures, c.of-3.ensures, c.of-4.ensures, c.of-5.ensures)
