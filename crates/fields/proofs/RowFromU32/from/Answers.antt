-- `Row::from` meets its contract: each figure is its field of the word. Assumes nothing.
use Rattle.fields.specs.Fields.{row_of}
use Rattle.fields.proofs.RowFromU32.from.Goals as goal

pub returns : goal.returns
unfolding row_of
returns c = rw (c.of.ensures, c.of-2.ensures, c.of-3.ensures)
