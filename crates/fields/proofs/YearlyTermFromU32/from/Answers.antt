-- `YearlyTerm::from` meets its contract: each figure is its field of the word. Assumes nothing.
use mir.Syntax.{w32}
use Rattle.words.proofs.Signed.{call_reads}
use Rattle.fields.specs.Fields.{yearly_term_of}
use Rattle.fields.proofs.YearlyTermFromU32.from.Goals as goal

pub returns : goal.returns
unfolding yearly_term_of
returns c = rw (c.of.ensures, c.of-2.ensures, call_reads w32 c.signed_of.type_inv c.signed_of.ensures)
