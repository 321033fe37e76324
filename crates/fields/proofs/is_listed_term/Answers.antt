-- `fields::is_listed_term` meets its contract: its tests are the definition's. Assumes nothing.
use Rattle.fields.specs.Words.{is_listed_term}
use Rattle.fields.proofs.is_listed_term.Goals as goal

pub returns : goal.returns
unfolding is_listed_term
returns c = rw (c.is_of.ensures, c.of.ensures, c.is_within.ensures)
