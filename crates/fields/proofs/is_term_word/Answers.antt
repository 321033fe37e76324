-- `fields::is_term_word` meets its contract: its tests are the definition's. Assumes nothing.
use Rattle.fields.specs.Words.{is_term_word}
use Rattle.fields.proofs.is_term_word.Goals as goal

pub returns : goal.returns
unfolding is_term_word
returns c = rw (c.is_listed_term.ensures, c.is_within.ensures)
