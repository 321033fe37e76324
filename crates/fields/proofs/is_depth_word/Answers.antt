-- `fields::is_depth_word` meets its contract: its tests are the definition's. Assumes nothing.
use Rattle.fields.specs.Words.{is_depth_word}
use Rattle.fields.proofs.is_depth_word.Goals as goal

pub returns : goal.returns
unfolding is_depth_word
returns c = rw (c.is_of.ensures, c.of.ensures, c.is_within.ensures, c.is_within-2.ensures)
