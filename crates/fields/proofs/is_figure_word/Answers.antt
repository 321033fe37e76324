-- `fields::is_figure_word` meets its contract: its tests are the definition's. Assumes nothing.
use Rattle.fields.specs.Words.{is_figure_word}
use Rattle.fields.proofs.is_figure_word.Goals as goal

pub returns : goal.returns
unfolding is_figure_word
returns c = rw (c.is_of.ensures, c.is_within.ensures, c.is_within-2.ensures, c.is_within-3.ensures)
