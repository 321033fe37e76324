-- `words::Field::is_within` meets its contract: its two tests are the definition's. Assumes nothing.
use Rattle.words.specs.Bits.{within}
use Rattle.words.proofs.Field.is_within.Goals as goal

pub returns : goal.returns
unfolding within
returns c = rw c.of-x.ensures
