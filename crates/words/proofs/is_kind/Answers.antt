-- `words::is_kind` meets its contract: its test is the definition's. Assumes nothing.
use Rattle.words.specs.Bits.{is_kind}
use Rattle.words.proofs.is_kind.Goals as goal

pub returns : goal.returns
unfolding is_kind
returns c = rw c.of.ensures
