-- `words::word` meets its contract: a kind of 4 bits above a payload of 28. Assumes nothing.
use native.Mathlib.Omega.{arith}
use Rattle.words.proofs.Fields.{join_law}
use Rattle.words.proofs.word.Goals as goal

pub returns : goal.returns
returns c = join_law _ c.args.payload 4 28 (omega arith) c.requires.0 c.requires.1
