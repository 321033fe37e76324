-- `words::Field::of` meets its contract: the field at position `low`, `high + 1 - low` bits wide. Assumes nothing.
use native.Mathlib.Omega.{arith}
use lib.Pow.{pow_pos}
use Prim.Native.Nat.{◌+◌, ◌-◌}
use Rattle.words.proofs.Fields.{one_shl, field_law}
use Rattle.words.proofs.Field.of.Goals as goal

pub overflow_sub-result-2 : goal.overflow_sub-result-2
overflow_sub-result-2 c = rw (one_shl (c.args.self.high + 1 - c.args.self.low) (omega arith)) (pow_pos (c.args.self.high + 1 - c.args.self.low))

pub returns : goal.returns
returns c = field_law c.args.w c.args.self.low (c.args.self.high + 1 - c.args.self.low) (omega arith)
