-- `words::Field::signed_of` meets its contract: the sign's bit is inverted, and its worth taken off. Assumes nothing.
use mathlib.Core.Path.{ap, ◌∙◌}
use Prim.Native.Nat.{ℕ, ◌+◌, ◌-◌, ◌*◌, ◌%◌, ◌^◌}
use native.Mathlib.Omega.{arith}
use Rattle.words.specs.Bits.{twos_complement}
use Rattle.words.proofs.Fields.{one_shl, field_below}
use Rattle.words.proofs.Signed.{Halved, flipped_fits, half_fits, signed_fits, signed_reads}
use Rattle.words.proofs.Field.signed_of.Goals as goal
use Rattle.words.proofs.Field.signed_of.Goals.{After-of-x}

-- once `bits` has answered
halved : (c : After-of-x) → Halved (c.args.self.high + 1 - c.args.self.low) c.of-x.result ((1 * 2 ^ (c.args.self.high - c.args.self.low)) % 2 ^ 32)
halved c =
    let high = c.args.self.high in
    let low = c.args.self.low in
    record {
      width_fits = omega arith;
      half = one_shl (high - low) (omega arith) ∙ ap (λ (m : ℕ). 2 ^ m) (omega arith);
      below = rw c.of-x.ensures (field_below c.args.w low (high + 1 - low));
    }

pub overflow_cast-result : goal.overflow_cast-result
overflow_cast-result c = flipped_fits (halved (goal.at.overflow_cast-result c).After-of-x)

pub overflow_cast-result-2 : goal.overflow_cast-result-2
overflow_cast-result-2 c = half_fits (halved (goal.at.overflow_cast-result-2 c).After-of-x)

pub overflow_sub-result : goal.overflow_sub-result
overflow_sub-result c = signed_fits (halved (goal.at.overflow_sub-result c).After-of-x)

pub returns : goal.returns
returns c = signed_reads (halved (goal.at.returns c).After-of-x) ∙ ap (twos_complement _) c.of-x.ensures
