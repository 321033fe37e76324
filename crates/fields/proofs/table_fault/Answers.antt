-- `fields::table_fault` meets its contract: what differs from a word of kind 3 is of kind 0 where the kinds are the same. Assumes nothing.
use mathlib.Core.Path.{ap, ◌∙◌}
use Prim.Native.Nat.{ℕ}
use native.Mathlib.Omega.{arith}
use lib.Bits.{bit_xor}
use borrow.Author.Rules.{rules}
use Rattle.words.specs.Bits.{is_kind}
use Rattle.fields.proofs.SameKind.{differing_kind}
use Rattle.fields.proofs.table_fault.Goals as goal

pub returns : goal.returns
returns c = ap (λ (v : ℕ). is_kind 0 (bit_xor c.args.w v)) c.word.ensures ∙ differing_kind 3 c.args.w (omega arith) (search rules)
