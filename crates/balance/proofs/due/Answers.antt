-- `balance::due` meets its contract: the difference fits an i64, and what is above 0 of it is no more than the balance. Assumes nothing.
use mathlib.Core.Path.{◌≡◌, ap, ◌∙◌}
use Prim.Native.Nat.{◌+◌, ◌^◌, ◌<◌}
use native.Mathlib.Omega.{arith}
use lib.IntN.{ℤ, pos, nat_abs}
use mir.Syntax.{w64}
use mir.Val.{to_z, of_z}
use mir.Facts.{to_z-of_z, to_z_pos}
use Rattle.words.specs.Bits.{at_least_0}
use Rattle.words.proofs.Signed.{sub_fits, sub_reads, at_least_0_less}
use Rattle.balance.specs.Balance.{due}
use Rattle.balance.proofs.due.Goals as goal
use Rattle.balance.proofs.due.Goals.{After-at_least_0, Start}

module _ (s : Start) where
  abbrev z : ℤ
  z = s.args.balance

  capacity : nat_abs z + s.args.issued < 2 ^ 63
  capacity = omega (arith, s.requires.0, s.requires.2)

  balance : to_z w64 (of_z w64 z) ≡ z
  balance = to_z-of_z s.ranges.balance

  issued : to_z w64 s.args.issued ≡ pos s.args.issued
  issued = to_z_pos w64 (omega (arith, capacity))

pub overflow_sub-balance : goal.overflow_sub-balance
overflow_sub-balance c = sub_fits w64 (z c) (balance c) (pos c.args.issued) (issued c) (capacity c)

module _ (c : After-at_least_0) where
  abbrev s : Start
  s = (goal.at.After-at_least_0 c).Start

  is : c.at_least_0.result ≡ due (z s) s.args.issued
  unfolding due
  is = c.at_least_0.ensures ∙ ap at_least_0 (sub_reads w64 (z s) (balance s) (pos s.args.issued) (issued s) (capacity s))

pub overflow_cast-result : goal.overflow_cast-result
unfolding due
overflow_cast-result c = omega (arith, is c, at_least_0_less (z (goal.at.overflow_cast-result c).Start) c.args.issued, c.requires.1)

pub returns : goal.returns
returns c = is c
