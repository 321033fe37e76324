-- `balance::withheld` meets its contract: rounding up adds 99 hundredths. Assumes nothing.
use mathlib.Core.Path.{◌≡◌, ap, ◌∙◌}
use Prim.Native.Nat.{◌+◌, ◌*◌, ◌^◌, ◌<◌}
use native.Mathlib.Nat.{mul-le-mul_right}
use native.Mathlib.Omega.{arith}
use mir.Facts.{to_z-of_z}
use Rattle.words.specs.Bits.{at_least_0}
use Rattle.words.proofs.Signed.{at_least_0_size}
use Rattle.balance.specs.Balance.{withheld}
use Rattle.balance.proofs.withheld.Goals as goal
use Rattle.balance.proofs.withheld.Goals.{After-at_least_0}

module _ (c : After-at_least_0) where
  tonnes : c.at_least_0.result ≡ at_least_0 c.args.s
  tonnes = c.at_least_0.ensures ∙ ap at_least_0 (to_z-of_z c.ranges.s)

  capacity : c.from.result * c.at_least_0.result + 99 < 2 ^ 64
  capacity = rw c.from.ensures (omega (arith, tonnes, at_least_0_size c.args.s, mul-le-mul_right c.at_least_0.result c.requires.0))

pub returns : goal.returns
unfolding withheld
returns c = rw (c.from.ensures, tonnes c)

pub overflow_mul-result : goal.overflow_mul-result
overflow_mul-result c = omega (arith, capacity c)

pub overflow_add-result : goal.overflow_add-result
overflow_add-result c = omega (arith, capacity c)
