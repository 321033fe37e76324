-- `balance::at_least_0` meets its contract: the greater of z and 0 is the definition's number. Assumes nothing.
use mathlib.Core.Path.{◌≡◌, refl, ap, ◌∙◌}
use mathlib.Core.Bool.{Bool, cond}
use Prim.Native.Nat.{zero, suc}
use native.Mathlib.Omega.{arith}
use lib.IntN.{ℤ, pos, negsuc, nat_abs}
use mir.Syntax.{w64}
use mir.Val.{SFits, to_z, of_z}
use mir.Facts.{to_z-of_z}
use borrow.Author.Tests.{lt-ltb}
use Rattle.std.specs.Int.{int_max}
use Rattle.words.specs.Bits.{at_least_0}
use Rattle.balance.proofs.at_least_0.Goals as goal

-- of z and 0 the greater, written as a word and read back
greater : (z : ℤ) → SFits w64 z → nat_abs (to_z w64 (of_z w64 (int_max z (pos 0)))) ≡ at_least_0 z
unfolding at_least_0
greater (pos zero) fits = refl
greater (pos (suc n)) fits =
    let above = ap (λ (b : Bool). cond b (pos (suc n)) (pos 0)) (lt-ltb 0 (suc n) (omega arith)) in
    ap (λ (z : ℤ). nat_abs (to_z w64 (of_z w64 z))) above ∙ ap nat_abs (to_z-of_z fits)
greater (negsuc n) fits = refl

pub returns : goal.returns
returns c = ap (λ (z : ℤ). nat_abs (to_z w64 (of_z w64 z))) (c.max.ensures.value ∙ ap (λ (z : ℤ). int_max z (pos 0)) (to_z-of_z c.ranges.z)) ∙ greater c.args.z c.ranges.z
