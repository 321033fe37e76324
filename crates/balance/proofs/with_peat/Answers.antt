-- `balance::with_peat` meets its contract: peat and the terms fit an i64. Assumes nothing.
use mathlib.Core.Path.{◌≡◌}
use Prim.Native.Nat.{ℕ, ◌+◌, ◌^◌, ◌<◌}
use native.Mathlib.Omega.{arith}
use lib.IntN.{ℤ, pos, nat_abs}
use mir.Syntax.{w64}
use mir.Val.{to_z, of_z}
use mir.Facts.{to_z-of_z, to_z_pos}
use Rattle.words.proofs.Signed.{add_fits, add_reads}
use Rattle.balance.proofs.with_peat.Goals as goal
use Rattle.balance.proofs.with_peat.Goals.{Start}

module _ (c : Start) where
  abbrev peat : ℕ
  peat = c.args.peat

  abbrev terms : ℤ
  terms = c.args.terms

  fits : nat_abs (pos peat) + nat_abs terms < 2 ^ 63
  fits = omega (arith, c.requires.0, c.requires.1)

  plain : to_z w64 peat ≡ pos peat
  plain = to_z_pos w64 (omega (arith, c.requires.0))

  given : to_z w64 (of_z w64 terms) ≡ terms
  given = to_z-of_z c.ranges.terms

pub overflow_add-result : goal.overflow_add-result
overflow_add-result c = add_fits w64 (pos (peat c)) (plain c) (terms c) (given c) (fits c)

pub returns : goal.returns
returns c = add_reads w64 (pos (peat c)) (plain c) (terms c) (given c) (fits c)
