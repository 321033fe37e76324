-- `listing::tables_valid` meets its contract: while the faults are of kind 0, the search has come to `at`. Assumes nothing.
use mathlib.Core.Path.{◌≡◌}
use mathlib.Core.Bool.{Bool, true, ◌&&◌}
use Prim.Native.Nat.{ℕ, ◌+◌, ◌<◌}
use native.Mathlib.Omega.{arith}
use lib.Bits.{bit_or}
use Rattle.words.specs.Bits.{is_kind}
use Rattle.words.proofs.Steps.{ValidSoFar, so_far_none, so_far_more, so_far_all}
use Rattle.fields.proofs.SameKind.{joined_kind}
use Rattle.listing.proofs.tables_valid.Goals as goal

both_true : (a b : Bool) → a ≡ true → b ≡ true → (a && b) ≡ true
both_true a b p q = rw (p, q)

-- with the faults of a word more
faults-more : {valid : ℕ → Bool} {from to at : ℕ} (faults fault : ℕ) → ValidSoFar valid from to at (is_kind 0 faults) → at < to → is_kind 0 fault ≡ valid at →
    ValidSoFar valid from to (at + 1) (is_kind 0 (bit_or faults fault))
faults-more faults fault p h e =
    let more = so_far_more _ _ p h e in
    record {
      passed = λ t.
          let kinds = joined_kind faults fault t in
          more.passed (both_true _ _ kinds.0 kinds.1);
    }

-- by name, so that a wrong place or a wrong test is reported at this return
pub loop-at-preserved : goal.loop-at-preserved
loop-at-preserved c = faults-more _ _ c.loop-at.invariant (omega arith) c.table_fault-faults.ensures

pub loop-at-init : goal.loop-at-init
loop-at-init c = so_far_none

pub returns : goal.returns
unfolding is_kind
returns c t = so_far_all _ c.loop-at.invariant (omega arith) (omega arith) (rw (← c.of.ensures) t)
