-- `reading::mm_above_lowest` meets its contract: `proofs/Pattern.antt` says what the bits of a level's pattern are, and `proofs/Floor.antt` what the
-- shifted mantissa is, below zero and from zero up. Assumes nothing.
use mathlib.Core.Path.{◌≡◌, refl, sym, subst}
use native.Mathlib.Omega.{arith}
use Prim.Native.Nat.{◌≤◌, ◌+◌, ◌-◌, ◌^◌}
use lib.Dec.{T}
use lib.Ieee.{binary32, fits}
use Rattle.reading.specs.Metres.{numerator, denominator, mm}
use Rattle.reading.proofs.Pattern.{Decomposed, Tiny, no_nan, tiny, full_parted}
use Rattle.reading.proofs.Floor.{Below, Above, below, above, tiny_below, tiny_above}
use Rattle.reading.proofs.mm_above_lowest.Goals as goal
use Rattle.reading.proofs.mm_above_lowest.Goals.{After-of-mantissa, Else-x-2, Start, Then-exponent-lt87, Then-x-2}

-- what owning an `f32` gives: the format holds it
held : (c : Start) → T (fits binary32 c.args.x)
held c = subst T (sym c.well_formed.0.1) tt

near : (c : Then-exponent-lt87) → Tiny c.args.x
near c = let s = c.before.before.before in tiny s.args.x (held s) s.requires _ _ c.of-exponent.ensures refl c.if-exponent-lt87.true

full : (c : After-of-mantissa) → let b = c.before.before in
    (b.of-exponent.result ≤ 138) × Decomposed b.args.x (c.of-mantissa.result + 2 ^ 23) (150 - b.of-exponent.result)
full c =
    let b = c.before.before.before in
    let s = b.before.before in
    let apart : b.of-exponent.result ≡ 0 → ⊥ = λ z. omega arith in
    full_parted s.args.x (held s) s.requires _ _ b.of-exponent.ensures c.of-mantissa.ensures apart

negative : (c : Then-x-2) →
    let x = c.args.x in
    Below (numerator x) (denominator x) c.from-n.result (150 - c.of-exponent.result)
negative c = rw c.from-n.ensures (below _ _ _ (full c.before.before).1 c.requires c.if-x-2.true)

positive : (c : Else-x-2) →
    let x = c.args.x in
    Above (numerator x) (denominator x) c.from-n.result (150 - c.of-exponent.result)
positive c = rw c.from-n.ensures (above _ _ _ (full c.before.before).1 c.requires c.if-x-2.false)

pub returns-then-x-2 : goal.returns-then-x-2
unfolding mm
returns-then-x-2 c = (negative c).raised

pub returns : goal.returns
unfolding mm
returns c = (positive c).raised

pub float_to_bits-pattern : goal.float_to_bits-pattern
float_to_bits-pattern c = no_nan c.args.x c.requires

pub returns-then-x : goal.returns-then-x
returns-then-x c = tiny_below _ (near c.before) c.requires c.if-x.true

pub returns-else-x : goal.returns-else-x
returns-else-x c = tiny_above _ (near c.before) c.requires c.if-x.false

pub overflow_sub-places : goal.overflow_sub-places
overflow_sub-places c = omega (arith, (full c).0)

pub overflow_cast-result-then-x-2 : goal.overflow_cast-result-then-x-2
overflow_cast-result-then-x-2 c = omega (arith, (negative c).small)

pub overflow_sub-result-then-x-2-3 : goal.overflow_sub-result-then-x-2-3
overflow_sub-result-then-x-2-3 c = omega (arith, (negative c).small)

pub overflow_cast-result-3 : goal.overflow_cast-result-3
overflow_cast-result-3 c = omega (arith, (positive c).small)

pub overflow_add-result : goal.overflow_add-result
overflow_add-result c = omega (arith, (positive c).small)
