-- `listing::first_invalid_table_word` meets its contract: a pass finds all valid, or else both loops' invariants have `Passed`, that the search has
-- come to the word of this stratum and age; until one is invalid, `found` is the end. Assumes nothing.
use mathlib.Core.Path.{◌≡◌, ◌∙◌}
use Prim.Native.Nat.{◌+◌, ◌*◌}
use native.Mathlib.Nat.{mul-le-mul_right}
use native.Mathlib.Omega.{arith}
use Rattle.words.proofs.Steps.{passed_on, passed_failed, passed_all, row_within}
use Rattle.listing.proofs.first_invalid_table_word.Goals as goal

pub loop-age-preserved : goal.loop-age-preserved
loop-age-preserved c =
    let row = row_within _ _ c.args.horizon c.strata-test.true in
    let start = c.args.start + c.strata.stratum * c.args.horizon in
    let next : start + c.loop-age.age + 1 ≡ start + (c.loop-age.age + 1) = omega arith in
    (c.loop-age.invariant.0, rw next at (passed_on _ c.loop-age.invariant.1 (omega arith) c.is_table_word.ensures c.if-not-is_table_word.false))

pub returns-after-strata : goal.returns-after-strata
returns-after-strata c =
    let past = mul-le-mul_right c.args.horizon c.strata-test.false in
    let most = mul-le-mul_right c.args.horizon c.strata.auto.stratum-end in
    let all : c.args.end ≡ c.args.start + c.strata.stratum * c.args.horizon = omega arith in
    c.strata.invariant.0 ∙ all ∙ passed_all c.strata.invariant.1 (omega arith)

pub returns-then-not-is_table_word : goal.returns-then-not-is_table_word
returns-then-not-is_table_word c =
    let row = row_within _ _ c.args.horizon c.strata-test.true in
    passed_failed _ c.loop-age.invariant.1 (omega arith) c.is_table_word.ensures c.if-not-is_table_word.true
