-- `forecast::run_years` meets its contract: iteration t closes the year t + 1, and its number is the difference of two totals. Assumes nothing.
use Prim.Native.Nat.{◌<◌}
use native.Mathlib.Omega.{arith}
use Rattle.listing.specs.Layout.{horizon}
use Rattle.listing.proofs.Accepted.{listing_horizon}
use Rattle.forecast.proofs.Loop.{years_none, years_difference, years_next, years_all}
use Rattle.forecast.proofs.run_years.Goals as goal
use Rattle.forecast.proofs.run_years.Goals.{In-loop-t}

pub loop-t-init : goal.loop-t-init
loop-t-init c = years_none c.requires.0 c.requires.1

-- the iteration of the year t + 1
there : (n : In-loop-t) → n.loop-t.t < horizon n.args.listing.now.words.now
there n = omega (arith, listing_horizon n.args.listing.now, n.loop-t-test.true)

pub overflow_sub-output : goal.overflow_sub-output
overflow_sub-output c =
    years_difference c.loop-t.invariant (there (goal.at.overflow_sub-output c).In-loop-t) c.run_year-now.ensures.value

pub loop-t-preserved : goal.loop-t-preserved
loop-t-preserved c =
    let year = c.run_year-now.ensures in
    years_next c.loop-t.invariant (there (goal.at.loop-t-preserved c).In-loop-t) year.value year.new_cells

pub returns : goal.returns
returns c =
    let all = years_all c.loop-t.invariant (omega (arith, c.loop-t-test.false, listing_horizon c.args.listing.now)) in
    record { value = all.0; new_cells = all.1; new_output = all.2 }
