-- `forecast::run_years` meets its contract: iteration t closes the year t + 1, and its number is the difference of two totals. Assumes nothing.
use Rattle.forecast.proofs.Loop.{YearsSoFar}
use Rattle.forecast.proofs.run_years.Given as goal

abbrev pub invariant-loop-t : goal.invariant-loop-t
invariant-loop-t l = YearsSoFar l.listing.words.now l.initial.output l.t l.total l.all l.output
