-- `forecast::run_year` meets its contract: iteration i adds the year to cell i, and its kg to date to the total. Assumes nothing.
use Rattle.forecast.proofs.Loop.{YearSoFar}
use Rattle.forecast.proofs.run_year.Given as goal

abbrev pub invariant-loop-i : goal.invariant-loop-i
invariant-loop-i l = YearSoFar l.listing.words.now l.closed_years l.i l.total l.all
