-- `terms::end_of_terms_to_date` meets its contract: the words before `low` are to date, those from `high` on are not. Assumes nothing.
use Prim.Native.Nat.{◌-◌}
use Rattle.listing.specs.Layout.{offsets}
use Rattle.terms.specs.Split.{Split}
use Rattle.terms.proofs.end_of_terms_to_date.Given as goal

abbrev pub invariant-loop-low : goal.invariant-loop-low
invariant-loop-low l = Split l.listing.words.now l.year (offsets l.listing.words.now).terms l.low l.high

abbrev pub decreases-loop-low : goal.decreases-loop-low
decreases-loop-low l = l.high - l.low
