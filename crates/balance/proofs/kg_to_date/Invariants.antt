-- `balance::kg_to_date` meets its contract: in iteration i the sum is that of the first i cells. Assumes nothing.
use mathlib.Core.Path.{◌≡◌}
use Rattle.words.specs.Sums.{sum_below}
use Rattle.book.specs.Current.{kg_to_date}
use Rattle.balance.proofs.kg_to_date.Given as goal

abbrev pub invariant-loop-i : goal.invariant-loop-i
invariant-loop-i l = l.kg ≡ sum_below (kg_to_date l.book.listing.words.now l.book.words.now) l.i
