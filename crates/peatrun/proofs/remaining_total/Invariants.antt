-- `peatrun::remaining_total` meets its contract: in iteration i the sum is that of the first i cells, below 2 ^ 32 each. Assumes nothing.
use mathlib.Core.Path.{◌≡◌}
use Prim.Native.Nat.{◌*◌, ◌^◌, ◌≤◌}
use Rattle.words.specs.Sums.{sum_below}
use Rattle.listing.specs.Layout.{cell}
use Rattle.year.specs.Year.{remaining}
use Rattle.book.specs.Current.{entry}
use Rattle.peatrun.proofs.remaining_total.Given as goal

abbrev pub invariant-loop-i : goal.invariant-loop-i
invariant-loop-i l = record { most : l.sum ≤ 2 ^ 32 * l.i; so_far : l.sum ≡ sum_below (λ i. remaining (cell l.listing i) (entry l.book i)) l.i }
