-- `totals::line_total` meets its contract: the sum is that of the cells so far, below 2 ^ 28 each. Assumes nothing.
use Rattle.std.proofs.Common.{◌≡◌, ◌*◌, ◌^◌, ◌≤◌}
use Rattle.words.specs.Sums.{sum_below}
use Rattle.book.specs.Layout.{line_at}
use Rattle.totals.proofs.line_total.Given as goal

abbrev pub invariant-loop-cell : goal.invariant-loop-cell
invariant-loop-cell l = (l.sum ≤ 2 ^ 28 * l.cell-index) × (l.sum ≡ sum_below (line_at l.place l.fn.lines) l.cell-index)
