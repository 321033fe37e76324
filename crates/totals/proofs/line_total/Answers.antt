-- `totals::line_total` meets its contract: the sum is that of the cells so far, below 2 ^ 28 each. Assumes nothing.
use Rattle.std.proofs.Common.{◌≡◌, ◌+◌, ◌*◌, get_or, arith}
use Rattle.std.proofs.Math.Nat.{le_antisymm}
use Rattle.words.proofs.Chunks.{chunk_value}
use Rattle.words.proofs.Fields.{field_below}
use Rattle.words.proofs.Sums.{sum_none, sum_next}
use Rattle.book.specs.Layout.{line_words, line_at}
use Rattle.totals.specs.Totals.{line_total}
use Rattle.totals.proofs.Lines.{place_below}
use Rattle.totals.proofs.line_total.Goals as goal

pub loop-cell-init : goal.loop-cell-init
loop-cell-init c = (omega arith, sum_none _)

pub loop-cell-preserved : goal.loop-cell-preserved
loop-cell-preserved c =
    let t = c.loop-cell in
    let s = c.args in
    let place = c.place-place.result in
    let here = chunk_value line_words _ t.cell-index place s.lines.now (rw c.as_chunks.ensures.front_len at c.loop-cell-test.true) (rw c.place-place.ensures (place_below s.line)) in
    let number : c.from-sum.result ≡ line_at place s.lines.now t.cell-index = cc here in
    let small = field_below (get_or s.lines.now (line_words * t.cell-index + place) 0) 0 28 in
    (omega arith, sum_next _ t.cell-index t.invariant.1 number)

pub returns : goal.returns
unfolding line_total
returns c = rw (← c.place-place.ensures) (rw (le_antisymm c.loop-cell.auto.cell-index-end c.loop-cell-test.false, c.as_chunks.ensures.front_len) at c.loop-cell.invariant.1)
