-- `Pools::stock_sums` meets its contract: the pools before i are not too large, and the sums so far and what is left make the whole. Assumes nothing.
use Rattle.discount.proofs.Passed.{Passed}
use Rattle.discount.proofs.Pools.stock_sums.Given as goal

abbrev pub invariant-loop-i : goal.invariant-loop-i
invariant-loop-i l = Passed l.self.first_widths.now l.self.second_widths.now l.self.first_stocks.now l.self.second_stocks.now l.first l.second l.i
