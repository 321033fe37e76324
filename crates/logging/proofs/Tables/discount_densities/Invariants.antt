-- `Tables::discount_densities` meets its contract: iteration k stores the product at k. Assumes nothing.
use Rattle.std.proofs.Common.{◌+◌, [], ◌∷◌, length, get_or}
use Rattle.words.proofs.Blocks.{Filling}
use Rattle.sums.specs.Sums.{products}
use Rattle.logging.specs.Logging.{each_year}
use Rattle.logging.proofs.Tables.discount_densities.Given as goal

abbrev pub invariant-loop-k : goal.invariant-loop-k
invariant-loop-k l =
    let whole = products (each_year (l.fn.self.years + 1) l.fn.self.discounts.now) l.fn.self.densities.now in
    Filling 1 l.initial.discounted 0 (λ k. get_or whole k 0 ∷ []) (length whole) l.k l.discounted
