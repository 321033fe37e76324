-- Sums over places: cells, or the lines of cells.
use Rattle.std.specs.Prelude.{ℕ, zero, suc, ◌+◌}

-- f 0, f 1, .., f (n - 1), added up
unfoldable pub sum_below : (ℕ → ℕ) → ℕ → ℕ
sum_below f zero = 0
sum_below f (suc n) = sum_below f n + f n
