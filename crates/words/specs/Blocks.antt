-- A list that holds blocks of one size, one after the other.
use Rattle.std.specs.Prelude.{ℕ, zero, suc, ◌+◌, ◌*◌, List, [], ◌++◌, take, drop}

-- f 0, f 1, .. one after the other, n of them
abbrev pub blocks : (ℕ → List ℕ) → ℕ → List ℕ
blocks f zero = []
blocks f (suc n) = blocks f n ++ f n

-- d, with n blocks of `size` words from index `at` on: f 0, f 1, ..; its other words are d's
unfoldable pub filled : ℕ → List ℕ → ℕ → (ℕ → List ℕ) → ℕ → List ℕ
filled size d at f n = take at d ++ blocks f n ++ drop (at + size * n) d
