-- Document 01, "Forecast, readings, discount, program": `peatrun` reads little-endian words.
use Rattle.std.specs.Prelude.{ℕ, ◌+◌, ◌*◌, ◌/◌, List, [], ◌∷◌, get_or, length}
use Rattle.words.specs.Blocks.{filled}

-- the word that the four bytes from `at` on make, the lowest first
unfoldable pub word_at : List ℕ → ℕ → ℕ
word_at b at = get_or b at 0 + 256 * get_or b (at + 1) 0 + 65536 * get_or b (at + 2) 0 + 16777216 * get_or b (at + 3) 0

-- the words of bytes b at the start of a list d, whose other words stay
unfoldable pub decoded : List ℕ → List ℕ → List ℕ
decoded b d = filled 1 d 0 (λ k. word_at b (4 * k) ∷ []) (length b / 4)
