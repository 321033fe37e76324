-- Sums over lists of any length, and a bound on a list's values.
use Rattle.std.specs.Prelude.{ℕ, ◌+◌, ◌*◌, ◌≤◌, ◌≡◌, Bool, true, ◌&&◌, List, [], ◌∷◌, leb, length, get_or, replicate}
use Rattle.words.specs.Sums.{sum_below}

-- w₀ × v₀ + w₁ × v₁ + .., as far as both lists go
unfoldable pub weighted : List ℕ → List ℕ → ℕ
weighted [] vs = 0
weighted (w ∷ ws) [] = 0
weighted (w ∷ ws) (v ∷ vs) = w * v + weighted ws vs

-- w₀ × v₀, w₁ × v₁, .., as far as both lists go
unfoldable pub products : List ℕ → List ℕ → List ℕ
products [] vs = []
products (w ∷ ws) [] = []
products (w ∷ ws) (v ∷ vs) = w * v ∷ products ws vs

-- v₀ + v₁ + ..
unfoldable pub sum : List ℕ → ℕ
sum [] = 0
sum (v ∷ vs) = v + sum vs

-- no value is above `most`
unfoldable pub all_at_most : ℕ → List ℕ → Bool
all_at_most most [] = true
all_at_most most (v ∷ vs) = leb v most && all_at_most most vs

-- of lists and tables of any size: a weighted sum adds up the products, with ones for weights it is the plain sum, and of tables whose rows of n
-- values stand one after the other it is the sum over rows t and places i; proofs/Tables.antt proves it
pub record EverySum : Type 0 where
  pub of_products : (w v : List ℕ) → sum (products w v) ≡ weighted w v
  pub of_ones : (n : ℕ) (v : List ℕ) → length v ≤ n → weighted (replicate n 1) v ≡ sum v
  pub of_rows : (n rows : ℕ) (w v : List ℕ) → length w ≡ rows * n → length v ≡ rows * n →
      weighted w v ≡ sum_below (λ t. sum_below (λ i. get_or w (t * n + i) 0 * get_or v (t * n + i) 0) n) rows
