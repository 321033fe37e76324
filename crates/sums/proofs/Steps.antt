-- A list, one value at a time from the front: what a loop has left. Assumes nothing.
use Rattle.std.proofs.Common.{◌≡◌, refl, ℕ, ◌+◌, ◌*◌, ◌<◌, ◌≤◌, List, [], ◌∷◌, length, get_or, drop, arith}
use Rattle.std.proofs.Math.Dec.{leb}
use Rattle.std.proofs.lemmas.List.{drop_more, drop_all}
use Rattle.std.specs.List.{list_all}
use Rattle.sums.specs.Sums.{weighted, all_at_most}
use Rattle.sums.proofs.Meaning.{weighted_nothing}

-- the product at i is the first of what is left
pub weighted_here : (w v : List ℕ) (i : ℕ) → length v ≤ length w → i < length v →
    weighted (drop i w) (drop i v) ≡ get_or w i 0 * get_or v i 0 + weighted (drop (i + 1) w) (drop (i + 1) v)
unfolding weighted
weighted_here w v i hw hv = rw (drop_more w i 0 (omega arith), drop_more v i 0 hv)

-- nothing is left at the end
pub weighted_end : (w v : List ℕ) (i : ℕ) → length v ≤ i → weighted (drop i w) (drop i v) ≡ 0
weighted_end w v i h = rw (drop_all i v h) (weighted_nothing (drop i w))

-- the bound in the library's word
pub all_at_most_by : (most : ℕ) (v : List ℕ) → list_all (λ x. leb x most) v ≡ all_at_most most v
unfolding all_at_most
all_at_most_by most [] = refl
all_at_most_by most (x ∷ v) = rw (all_at_most_by most v)
