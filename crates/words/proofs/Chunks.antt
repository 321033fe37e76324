-- A list cut into chunks of one size by the library. Assumes nothing.
use Rattle.std.proofs.Common.{◌≡◌, ap, ℕ, zero, suc, ◌+◌, ◌*◌, ◌<◌, List, [], get_or, drop, arith}
use Rattle.std.proofs.lemmas.List.{get_or-drop, get_or-take}
use Rattle.std.proofs.Math.Nat.{zero-add, mul-zero, mul-suc}
use Rattle.std.specs.Simd.{first_chunks}

-- value j of chunk i, where each has `size`
pub chunk_value : (size n i j : ℕ) (x : List ℕ) → i < n → j < size → get_or (get_or (first_chunks size n x) i []) j 0 ≡ get_or x (size * i + j) 0
chunk_value size zero i j x h k = absurd (omega arith)
chunk_value size (suc n) zero j x h k = rw (get_or-take, mul-zero, zero-add)
chunk_value size (suc n) (suc i) j x h k =
    rw (chunk_value size n i j (drop size x) (omega arith) k, get_or-drop) (ap (λ (at : ℕ). get_or x at 0) (omega (arith, mul-suc size i)))
