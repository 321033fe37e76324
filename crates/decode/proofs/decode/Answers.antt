-- `decode::decode` meets its contract: iteration i stores word i. Assumes nothing.
use Rattle.std.proofs.Common.{◌≡◌, refl, ap, ℕ, ◌+◌, ◌*◌, ◌<◌, List, [], ◌∷◌, get_or, w32, arith}
use Rattle.std.proofs.Math.Nat.{add-zero}
use Rattle.std.specs.Int.{from_le_bytes}
use Rattle.std.specs.Simd.{first_chunks}
use Rattle.words.proofs.Chunks.{chunk_value}
use Rattle.words.proofs.Blocks.{filling_none, filling_stored, filling_all}
use Rattle.decode.specs.Decode.{word_at, decoded}
use Rattle.decode.proofs.decode.Goals as goal

-- four bytes make the word, as they lie in the list and in its chunk
bytes_of : (b : List ℕ) (k : ℕ) → from_le_bytes w32 (get_or b k 0 ∷ get_or b (k + 1) 0 ∷ get_or b (k + 2) 0 ∷ get_or b (k + 3) 0 ∷ []) ≡ word_at b k
unfolding word_at
bytes_of b k = omega arith

word_of : (n i : ℕ) (b : List ℕ) → i < n → from_le_bytes w32 (get_or (first_chunks 4 n b) i []) ≡ word_at b (4 * i)
word_of n i b h =
    let byte : (j : ℕ) → j < 4 → get_or (get_or (first_chunks 4 n b) i []) j 0 ≡ get_or b (4 * i + j) 0 = λ j k. chunk_value 4 n i j b h k in
    rw (byte 0 (omega arith), byte 1 (omega arith), byte 2 (omega arith), byte 3 (omega arith), add-zero) (bytes_of b (4 * i))

pub loop-i-init : goal.loop-i-init
loop-i-init c = filling_none (λ k. refl) (omega arith)

pub loop-i-preserved : goal.loop-i-preserved
loop-i-preserved c =
    let here = word_of _ c.loop-i.i c.args.bytes.now (rw c.as_chunks.ensures.front_len at c.loop-i-test.true) in
    let word : c.from_le_bytes.result ≡ word_at c.args.bytes.now (4 * c.loop-i.i) = cc (here, bytes_of c.args.bytes.now (4 * c.loop-i.i)) in
    filling_stored c.loop-i.invariant (omega arith) c.loop-i.i (omega arith) _ (ap (λ (w : ℕ). w ∷ []) word)

pub returns-clause-new_words : goal.returns-clause-new_words
unfolding decoded
returns-clause-new_words c = filling_all c.loop-i.invariant (omega arith)
