-- `decode::decode` meets its contract: iteration i stores word i. Assumes nothing.
use Rattle.std.proofs.Common.{◌*◌, ◌/◌, [], ◌∷◌, length}
use Rattle.words.proofs.Blocks.{Filling}
use Rattle.decode.specs.Decode.{word_at}
use Rattle.decode.proofs.decode.Given as goal

abbrev pub invariant-loop-i : goal.invariant-loop-i
invariant-loop-i l = Filling 1 l.initial.words 0 (λ k. word_at l.fn.bytes (4 * k) ∷ []) (length l.fn.bytes / 4) l.i l.words
