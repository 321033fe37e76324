-- `listing::cells_valid` meets its contract: while `valid` is true, the search has come to cell `i`. Assumes nothing.
use mathlib.Core.Path.{◌≡◌, ◌∙◌}
use mathlib.Core.Bool.{Bool, ◌&&◌}
use mathlib.Core.List.{List}
use Prim.Native.Nat.{ℕ, ◌+◌, ◌*◌, ◌<◌}
use Rattle.std.proofs.Common.{add-zero}
use native.Mathlib.Omega.{arith}
use lib.ListN.{get_or}
use Rattle.words.proofs.Steps.{ValidSoFar, so_far_none, so_far_more, so_far_all}
use Rattle.fields.specs.Words.{is_depth_word, is_area_word}
use Rattle.listing.specs.Layout.{cell_words}
use Rattle.listing.specs.Check.{cell_word_valid}
use Rattle.listing.proofs.Accepted.{offset_depth, offset_area}
use Rattle.listing.proofs.cells_valid.Goals as goal

-- a cell on, with what the program's tests of its two words gave
cell_more : (l : List ℕ) (strata horizon start end i : ℕ) (valid depth area : Bool) → ValidSoFar (cell_word_valid l strata horizon start) start end (start + cell_words * i) valid →
    start + cell_words * i + 1 < end →
    depth ≡ is_depth_word strata horizon (get_or l (start + cell_words * i) 0) → area ≡ is_area_word (get_or l (start + cell_words * i + 1) 0) →
    ValidSoFar (cell_word_valid l strata horizon start) start end (start + cell_words * (i + 1)) (valid && depth && area)
cell_more l strata horizon start end i valid depth area p lt d a =
    let here : depth ≡ cell_word_valid l strata horizon start (start + cell_words * i) = d ∙ offset_depth _ _ _ _ (omega arith) in
    let next : area ≡ cell_word_valid l strata horizon start (start + cell_words * i + 1) = a ∙ offset_area _ _ _ _ (omega arith) in
    let two : start + cell_words * i + 1 + 1 ≡ start + cell_words * (i + 1) = omega arith in
    rw two at (so_far_more _ _ (so_far_more _ _ p (omega arith) here) lt next)

pub loop-i-preserved : goal.loop-i-preserved
loop-i-preserved c =
    cell_more _ _ _ _ _ _ _ _ _ c.loop-i.invariant (omega arith) c.is_depth_word-valid.ensures c.is_area_word-valid.ensures

pub loop-i-init : goal.loop-i-init
loop-i-init c = rw add-zero so_far_none

pub returns : goal.returns
returns c t = so_far_all _ c.loop-i.invariant (omega arith) (omega arith) t
