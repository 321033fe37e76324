-- `listing::Listing::cell_at` meets its contract: all words of the cells are there, before the terms. Assumes nothing.
use mathlib.Core.Path.{◌≡◌, refl}
use Prim.Native.Nat.{◌+◌, ◌*◌, ◌<◌}
use native.Mathlib.Omega.{arith}
use lib.ListN.{length}
use Rattle.listing.specs.Layout.{cell_words, cell_at, latest_terms_at}
use Rattle.listing.proofs.Accepted.{cell_by}
use Rattle.listing.proofs.Listing.cell_at.Goals as goal
use Rattle.listing.proofs.Listing.cell_at.Goals.{After-offsets-s}

here : (c : After-offsets-s) →
    let l = c.args.self.now.words.now in
    (c.offsets-s.result.cells + cell_words * c.args.i ≡ cell_at l c.args.i) × (cell_at l c.args.i + 1 < length l) × (cell_at l c.args.i < latest_terms_at)
here c =
    let a = c.args.self.now.accepted in
    let at = cell_by _ _ _ refl c.offsets-s.ensures a c.args.i c.requires in
    (at.0, omega (arith, at.1, a.long), omega (arith, at.1, a.parts.terms_at_most))

pub overflow_mul-result : goal.overflow_mul-result
overflow_mul-result c = omega (arith, here (goal.at.overflow_mul-result c).After-offsets-s)

pub overflow_add-result : goal.overflow_add-result
overflow_add-result c = omega (arith, here (goal.at.overflow_add-result c).After-offsets-s)

pub returns : goal.returns
returns c = omega (arith, here (goal.at.returns c).After-offsets-s)
