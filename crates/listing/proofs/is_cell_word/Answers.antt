-- `listing::is_cell_word` meets its contract: the depth's word comes first, and the other is the area's. Assumes nothing.
use mathlib.Core.Path.{◌∙◌}
use native.Mathlib.Omega.{arith}
use Rattle.listing.proofs.Accepted.{not_depth}
use Rattle.listing.proofs.is_cell_word.Goals as goal

pub returns : goal.returns
returns c = c.is_area_word.ensures ∙ not_depth _ _ _ _ (λ e. omega arith)
