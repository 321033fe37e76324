-- `fields::is_above` meets its contract: the order of terms is that of a number. Assumes nothing.
use mathlib.Core.Path.{ap₂, ◌∙◌}
use lib.Dec.{ltb}
use Rattle.fields.proofs.Valid.{above_order}
use Rattle.fields.proofs.is_above.Goals as goal

pub returns : goal.returns
returns c = ap₂ ltb c.term_order.ensures c.term_order-2.ensures ∙ above_order _ _
