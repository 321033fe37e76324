-- `Tables::figures` meets its contract: the sums are those of EQ34 and EQ48. Assumes nothing.
use Rattle.std.proofs.Common.{◌∙◌, ap, drop}
use Rattle.sums.specs.Sums.{weighted, sum}
use Rattle.logging.proofs.Bounds.{stock_is, rest_all, left_is}
use Rattle.logging.proofs.Equations.{figures_by}
use Rattle.logging.proofs.Tables.figures.Goals as goal

pub returns : goal.returns
returns c =
    let a = c.args.self.now.accepted in
    let areas = c.args.self.now.areas.now in
    figures_by _ _ areas _ _ _ _ c.figures_from.result
    (c.sum-stock.ensures ∙ ap sum c.requires.products_are ∙ stock_is a) c.sum-area.ensures
    (c.weighted_sum-left.ensures ∙ ap (weighted areas) (rest_all _ c.args.discounted.now ∙ ap (drop _) c.requires.products_are) ∙ left_is a)
    c.figures_from.ensures.average c.figures_from.ensures.holds
