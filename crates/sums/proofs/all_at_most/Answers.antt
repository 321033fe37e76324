-- `sums::all_at_most` meets its contract: it makes the definition's test of each value. Assumes nothing.
use Rattle.std.proofs.Common.{rules, ◌∙◌}
use Rattle.std.proofs.lemmas.Iterator.{YieldsList-from_slice}
use Rattle.std.proofs.lemmas.Iterator.Search.{all_from_yields_List}
use Rattle.std.proofs.Math.Dec.{leb}
use borrow.Author.Tests.{tests}
use Rattle.sums.proofs.Steps.{all_at_most_by}
use Rattle.sums.proofs.all_at_most.Goals as goal

pub returns : goal.returns
returns c =
    all_from_yields_List (λ x. leb x c.args.most) _ _ _ c.all.ensures.ran (YieldsList-from_slice c.args.values.now cc) (λ x b q k. (search rules, search (rules, tests)))
    ∙ all_at_most_by c.args.most c.args.values.now
