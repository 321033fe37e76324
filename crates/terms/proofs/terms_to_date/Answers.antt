-- `terms::terms_to_date` meets its contract: the terms are what follows the cells, and those to date come first. Assumes nothing.
use mathlib.Core.Path.{◌∙◌}
use Rattle.terms.proofs.Sums.{first_all, first_up_to, first_most}
use Rattle.terms.proofs.terms_to_date.Goals as goal

pub term_sums-requires : goal.term_sums-requires
term_sums-requires c = rw c.offsets-start.ensures (first_most _ _ c.args.listing.now.accepted c.end_of_terms_to_date-end.ensures)

pub returns : goal.returns
returns c =
    let a = c.args.listing.now.accepted in
    let s = c.end_of_terms_to_date-end.ensures in
    let sums = rw c.offsets-start.ensures at c.term_sums.ensures in
    (sums.0 ∙ first_all _ _ a s, sums.1 ∙ first_up_to _ _ a s 5)
