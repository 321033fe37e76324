-- `year::loss_of` meets its contract: the kg of the year are those after it less those before it. Assumes nothing.
use Rattle.year.proofs.Laws.{loss_by}
use Rattle.year.proofs.loss_of.Goals as goal

pub returns : goal.returns
returns c = loss_by c.args.h c.args.c c.args.r c.args.e _ _ _ c.mm_of-m.ensures c.requires.2 c.emission-then.ensures
