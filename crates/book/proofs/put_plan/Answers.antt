-- `book::put_plan` meets its contract: the cell's first word is stored. Assumes nothing.
use Rattle.book.proofs.put_plan.Goals as goal

pub returns : goal.returns
returns c = rw (c.plan_word.ensures, c.entry_at-at.ensures)
