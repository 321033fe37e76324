-- `book::entry_at` meets its contract: the product fits. Assumes nothing.
use mathlib.Core.Path.{refl}
use borrow.Author.Rules.{rules}
use Rattle.book.proofs.Places.{size_small}
use Rattle.book.proofs.entry_at.Goals as goal

-- first, so that another place is refused here
pub returns : goal.returns
returns c = refl

pub overflow_mul-result : goal.overflow_mul-result
overflow_mul-result c =
    let most = size_small c.args.s c.requires.0 c.args.i c.requires.1 in
    search rules

pub overflow_add-result : goal.overflow_add-result
overflow_add-result c =
    let most = size_small c.args.s c.requires.0 c.args.i c.requires.1 in
    let head = c.requires.0.head in
    search rules
