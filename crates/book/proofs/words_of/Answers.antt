-- `book::words_of` meets its contract: the part begins where the cell does. Assumes nothing.
use native.Mathlib.Nat.{add-sub_cancel_left}
use Rattle.book.proofs.words_of.Goals as goal

pub returns : goal.returns
returns c = rw (c.entry_at-a.ensures, add-sub_cancel_left)
