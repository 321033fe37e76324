-- `book::put_payload` meets its contract: one word is stored. Assumes nothing.
use Rattle.book.proofs.put_payload.Goals as goal

pub returns : goal.returns
returns c = rw c.word.ensures
