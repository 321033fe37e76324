-- `book::FittedBook::first_invalid_head_word` meets its contract: the search finds the first place that is invalid. Assumes nothing.
use native.Mathlib.Omega.{arith}
use Rattle.words.proofs.Meaning.{search_gives}
use Rattle.book.specs.Check.{head_word_valid}
use Rattle.book.proofs.FittedBook.first_invalid_head_word.Goals as goal

pub returns : goal.returns
returns c =
    let e = c.first_invalid.ensures in
    let self = c.args.self.now in
    search_gives (head_word_valid self.listing.figures.horizon self.words.now) 0 self.shape.head _ (omega arith) e.high (λ k p q. e.before k (omega arith) q) e.invalid
