-- `book::put_entry` meets its contract: all of the cell's words are written. Assumes nothing.
use mathlib.Core.Path.{◌≡◌}
use Prim.Native.Nat.{◌<◌}
use native.Mathlib.Omega.{arith}
use lib.ListN.{length}
use borrow.Author.Rules.{rules}
use Rattle.words.proofs.Blocks.{all_set}
use Rattle.book.specs.Layout.{held_words}
use Rattle.book.proofs.put_entry.Goals as goal

pub bounds-words-1 : goal.bounds-words-1
bounds-words-1 c =
    let capacity : 1 < length c.args.words.now = omega arith in
    search rules

pub returns : goal.returns
unfolding held_words
returns c =
    let sized = c.requires.0 in
    let three : length c.args.words.now ≡ 3 = omega arith in
    rw (c.plan_word.ensures, c.word.ensures, c.word-2.ensures, three) (all_set (held_words 3 c.args.e) c.args.words.now three)
