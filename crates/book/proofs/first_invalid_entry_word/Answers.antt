-- `book::first_invalid_entry_word` meets its contract: its tests are those of the cell's words, in their order. Assumes nothing.
use mathlib.Core.Path.{◌≡◌, ◌∙◌}
use Prim.Native.Nat.{◌≤◌}
use native.Mathlib.Omega.{arith}
use lib.ListN.{length}
use Rattle.words.proofs.Steps.{Passed, passed_none, passed_on, passed_failed, passed_all}
use Rattle.book.specs.Check.{entry_word_valid}
use Rattle.book.proofs.first_invalid_entry_word.Goals as goal
use Rattle.book.proofs.first_invalid_entry_word.Goals.{Else-not-is_of, Else-not-is_plan_word, Start}

enough : (s : Start) → (3 ≤ length s.args.entry.now) × (length s.args.entry.now ≤ 3)
enough s = (s.requires.least, s.requires.most)

-- the words before were valid
module _ (c : Else-not-is_plan_word) where
  one : Passed (entry_word_valid c.args.h c.args.c c.args.entry.now) 0 (length c.args.entry.now) 1
  unfolding entry_word_valid
  one = passed_on _ passed_none (omega (arith, enough (goal.at.Else-not-is_plan_word c).Start)) c.is_plan_word.ensures c.if-not-is_plan_word.false

module _ (c : Else-not-is_of) where
  two : Passed (entry_word_valid c.args.h c.args.c c.args.entry.now) 0 (length c.args.entry.now) 2
  unfolding entry_word_valid
  two = passed_on _ (one (goal.at.Else-not-is_of c).Else-not-is_plan_word) (omega (arith, enough (goal.at.Else-not-is_of c).Start)) c.is_of.ensures c.if-not-is_of.false

pub returns-then-not-is_plan_word : goal.returns-then-not-is_plan_word
unfolding entry_word_valid
returns-then-not-is_plan_word c = passed_failed _ passed_none (omega (arith, enough (goal.at.returns-then-not-is_plan_word c).Start)) c.is_plan_word.ensures c.if-not-is_plan_word.true

pub returns-then-not-is_of : goal.returns-then-not-is_of
unfolding entry_word_valid
returns-then-not-is_of c =
    passed_failed _ (one (goal.at.returns-then-not-is_of c).Else-not-is_plan_word) (omega (arith, enough (goal.at.returns-then-not-is_of c).Start)) c.is_of.ensures c.if-not-is_of.true

pub returns-then-not-is_burned_word : goal.returns-then-not-is_burned_word
unfolding entry_word_valid
returns-then-not-is_burned_word c =
    passed_failed _ (two (goal.at.returns-then-not-is_burned_word c).Else-not-is_of) (omega (arith, enough (goal.at.returns-then-not-is_burned_word c).Start))
    (rw c.most_loss.ensures at c.is_burned_word.ensures) c.if-not-is_burned_word.true

pub returns : goal.returns
unfolding entry_word_valid
returns c =
    let size = enough (goal.at.returns c).Start in
    let three : length c.args.entry.now ≡ 3 = omega (arith, size) in
    let last = passed_on _ (two (goal.at.returns c).Else-not-is_of) (omega (arith, size)) (rw c.most_loss.ensures at c.is_burned_word.ensures) c.if-not-is_burned_word.false in
    three ∙ passed_all last (omega (arith, size))
