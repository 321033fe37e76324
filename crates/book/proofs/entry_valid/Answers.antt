-- `book::entry_valid` meets its contract: its tests are those of the cell's words. Assumes nothing.
use mathlib.Core.Path.{sym, ◌∙◌}
use mathlib.Core.Bool.{◌&&◌}
use Rattle.words.proofs.Answers.{and_left, and_right}
use Rattle.book.proofs.Valid.{entry_all}
use Rattle.book.proofs.entry_valid.Goals as goal

pub returns : goal.returns
returns c t =
    let both = and_left (c.is_plan_word-plan.result && c.is_of-oxidised.result) _ t in
    entry_all _ _ _ _
    (sym c.is_plan_word-plan.ensures ∙ and_left c.is_plan_word-plan.result _ both)
    (sym c.is_of-oxidised.ensures ∙ and_right c.is_plan_word-plan.result _ both)
    (sym (rw c.most_loss.ensures at c.is_burned_word.ensures) ∙ and_right (c.is_plan_word-plan.result && c.is_of-oxidised.result) _ t)
