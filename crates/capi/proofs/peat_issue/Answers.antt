-- `capi::peat_issue` meets its contract: the answer is exported as it is, and the book is as the call leaves it. Assumes nothing.
use mathlib.Core.Path.{ap, ◌∙◌}
use Rattle.words.proofs.Effect.{effect_answer, effect_book}
use Rattle.capi.specs.Exported.{exported}
use Rattle.capi.proofs.peat_issue.Goals as goal

pub returns : goal.returns
returns c = let e = c.issue.ensures in record { value = c.from.ensures ∙ ap exported (effect_answer e); new_book = effect_book e }
