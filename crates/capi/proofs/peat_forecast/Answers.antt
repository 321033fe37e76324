-- `capi::peat_forecast` meets its contract: the answer is exported as it is, and both slices are as the call leaves them. Assumes nothing.
use mathlib.Core.Path.{ap, ◌∙◌}
use Rattle.words.proofs.Effect.{effect_answer, effect_book, effect_output}
use Rattle.capi.specs.Exported.{exported_total}
use Rattle.capi.proofs.peat_forecast.Goals as goal

pub returns : goal.returns
returns c = let e = c.forecast.ensures in record { value = c.from.ensures ∙ ap exported_total (effect_answer e); new_book = effect_book e; new_output = effect_output e }
