-- `forecast::forecast` meets its contract: nothing is written before every test was passed, and then all that the closings leave. Assumes nothing.
use mathlib.Core.Path.{sym, ap, ◌∙◌}
use Rattle.words.specs.Answers.{accepted}
use Rattle.words.proofs.Answers.{after_first, after_next}
use Rattle.words.proofs.Effect.{commit_both_passed, commit_both_refused}
use Rattle.forecast.specs.Forecast.{forecast_answer, forecast_effect}
use Rattle.forecast.proofs.EveryYear.{forecast_fits, ready}
use Rattle.forecast.proofs.Running.{ran_years, output_is, last_total}
use Rattle.forecast.proofs.forecast.Goals as goal

pub write_years-requires : goal.write_years-requires
write_years-requires c = let may = c.in_ok-accepted.ensures in rw may.same_words (ready _ _ _ _ may.value)

pub returns-in_err-accepted : goal.returns-in_err-accepted
unfolding forecast_effect forecast_answer
returns-in_err-accepted c = commit_both_refused _ _ _ _ c.from_residual.ensures.1 (after_first _ _ _ _ c.in_err-accepted.ensures.value) _ _ _ _

pub returns : goal.returns
unfolding forecast_effect forecast_answer
returns c =
    let may = c.in_ok-accepted.ensures in
    let fits = forecast_fits _ _ _ _ may.value in
    let ran = rw may.same_words at c.write_years.ensures in
    commit_both_passed _ _ (after_next _ _ _ _ may.value (ap accepted (ran.value ∙ sym (last_total _ _ fits)))) _ _ _ _ _ _
    (ran.new_book ∙ sym (ran_years _ _ fits)) (ran.new_output ∙ sym (output_is _ _ fits _))
