-- `forecast::may_forecast` meets its contract: number 15 comes after those of an open. Assumes nothing.
use Rattle.words.proofs.Answers.{refused_on, after_first, after_next}
use Rattle.forecast.specs.Forecast.{forecast_checked}
use Rattle.forecast.proofs.may_forecast.Goals as goal

pub returns-in_err-accepted-clause-value : goal.returns-in_err-accepted-clause-value
unfolding forecast_checked
returns-in_err-accepted-clause-value c = refused_on _ _ _ _ c.from_residual.ensures.1 (after_first _ _ _ _ c.in_err-accepted.ensures.value)

pub returns-in_err-check_output-clause-value : goal.returns-in_err-check_output-clause-value
unfolding forecast_checked
returns-in_err-check_output-clause-value c =
    let fits = c.in_ok-accepted.ensures in
    refused_on _ _ _ _ c.from_residual-in_err-check_output.ensures.1 (after_next _ _ _ _ fits.value (rw fits.same_words at c.in_err-check_output.ensures))

pub returns-clause-value : goal.returns-clause-value
unfolding forecast_checked
returns-clause-value c =
    let fits = c.in_ok-accepted.ensures in
    after_next _ _ _ _ fits.value (rw fits.same_words at c.in_ok-check_output.ensures)
