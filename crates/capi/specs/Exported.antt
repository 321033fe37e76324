-- How the answers of the calls cross to C and Rust: the paper's numbers, field by field.
use Rattle.std.specs.Prelude.{◌≡◌, List, ℕ, eqb}
use Rattle.std.specs.Option.{is_some, unwrap_or}
use Rattle.words.specs.Answers.{Answer, AnswerWith}
use Rattle.ledger.specs.Calls.{open_effect, convert_effect, close_effect, replan_effect, withdraw_effect, issue_effect, statement_answer}
use Rattle.ledger.specs.declared.CellFigures.{CellFigures}
use Rattle.forecast.specs.Forecast.{forecast_effect}
use Rattle.reading.specs.Depth.{depth}
use Rattle.reading.specs.declared.Reading.{Reading}
use Rattle.discount.specs.Discount.{discount}
use Rattle.dips.specs.Dips.{Recorded, dips}
use Rattle.dips.specs.declared.DipsFigures.{DipsFigures}
use Rattle.logging.specs.Logging.{logged}
use Rattle.logging.specs.declared.LoggedFigures.{LoggedFigures}
use Rattle.capi.specs.declared.Answer as c
use Rattle.capi.specs.declared.Account.{Account}
use Rattle.capi.specs.declared.Total.{Total}
use Rattle.capi.specs.declared.LoggedAnswer.{LoggedAnswer}
use Rattle.capi.specs.declared.DipsAnswer.{DipsAnswer}

-- number, place and value of an answer
abbrev pub exported : Answer → c.Answer
exported a = record { number = a.number; value = a.value; place = a.place }

-- number and place of a statement, and the figures of its account
abbrev pub exported_account : AnswerWith CellFigures → Account
exported_account t =
    record {
      number = t.answer.number;
      place = t.answer.place;
      entered = t.figures.entered;
      remaining = t.figures.remaining;
      oxidised = t.figures.oxidised;
      burned = t.figures.burned;
      kg = t.figures.kg;
      plan_year = t.figures.plan_year;
      withdrawn = t.figures.withdrawn;
    }

-- number and place of a forecast's answer, and its value as a total
abbrev pub exported_total : Answer → Total
exported_total a = record { number = a.number; place = a.place; total = a.value }

-- number and place of a test of logged blocks, and its figures
abbrev pub exported_logged : AnswerWith LoggedFigures → LoggedAnswer
exported_logged t = record { number = t.answer.number; place = t.answer.place; average = t.figures.average; holds = t.figures.holds }

-- number and place of two recordings held against each other, and their figures; day 0 where no day differs
abbrev pub exported_dips : AnswerWith DipsFigures → DipsAnswer
exported_dips t =
    record {
      number = t.answer.number;
      place = t.answer.place;
      paired = t.figures.paired;
      only_first = t.figures.only_first;
      only_second = t.figures.only_second;
      differs = is_some t.figures.first_differing;
      day = unwrap_or t.figures.first_differing 0;
    }

-- ---- what a caller may take number 0 for

-- an answer has number 0 exactly where the call was accepted
pub record Numbered (a : Answer) : Type 0 where
  pub exactly : a.done ≡ eqb a.number 0

-- every call answers so, whatever it is lent
pub record EveryNumber : Type 0 where
  pub of_open : (l b : List ℕ) → Numbered (open_effect l b).answer
  pub of_convert : (l old new : List ℕ) → Numbered (convert_effect l old new).answer
  pub of_close : (l b x : List ℕ) → Numbered (close_effect l b x).answer
  pub of_replan : (l b : List ℕ) (i y : ℕ) → Numbered (replan_effect l b i y).answer
  pub of_withdraw : (l b : List ℕ) (i : ℕ) → Numbered (withdraw_effect l b i).answer
  pub of_issue : (l b : List ℕ) → Numbered (issue_effect l b).answer
  pub of_statement : (l b : List ℕ) (i : ℕ) → Numbered (statement_answer l b i).answer
  pub of_forecast : (l b x : List ℕ) → Numbered (forecast_effect l b x).answer
  pub of_depth : (reading : Reading) → Numbered (depth reading)
  pub of_discount : (first_widths second_widths first_stocks second_stocks : List ℕ) → Numbered (discount first_widths second_widths first_stocks second_stocks)
  pub of_logged : (T strata : ℕ) (densities areas discounts : List ℕ) → Numbered (logged T strata densities areas discounts).answer
  pub of_dips : (first second : Recorded) → Numbered (dips first second).answer
