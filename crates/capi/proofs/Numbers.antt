-- Every call's answer has number 0 exactly where it is accepted: a refusal's number is one of the table's, 1 to 24. Assumes nothing.
use mathlib.Core.Path.{refl, sym, ◌∙◌}
use mathlib.Core.Bool.{Bool}
use mathlib.Core.List.{List}
use Prim.Native.Nat.{ℕ, zero, suc, ◌≤◌}
use native.Mathlib.Omega.{arith}
use borrow.Author.Tests.{ne_eqb, eqb-false}
use lib.Ieee.{Float}
use Rattle.words.proofs.Signed.{by_test}
use Rattle.words.specs.Answers.{Answer, accepted, refused, need, need_none, after}
use Rattle.words.proofs.Answers.{need_either, need_none_either, after_either}
use Rattle.listing.specs.Check.{checked}
use Rattle.listing.proofs.Numbers.{checked_either}
use Rattle.book.specs.Layout.{issued_in_one_word}
use Rattle.book.specs.Current.{current}
use Rattle.book.specs.Check.{capacity_checked, fitted, book_checked, admitted}
use Rattle.book.specs.declared.Shape.{Shape}
use Rattle.closing.specs.Closing.{lines_checked, year_checked, close_answer}
use Rattle.converting.specs.Converting.{convert_answer}
use Rattle.ledger.specs.Calls.{open_effect, convert_effect, close_effect, cell_checked, admitted_cell, mark_checked, admitted_unwithdrawn, plan_checked, replan_answer, replan_effect}
use Rattle.ledger.specs.Calls.{withdraw_effect, issue_answer, issue_effect, statement_answer}
use Rattle.forecast.specs.Forecast.{output_checked, forecast_checked, forecast_answer, forecast_effect}
use Rattle.reading.specs.Depth.{core, levels, depth}
use Rattle.reading.specs.declared.Reading.{Reading}
use Rattle.reading.specs.declared.Reading.TheVariants.{Core, Levels, Missing}
use Rattle.dips.specs.Dips.{Recorded, dip, reading_checked, dip_checked, readings_checked, dips_checked, dips}
use Rattle.discount.specs.Discount.{discount}
use Rattle.logging.specs.Logging.{tables_checked, logged}
use Rattle.capi.specs.Exported.{Numbered, EveryNumber}

-- ---- no test, and one test more

none : (v : ℕ) → Numbered (accepted v)
none v = record { exactly = refl }

refusal : (n k : ℕ) → 1 ≤ n → Numbered (refused n k)
refusal n k h = record { exactly = sym (ne_eqb n 0 (λ e. omega arith)) }

needed : (ok : Bool) (n k : ℕ) (next : Answer) → 1 ≤ n → Numbered next → Numbered (need ok n k next)
needed ok n k next h = need_either Numbered ok n k next (refusal n k h)

searched : (n place end : ℕ) (next : Answer) → 1 ≤ n → Numbered next → Numbered (need_none n place end next)
searched n place end next h = need_none_either Numbered n place end next (refusal n place h)

then : (before next : Answer) → Numbered before → Numbered next → Numbered (after before next)
then = after_either Numbered

-- ---- the chain of tests

listing_numbered : (l : List ℕ) → Numbered (checked l)
listing_numbered = checked_either Numbered (λ n k low _. refusal n k low) (none 0)

module _ (s : Shape) (l b : List ℕ) where
  capacity_numbered : Numbered (capacity_checked s l b)
  unfolding capacity_checked
  capacity_numbered = needed _ 6 _ _ (omega arith) (none _)

  fitted_numbered : Numbered (fitted s l b)
  unfolding fitted
  fitted_numbered = then _ _ (listing_numbered l) capacity_numbered

  book_numbered : Numbered (book_checked s l b)
  unfolding book_checked
  book_numbered = searched 8 _ _ _ (omega arith) (none _)

  admitted_numbered : Numbered (admitted s l b)
  unfolding admitted
  admitted_numbered = then _ _ fitted_numbered book_numbered

admitted_cell_numbered : (l b : List ℕ) (i : ℕ) → Numbered (admitted_cell l b i)
unfolding admitted_cell cell_checked
admitted_cell_numbered l b i = then _ _ (admitted_numbered current l b) (needed _ 10 _ _ (omega arith) (none _))

unwithdrawn_numbered : (l b : List ℕ) (i : ℕ) → Numbered (admitted_unwithdrawn l b i)
unfolding admitted_unwithdrawn mark_checked
unwithdrawn_numbered l b i = then _ _ (admitted_cell_numbered l b i) (needed _ 11 _ _ (omega arith) (none _))

depth_numbered : (reading : Reading) → Numbered (depth reading)
unfolding core levels
depth_numbered (Core x) = needed _ 16 _ _ (omega arith) (needed _ 17 _ _ (omega arith) (none _))
depth_numbered (Levels surface base) =
    needed _ 16 _ _ (omega arith) (needed _ 16 _ _ (omega arith) (needed _ 17 _ _ (omega arith) (needed _ 17 _ _ (omega arith) (needed _ 17 _ _ (omega arith) (none _)))))
depth_numbered Missing = record { exactly = refl }

-- a reading of a dip is refused by the number of its core depth
reading_numbered : (k : ℕ) (x : Float) → Numbered (reading_checked k x)
unfolding reading_checked need
reading_numbered k x =
    by_test Numbered (core x).done (accepted 0) (refused (core x).number k) (λ _. none 0)
    (λ e. let other = eqb-false (core x).number 0 (sym (depth_numbered (Core x)).exactly ∙ e) in refusal (core x).number k (omega arith))

readings_numbered : (r : Recorded) (k n : ℕ) → Numbered (readings_checked r k n)
unfolding readings_checked dip_checked
readings_numbered r k zero = none 0
readings_numbered r k (suc n) =
    let d = dip r k in
    then _ _ (then _ _ (reading_numbered k d.depth) (reading_numbered k d.tolerance)) (readings_numbered r (suc k) n)

pub every_number : EveryNumber
unfolding open_effect convert_effect convert_answer close_effect close_answer lines_checked year_checked replan_effect replan_answer plan_checked withdraw_effect issue_effect
    issue_answer statement_answer forecast_effect forecast_answer forecast_checked output_checked discount logged tables_checked dips dips_checked
every_number =
    record {
      of_open = fitted_numbered current;
      of_convert =
          λ l old new. then _ _ (fitted_numbered issued_in_one_word l old) (then _ _ (capacity_numbered current l new) (book_numbered issued_in_one_word l old));
      of_close =
          λ l b x. then _ _ (fitted_numbered current l b)
          (then _ _ (needed _ 7 _ _ (omega arith) (none _)) (then _ _ (book_numbered current l b) (needed _ 9 _ _ (omega arith) (searched 14 _ _ _ (omega arith) (none _)))));
      of_replan = λ l b i y. then _ _ (unwithdrawn_numbered l b i) (needed _ 12 _ _ (omega arith) (needed _ 13 _ _ (omega arith) (none _)));
      of_withdraw = unwithdrawn_numbered;
      of_issue = λ l b. then _ _ (admitted_numbered current l b) (none _);
      of_statement = admitted_cell_numbered;
      of_forecast = λ l b x. then _ _ (then _ _ (fitted_numbered current l b) (needed _ 15 _ _ (omega arith) (none _))) (none _);
      of_depth = depth_numbered;
      of_discount = λ a b c d. needed _ 19 _ _ (omega arith) (needed _ 20 _ _ (omega arith) (needed _ 20 _ _ (omega arith) (needed _ 20 _ _ (omega arith) (needed _ 20 _ _ (omega arith) (none _)))));
      of_logged = λ T n a b c. needed _ 21 _ _ (omega arith) (needed _ 22 _ _ (omega arith) (needed _ 22 _ _ (omega arith) (needed _ 22 _ _ (omega arith) (none _))));
      of_dips =
          λ first second. needed _ 23 _ _ (omega arith)
          (needed _ 23 _ _ (omega arith)
          (searched 24 _ _ _ (omega arith) (searched 24 _ _ _ (omega arith) (then _ _ (readings_numbered first 0 _) (readings_numbered second 0 _)))));
    }
