-- `logging::logged` meets its contract: where the tables are not refused, their figures are answered. Assumes nothing.
use Rattle.std.proofs.Common.{sym, ap}
use lib.Seq.{length-take-le}
use Rattle.words.specs.Answers.{Answer}
use Rattle.logging.specs.Bounds.{Accepted}
use Rattle.logging.specs.Logging.{logged}
use Rattle.logging.proofs.Bounds.{accepted_by, densities_le, discounted_by}
use Rattle.words.proofs.Answers.{with_refused, with_passed}
use Rattle.logging.proofs.logged.Goals as goal
use Rattle.logging.proofs.logged.Goals.{In_ok-check}

tables : (c : In_ok-check) → Accepted c.args.years c.args.densities.now c.args.areas.now c.args.discounts.now
tables c = accepted_by _ _ _ _ _ (ap (λ (a : Answer). a.done) (sym c.in_ok-check.ensures))

pub returns-in_err-check : goal.returns-in_err-check
unfolding logged
returns-in_err-check c = with_refused _ _ _ _ _ c.from_residual.ensures.1 c.in_err-check.ensures

pub slice_bounds-buffer-end : goal.slice_bounds-buffer-end
slice_bounds-buffer-end c = densities_le (tables (goal.at.slice_bounds-buffer-end c).In_ok-check)

pub slice_bounds-discounted-end : goal.slice_bounds-discounted-end
slice_bounds-discounted-end c = sym (length-take-le _ _ (densities_le (tables (goal.at.slice_bounds-discounted-end c).In_ok-check)))

pub invariant_of-tables : goal.invariant_of-tables
invariant_of-tables c = record { accepted = tables (goal.at.invariant_of-tables c).In_ok-check }

pub figures-requires : goal.figures-requires
figures-requires c = discounted_by (tables (goal.at.figures-requires c).In_ok-check) _ c.discount_densities.ensures

pub returns : goal.returns
unfolding logged
returns c = with_passed _ _ _ _ c.in_ok-check.ensures c.figures.ensures
