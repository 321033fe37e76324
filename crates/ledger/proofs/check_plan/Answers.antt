-- `ledger::check_plan` meets its contract: its tests are the definition's, one after the other. Assumes nothing.
use mathlib.Core.Path.{◌≡◌, ap₂, ◌∙◌}
use mathlib.Core.Bool.{Bool, ◌&&◌, ◌||◌}
use Prim.Native.Nat.{ℕ}
use lib.Dec.{eqb, ltb, leb}
use Rattle.words.proofs.Answers.{refused_on, need_stops, need_passes}
use Rattle.fields.specs.declared.Head.{Head}
use Rattle.year.specs.Year.{unconverted}
use Rattle.year.specs.declared.Entry.{Entry}
use Rattle.book.specs.Current.{entry}
use Rattle.book.specs.Layout.{year}
use Rattle.ledger.specs.Calls.{ahead, plan_checked}
use Rattle.ledger.proofs.check_plan.Goals as goal
use Rattle.ledger.proofs.check_plan.Goals.{After-unconverted}

-- the two tests, as the program makes them
module _ (c : After-unconverted) where
  test12 : c.unconverted.result ≡ unconverted (entry c.args.book.now.words.now c.args.cell).plan (year c.args.book.now.words.now)
  test12 = c.unconverted.ensures ∙ ap₂ (λ (e : Entry) (t : ℕ). unconverted e.plan t) c.entry-e.ensures c.year-current.ensures

  abbrev test : ℕ → Head → Bool
  test t h = let y = c.args.year in eqb y 0 || (ltb t y && leb y h.horizon)

test13 : (c : After-unconverted) → test c c.year-current.result c.args.book.now.listing.figures ≡ ahead c.args.book.now.listing.words.now c.args.book.now.words.now c.args.year
unfolding ahead
test13 c = ap₂ (test c) c.year-current.ensures c.args.book.now.listing.is_head

pub returns-in_err-need : goal.returns-in_err-need
unfolding plan_checked
returns-in_err-need c =
    refused_on _ _ _ _ c.from_residual.ensures.1 (need_stops _ _ _ _ _ _ (rw (test12 (goal.at.returns-in_err-need c).After-unconverted) at c.in_err-need.ensures))

pub returns : goal.returns
unfolding plan_checked
returns c =
    let tests = (goal.at.returns c).After-unconverted in
    need_passes _ _ _ _ _ _ (rw (test12 tests) at c.in_ok-need.ensures) (rw (test13 tests) at c.need-2.ensures)
