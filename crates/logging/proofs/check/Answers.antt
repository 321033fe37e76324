-- `logging::check` meets its contract: its tests are the definition's, one after the other. Assumes nothing.
use Rattle.std.proofs.Common.{◌≡◌, ◌∙◌, ap, ℕ, Bool}
use Rattle.words.specs.Answers.{Answer, accepted, need}
use Rattle.words.proofs.Answers.{refused_on, need_stops, need_passes}
use Rattle.logging.specs.Logging.{tables_checked}
use Rattle.logging.proofs.check.Goals as goal
use Rattle.logging.proofs.check.Goals.{In_ok-need, In_ok-need-2, In_ok-need-3}

-- what the answer to a flag says of the test that gave it
by : (v : Answer) (flag ok : Bool) (n k : ℕ) → v ≡ need flag n k (accepted 0) → flag ≡ ok → v ≡ need ok n k (accepted 0)
by v flag ok n k e q = e ∙ ap (λ (b : Bool). need b n k (accepted 0)) q

-- each refusal by name, so that another place or another test is refused in its own place
pub returns-in_err-need : goal.returns-in_err-need
unfolding tables_checked
returns-in_err-need c = refused_on _ _ _ _ c.from_residual.ensures.1 (need_stops _ _ _ _ _ _ (by _ _ _ _ _ c.in_err-need.ensures c.sizes_valid-sizes.ensures))

pub returns-in_err-need-2 : goal.returns-in_err-need-2
unfolding tables_checked
returns-in_err-need-2 c =
    refused_on _ _ _ _ c.from_residual-in_err-need-2.ensures.1
    (need_passes _ _ _ _ _ _ (by _ _ _ _ _ c.in_ok-need.ensures c.sizes_valid-sizes.ensures)
    (need_stops _ _ _ _ _ _ (by _ _ _ _ _ c.in_err-need-2.ensures c.all_at_most-valid.ensures)))

pub returns-in_err-need-3 : goal.returns-in_err-need-3
unfolding tables_checked
returns-in_err-need-3 c =
    refused_on _ _ _ _ c.from_residual-in_err-need-3.ensures.1
    (need_passes _ _ _ _ _ _ (by _ _ _ _ _ c.in_ok-need.ensures c.sizes_valid-sizes.ensures)
    (need_passes _ _ _ _ _ _ (by _ _ _ _ _ c.in_ok-need-2.ensures c.all_at_most-valid.ensures)
    (need_stops _ _ _ _ _ _ (by _ _ _ _ _ c.in_err-need-3.ensures c.all_at_most-valid-2.ensures))))

pub returns : goal.returns
unfolding tables_checked
returns c =
    need_passes _ _ _ _ _ _ (by _ _ _ _ _ c.in_ok-need.ensures c.sizes_valid-sizes.ensures)
    (need_passes _ _ _ _ _ _ (by _ _ _ _ _ c.in_ok-need-2.ensures c.all_at_most-valid.ensures)
    (need_passes _ _ _ _ _ _ (by _ _ _ _ _ c.in_ok-need-3.ensures c.all_at_most-valid-2.ensures)
    (by _ _ _ _ _ c.need-4.ensures c.all_at_most-valid-3.ensures)))
