-- Two answers that are the same but for the place, test by test. Assumes nothing.
use mathlib.Core.Path.{◌≡◌, refl, sym, ◌∙◌}
use mathlib.Core.Bool.{Bool, true}
use Prim.Native.Nat.{ℕ, ◌≤◌, ◌<◌}
use Rattle.words.specs.Answers.{Answer, refused, need, need_all}
use Rattle.words.proofs.Answers.{need_both, need_all_both}
use Rattle.order.specs.Order.{ButForPlace}

pub alike_same : (a : Answer) → ButForPlace a a
alike_same a = record { done_is = refl; number_is = refl; value_is = refl }

refused_alike : (n k k' : ℕ) → ButForPlace (refused n k) (refused n k')
refused_alike n k k' = record { done_is = refl; number_is = refl; value_is = refl }

pub need_alike : (ok : Bool) (n k k' : ℕ) (next next' : Answer) → ButForPlace next next' → ButForPlace (need ok n k next) (need ok n k' next')
need_alike ok n k k' next next' e = need_both ButForPlace ok ok n k k' next next' refl (refused_alike n k k') (λ _. e)

-- all places of a range are valid
abbrev pub AllValid : (ℕ → Bool) → ℕ → ℕ → Type 0
AllValid valid from to = (k : ℕ) → from ≤ k → k < to → valid k ≡ true

module _ (n : ℕ) (valid valid' : ℕ → Bool) (from to : ℕ) (next next' : Answer) where
  -- two searches, where all are valid in the one if they are in the other
  pub every_alike : (AllValid valid from to → AllValid valid' from to) → (AllValid valid' from to → AllValid valid from to) →
      ButForPlace next next' → ButForPlace (need_all n valid from to next) (need_all n valid' from to next')
  every_alike f g e = need_all_both ButForPlace n valid valid' from to next next' f g (refused_alike n _ _) (λ _. e)

  -- where the tests are the same
  pub every_tested : ((k : ℕ) → from ≤ k → k < to → valid' k ≡ valid k) → ButForPlace next next' → ButForPlace (need_all n valid from to next) (need_all n valid' from to next')
  every_tested same = every_alike (λ all k lo hi. same k lo hi ∙ all k lo hi) (λ all k lo hi. sym (same k lo hi) ∙ all k lo hi)
