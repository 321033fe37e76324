-- What the definition `greatest` means: the number passes, and no greater one up to the top does. Assumes nothing.
use mathlib.Core.Path.{◌≡◌, refl, subst⁻¹}
use mathlib.Core.Bool.{Bool, true, false, cond}
use mathlib.Core.Logic.{⊎_elim}
use Prim.Native.Nat.{ℕ, zero, suc, ◌<◌, ◌≤◌}
use native.Mathlib.Nat.{eq-or-lt_of_le}
use native.Mathlib.Omega.{arith}
use Rattle.discount.specs.Discount.{greatest}

pub record Greatest (passes : ℕ → Bool) (top n : ℕ) : Type 0 where
  pub within : n ≤ top
  pub itself : passes n ≡ true
  pub above : (m : ℕ) → n < m → m ≤ top → passes m ≡ false

module _ (passes : ℕ → Bool) where
  counted : (top : ℕ) (b : Bool) → passes (suc top) ≡ b → Greatest passes top (greatest passes top) → Greatest passes (suc top) (cond b (suc top) (greatest passes top))
  counted top true e g = record { within = omega arith; itself = e; above = λ m h₁ h₂. absurd (omega arith) }
  counted top false e g =
      let w = g.within in
      record {
        within = omega arith;
        itself = g.itself;
        above = λ m h₁ h₂. ⊎_elim (λ q. subst⁻¹ (λ (k : ℕ). passes k ≡ false) q e) (λ l. g.above m h₁ (omega arith)) (eq-or-lt_of_le h₂);
      }

  pub greatest_is : (top : ℕ) → passes 0 ≡ true → Greatest passes top (greatest passes top)
  unfolding greatest
  greatest_is zero h = record { within = omega arith; itself = h; above = λ m h₁ h₂. absurd (omega arith) }
  greatest_is (suc top) h = counted top (passes (suc top)) refl (greatest_is top h)
