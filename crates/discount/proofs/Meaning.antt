-- What the definitions mean, in numbers: the four cases of the discount, and the theorem `EveryDiscount` of the last. Assumes nothing.
use mathlib.Core.Path.{◌≡◌, ap, subst, ◌∙◌}
use Prim.Native.Nat.{ℕ, ◌*◌, ◌<◌, ◌≤◌}
use native.Mathlib.Nat.{mul-le-mul, pos_of_ne-zero, le_antisymm, le_of_suc-le-suc, lt_of_not-le}
use native.Mathlib.Omega.{arith}
use borrow.Author.Tests.{eq-eqb, ne_eqb, leb-true, leb-false, le-leb, lt-leb}
use Rattle.discount.specs.Discount.{square, not_above, rounded_down, factor, RoundedDown, EveryDiscount}
use Rattle.discount.proofs.Greatest.{greatest_is}

module _ (Q D : ℕ) where
  pub rounded_down_lem : Q ≤ D * D → RoundedDown Q D (rounded_down Q D)
  unfolding not_above
  rounded_down_lem h =
      let first : 100000000 * Q ≤ square (10000 * D) = omega arith in
      let g = greatest_is (not_above Q D) 10000 (le-leb (100000000 * Q) (square (10000 * D)) first) in
      record { within = g.within; at_least = leb-true _ _ g.itself; above = λ m h₁ h₂. leb-false _ _ (g.above m h₁ h₂) }

  -- there is one such number
  no_greater : (n m : ℕ) → RoundedDown Q D n → RoundedDown Q D m → m ≤ n
  no_greater n m r s = le_of_suc-le-suc (lt_of_not-le (λ (l : n < m). omega (arith, r.above m l s.within, s.at_least)))

  pub rounded_down_only : (n : ℕ) → Q ≤ D * D → RoundedDown Q D n → n ≡ rounded_down Q D
  rounded_down_only n h r = le_antisymm (no_greater _ n (rounded_down_lem h) r) (no_greater n _ r (rounded_down_lem h))

  -- ---- the four cases, each where those before it do not hold
  pub no_distance : D ≡ 0 → 0 ≡ factor Q D
  unfolding factor
  no_distance d = rw (eq-eqb D 0 d)

  pub no_discount : (D ≡ 0 → ⊥) → 400 * Q ≤ 9 * D * D → 10000 ≡ factor Q D
  unfolding factor
  no_discount d h = rw (ne_eqb D 0 d, le-leb (400 * Q) (9 * D * D) h)

  pub too_wide : (D ≡ 0 → ⊥) → D * D ≤ Q → 0 ≡ factor Q D
  unfolding factor
  too_wide d k =
      let positive : 0 < D = pos_of_ne-zero d in
      let h : 9 * D * D < 400 * Q = omega (arith, mul-le-mul positive positive) in
      rw (ne_eqb D 0 d, lt-leb (400 * Q) (9 * D * D) h, le-leb (D * D) Q k)

  pub between : (D ≡ 0 → ⊥) → 9 * D * D < 400 * Q → Q < D * D → rounded_down Q D ≡ factor Q D
  unfolding factor
  between d h k = rw (ne_eqb D 0 d, lt-leb (400 * Q) (9 * D * D) h, lt-leb (D * D) Q k)

  -- so in the last case the discount is that number
  last : 9 * D * D < 400 * Q → Q < D * D → rounded_down Q D ≡ factor Q D
  last h k = between (λ e. omega (arith, ap (λ (x : ℕ). x * x) e)) h k

pub every_discount : EveryDiscount
every_discount =
    record {
      rounded = λ Q D h k. subst (RoundedDown Q D) (last Q D h k) (rounded_down_lem Q D (omega arith));
      only = λ Q D n h k r. rounded_down_only Q D n (omega arith) r ∙ last Q D h k;
    }

-- the four cases, by which the answers of `factor` are found
pub ruleset cases = (no_distance, no_discount, too_wide, between)
