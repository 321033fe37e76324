-- `listing::Listing::row_at` meets its contract: a stratum's rows follow those of the strata before it. Assumes nothing.
use mathlib.Core.Path.{◌≡◌, sym, ap, ◌∙◌}
use Prim.Native.Nat.{ℕ, ◌+◌, ◌-◌, ◌*◌, ◌^◌, ◌≤◌, ◌<◌}
use native.Mathlib.Nat.{mul-le-mul}
use native.Mathlib.Omega.{arith}
use lib.ListN.{length}
use Rattle.fields.specs.Words.{most_strata, most_horizon}
use Rattle.fields.specs.declared.Head.{Head}
use Rattle.listing.specs.Layout.{offsets_of, row_at, latest_terms_at}
use Rattle.listing.proofs.Accepted.{accepted_sizes, row_by}
use Rattle.listing.proofs.Listing.row_at.Goals as goal
use Rattle.listing.proofs.Listing.row_at.Goals.{After-offsets-s}

here : (c : After-offsets-s) →
    let l = c.args.self.now.words.now in
    (c.offsets-s.result.tables + c.args.stratum * c.args.self.now.figures.horizon + (c.args.age - 1) ≡ row_at l c.args.stratum c.args.age)
    × (row_at l c.args.stratum c.args.age < length l) × (row_at l c.args.stratum c.args.age < latest_terms_at)
here c =
    let l = c.args.self.now in
    let a = l.accepted in
    let at = row_by _ _ _ l.is_head (c.offsets-s.ensures ∙ ap offsets_of (sym l.is_head)) a _ _ c.requires.0 (c.requires.1, c.requires.2) in
    (at.0, omega (arith, at.1, a.long), omega (arith, at.1, a.parts.terms_at_most))

-- a stratum's count times any size of the head is small
small : (c : After-offsets-s) (n : ℕ) → n ≤ most_horizon → c.args.stratum * n < 2 ^ 32
small c n p =
    let l = c.args.self.now in
    let sizes = accepted_sizes _ _ l.is_head l.accepted in
    let below : c.args.stratum ≤ most_strata = omega (arith, c.requires.0, ap (λ (h : Head). h.strata) l.is_head, sizes.strata) in
    omega (arith, mul-le-mul {n₂ = most_strata} {m₂ = most_horizon} below p)

products : (c : After-offsets-s) →
    let h = c.args.self.now.figures in
    (c.args.stratum * h.horizon < 2 ^ 32) × (c.args.stratum * h.strata < 2 ^ 32)
products c =
    let l = c.args.self.now in
    let sizes = accepted_sizes _ _ l.is_head l.accepted in
    (small c l.figures.horizon sizes.horizon, small c l.figures.strata (omega (arith, sizes.strata)))

pub overflow_mul-result : goal.overflow_mul-result
overflow_mul-result c = omega (arith, products (goal.at.overflow_mul-result c).After-offsets-s)

pub overflow_cast-result : goal.overflow_cast-result
overflow_cast-result c = omega (arith, products (goal.at.overflow_cast-result c).After-offsets-s)

pub overflow_add-result : goal.overflow_add-result
overflow_add-result c = omega (arith, here (goal.at.overflow_add-result c).After-offsets-s, products (goal.at.overflow_add-result c).After-offsets-s)

pub overflow_add-result-2 : goal.overflow_add-result-2
overflow_add-result-2 c = omega (arith, here (goal.at.overflow_add-result-2 c).After-offsets-s, products (goal.at.overflow_add-result-2 c).After-offsets-s)

pub returns : goal.returns
returns c = omega (arith, here (goal.at.returns c).After-offsets-s)
