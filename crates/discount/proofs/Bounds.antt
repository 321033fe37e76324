-- What a list that is not refused keeps to, and its sums with it. Assumes nothing.
use mathlib.Core.Path.{◌≡◌}
use mathlib.Core.Bool.{true}
use mathlib.Core.List.{List}
use Prim.Native.Nat.{ℕ, ◌*◌, ◌≤◌}
use native.Mathlib.Nat.{mul-le-mul}
use native.Mathlib.Omega.{arith}
use lib.ListN.{length}
use mir.Val.{Fits}
use mir.Syntax.{w64}
use Rattle.std.proofs.lemmas.Bool.Decides.{nat_tests}
use Rattle.std.specs.Int.{abs_diff}
use Rattle.words.specs.Bits.{within}
use Rattle.sums.specs.Sums.{weighted, sum}
use Rattle.sums.proofs.Meaning.{weighted_le, sum_le}
use Rattle.discount.specs.Discount.{square, lengths_valid, values_valid, most_pools, most_value}
use Rattle.discount.specs.Bounds.{most_stock, most_squares, Bounded}

pub lengths : (a b c d : ℕ) → lengths_valid a b c d ≡ true → (a ≡ b) × (a ≡ c) × (a ≡ d) × (a ≤ most_pools)
unfolding lengths_valid within
lengths a b c d h = (grind (arith, nat_tests), grind (arith, nat_tests), grind (arith, nat_tests), grind (arith, nat_tests))

-- four lists that pass the tests
pub bounded : {a b c d : List ℕ} → lengths_valid (length a) (length b) (length c) (length d) ≡ true → values_valid a ≡ true → values_valid b ≡ true → values_valid c ≡ true →
    values_valid d ≡ true → Bounded a × Bounded b × Bounded c × Bounded d
bounded {a} {b} {c} {d} h ha hb hc hd =
    let l = lengths (length a) (length b) (length c) (length d) h in (
      record { length_at_most = omega arith; values_at_most = ha },
      record { length_at_most = omega arith; values_at_most = hb },
      record { length_at_most = omega arith; values_at_most = hc },
      record { length_at_most = omega arith; values_at_most = hd },
    )

-- the squares of one list, and its sum
pub squares_le : (v : List ℕ) → Bounded v → weighted v v ≤ most_squares
squares_le v b = omega (arith, weighted_le most_value most_value v v b.values_at_most b.values_at_most, b.length_at_most)

total_le : (v : List ℕ) → Bounded v → sum v ≤ most_stock
total_le v b = omega (arith, sum_le most_value v b.values_at_most, b.length_at_most)

-- and so the distance of two sums
pub distance_le : (v w : List ℕ) → Bounded v → Bounded w → abs_diff (sum v) (sum w) ≤ most_stock
distance_le v w b c = omega (arith, total_le v b, total_le w c)

pub square_le : (d : ℕ) → d ≤ most_stock → square d ≤ square most_stock
square_le d h = mul-le-mul h h

pub nine_fits : (d : ℕ) → d ≤ most_stock → Fits w64 (9 * d * d)
nine_fits d h = omega (arith, square_le d h)
