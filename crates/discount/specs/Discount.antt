-- Document 01's paragraph "Discount takes four lists", in its own letters Q and D.
use Rattle.std.specs.Prelude.{ℕ, zero, suc, ◌+◌, ◌-◌, ◌*◌, ◌<◌, ◌≤◌, ◌≡◌, Bool, cond, ◌&&◌, List, leb, eqb, length}
use Rattle.std.specs.Int.{abs_diff}
use Rattle.words.specs.Bits.{within}
use Rattle.words.specs.Answers.{Answer, accepted, need}
use Rattle.words.specs.Refusals.{list_lengths, value_too_large}
use Rattle.sums.specs.Sums.{weighted, sum, all_at_most}

-- Q: "the sum of all squared half-widths", of the first class and of the second
abbrev pub squares : List ℕ → List ℕ → ℕ
squares first second = weighted first first + weighted second second

-- the greatest number up to `top` that passes a test, and 0 where none does
unfoldable pub greatest : (ℕ → Bool) → ℕ → ℕ
greatest passes zero = 0
greatest passes (suc top) = cond (passes (suc top)) (suc top) (greatest passes top)

abbrev pub square : ℕ → ℕ
square x = x * x

-- n is not above 10,000 × (1 − √Q / D), said without the root: (10,000 − n) × D squared is at least 10^8 × Q
unfoldable pub not_above : ℕ → ℕ → ℕ → Bool
not_above Q D n = leb (100000000 * Q) (square ((10000 - n) * D))

-- "10,000 × (1 − √Q / D) rounded down", for a Q below D × D
abbrev pub rounded_down : ℕ → ℕ → ℕ
rounded_down Q D = greatest (not_above Q D) 10000

-- "0 if D is 0; 10,000 if 400 × Q ≤ 9 × D × D; 0 if Q ≥ D × D; else" the above
unfoldable pub factor : ℕ → ℕ → ℕ
factor Q D =
    cond (eqb D 0) 0
    (cond (leb (400 * Q) (9 * D * D)) 10000
    (cond (leb (D * D) Q) 0
    (rounded_down Q D)))

-- ---- that the last of these cases is this number

-- n is the greatest whole number up to 10,000 for which (10,000 − n) × D is at least 10,000 × √Q, said by the squares
pub record RoundedDown (Q D n : ℕ) : Type 0 where
  pub within : n ≤ 10000
  pub at_least : 100000000 * Q ≤ square ((10000 - n) * D)
  pub above : (m : ℕ) → n < m → m ≤ 10000 → square ((10000 - m) * D) < 100000000 * Q

-- in the last case the discount is such an n, and the only one; proofs/Meaning.antt proves it
pub record EveryDiscount : Type 0 where
  pub rounded : (Q D : ℕ) → 9 * D * D < 400 * Q → Q < D * D → RoundedDown Q D (factor Q D)
  pub only : (Q D n : ℕ) → 9 * D * D < 400 * Q → Q < D * D → RoundedDown Q D n → n ≡ factor Q D

-- ---- the call

-- refusal 19: "list lengths unequal or not 1–5"
abbrev pub most_pools : ℕ
most_pools = 5

unfoldable pub lengths_valid : ℕ → ℕ → ℕ → ℕ → Bool
lengths_valid a b c d = eqb a b && eqb a c && eqb a d && within 1 most_pools a

-- refusal 20: "a value above 20,000"
abbrev pub most_value : ℕ
most_value = 20000

abbrev pub values_valid : List ℕ → Bool
values_valid values = all_at_most most_value values

-- what the call answers for any four lists; lists 0 to 3 are tested one after the other. D is the "distance" of the stock sums
unfoldable pub discount : List ℕ → List ℕ → List ℕ → List ℕ → Answer
discount first_widths second_widths first_stocks second_stocks =
    need (lengths_valid (length first_widths) (length second_widths) (length first_stocks) (length second_stocks)) list_lengths 0
    (need (values_valid first_widths) value_too_large 0
    (need (values_valid second_widths) value_too_large 1
    (need (values_valid first_stocks) value_too_large 2
    (need (values_valid second_stocks) value_too_large 3
    (accepted (factor (squares first_widths second_widths) (abs_diff (sum first_stocks) (sum second_stocks))))))))
