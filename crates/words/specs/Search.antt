-- The first place of a range that is invalid, and that it is "the lowest" of document 01.
use Rattle.std.specs.Prelude.{◌≡◌, Bool, true, false, cond, ℕ, zero, suc, ◌-◌, ◌≤◌, ◌<◌}

-- of `count` places from `from` on, the first that is invalid; where all are valid, the place after them
unfoldable pub first_invalid_in : (ℕ → Bool) → ℕ → ℕ → ℕ
first_invalid_in valid from zero = from
first_invalid_in valid from (suc count) = cond (valid from) (first_invalid_in valid (suc from) count) from

-- the first place from `from` up to but not `to` that is invalid; where all are valid, `to`
unfoldable pub first_invalid : (ℕ → Bool) → ℕ → ℕ → ℕ
first_invalid valid from to = first_invalid_in valid from (to - from)

-- x lies in the range, every place before it is valid, and it is invalid itself unless it is the range's end
pub record FirstInvalid (valid : ℕ → Bool) (from to x : ℕ) : Type 0 where
  pub low : from ≤ x
  pub high : x ≤ to
  pub before : (k : ℕ) → from ≤ k → k < x → valid k ≡ true
  pub invalid : x < to → valid x ≡ false

-- a search finds such a place, and there is no other; proofs/Meaning.antt proves it
pub record EverySearch : Type 0 where
  pub finds : (valid : ℕ → Bool) (from to : ℕ) → from ≤ to → FirstInvalid valid from to (first_invalid valid from to)
  pub only : (valid : ℕ → Bool) (from to x : ℕ) → FirstInvalid valid from to x → x ≡ first_invalid valid from to
