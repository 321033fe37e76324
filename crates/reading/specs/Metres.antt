-- Document 01, "Forecast, readings, discount, program": the exact value of a binary32, its range in metres and its whole millimetres.
-- The logic's `fin s m e` is the number m * 2 ^ e, negative where s is true, and 2 ^ e is the fraction up e / down e.
use Rattle.std.specs.Prelude.{ℕ, ◌*◌, ◌<◌, ◌≡◌, Bool, true, false, cond, ◌&&◌, ℤ, pos, neg_ℤ, ◌*ℤ◌, ◌≤ℤ◌, ◌<ℤ◌, Float}
use Rattle.std.proofs.Math.IntN.{suc_ℤ}
use Rattle.std.specs.Int.Signed.{le_z, shr_z}
use Rattle.std.specs.Float.{nan, inf, fin}
use Rattle.std.specs.Float.Ieee.{up, down}

-- "not finite": a NaN or an infinity
abbrev pub is_finite : Float → Bool
is_finite nan = false
is_finite (inf s) = false
is_finite (fin s m e) = true

-- "its exact value": a finite x is the fraction numerator x / denominator x, with an integer numerator, 0 for -0 too, and a denominator above 0
abbrev pub numerator : Float → ℤ
numerator nan = pos 0
numerator (inf s) = pos 0
numerator (fin s m e) = cond s (neg_ℤ (pos (m * up e))) (pos (m * up e))

abbrev pub denominator : Float → ℕ
denominator nan = 1
denominator (inf s) = 1
denominator (fin s m e) = down e

-- low ≤ x ≤ high, for whole numbers low and high, with the denominator multiplied out
abbrev pub in_range : ℤ → ℤ → Float → Bool
in_range low high x = is_finite x && (le_z (low *ℤ pos (denominator x)) (numerator x) && le_z (numerator x) (high *ℤ pos (denominator x)))

-- "a core lies in 0 to 20 (−0 is 0)"
abbrev pub most_core : ℕ
most_core = 20

unfoldable pub in_core : Float → Bool
in_core x = in_range (pos 0) (pos most_core) x

-- "a level in −100 to 3,000": the lowest is so many metres below zero
abbrev pub lowest_level : ℕ
lowest_level = 100

abbrev pub highest_level : ℕ
highest_level = 3000

unfoldable pub in_level : Float → Bool
in_level x = in_range (neg_ℤ (pos lowest_level)) (pos highest_level) x

-- "its mm is the greatest whole number not above 1,000 times its exact value, also below zero": `shr_z` rounds down
unfoldable pub mm : Float → ℤ
mm x = shr_z (pos 1000 *ℤ numerator x) (denominator x)

-- ---- that `mm` is this number

-- n ≤ 1,000 × x < n + 1, with the denominator multiplied out; `suc_ℤ n` is n + 1
pub record Floor (x : Float) (n : ℤ) : Type 0 where
  pub not_above : (n *ℤ pos (denominator x)) ≤ℤ (pos 1000 *ℤ numerator x)
  pub next_above : (pos 1000 *ℤ numerator x) <ℤ (suc_ℤ n *ℤ pos (denominator x))

-- the mm of every finite number are such an n, and the only one; proofs/Law.antt proves it
pub record EveryReading : Type 0 where
  pub denominator : (x : Float) → is_finite x ≡ true → 0 < denominator x
  pub floor : (x : Float) → is_finite x ≡ true → Floor x (mm x)
  pub only : (x : Float) (n : ℤ) → is_finite x ≡ true → Floor x n → n ≡ mm x

-- ---- for contracts of private functions alone
-- the lowest level's millimetres, below zero
abbrev pub lowest_mm : ℕ
lowest_mm = 1000 * lowest_level

-- low and high are whole numbers
pub record Ends (low high : Float) : Type 0 where
  pub low_finite : is_finite low ≡ true
  pub low_whole : denominator low ≡ 1
  pub high_finite : is_finite high ≡ true
  pub high_whole : denominator high ≡ 1
