-- The bits of a 32-bit word, as document 01 names them: "bits 27–16" of w is `bits w 27 16`.
use Rattle.std.specs.Prelude.{ℕ, ◌+◌, ◌-◌, ◌*◌, ◌/◌, ◌%◌, ◌^◌, ◌<◌, ◌≤◌, Bool, cond, ◌&&◌, leb, ltb, eqb, ℤ, pos, negsuc, ◌-ℤ◌}

-- the `width` bits of w from bit `position` up
abbrev pub field : ℕ → ℕ → ℕ → ℕ
field w position width = w / 2 ^ position % 2 ^ width

abbrev pub bits : ℕ → ℕ → ℕ → ℕ
bits w high low = field w low (high + 1 - low)

-- what a `Field` has: 1 to 31 of a word's 32 bits
pub record BitRange (high low : ℕ) : Type 0 where
  pub ordered : low ≤ high
  pub inside : high < 32
  pub width_fits : high < low + 31

-- `width` bits as a two's complement number: from 2 ^ (width - 1) on, 2 ^ width less
unfoldable pub twos_complement : ℕ → ℕ → ℤ
twos_complement width x = cond (ltb x (2 ^ (width - 1))) (pos x) (pos x -ℤ pos (2 ^ width))

abbrev pub signed_bits : ℕ → ℕ → ℕ → ℤ
signed_bits w high low = twos_complement (high + 1 - low) (bits w high low)

-- a number, or 0 where it is below 0
unfoldable pub at_least_0 : ℤ → ℕ
at_least_0 (pos n) = n
at_least_0 (negsuc n) = 0

-- bits 31–28 are the kind
unfoldable pub is_kind : ℕ → ℕ → Bool
is_kind kind w = eqb (bits w 31 28) kind

-- least ≤ x ≤ most
unfoldable pub within : ℕ → ℕ → ℕ → Bool
within least most x = leb least x && leb x most

-- the word of a kind whose bits 27–0 are the payload
abbrev pub word_of : ℕ → ℕ → ℕ
word_of kind payload = kind * 2 ^ 28 + payload
