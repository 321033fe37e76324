-- A field of a word, by a shift and a mask, is a quotient's remainder; and a word that is put together gives its parts back.
-- Each law has the position and the width as parameters. Assumes nothing.
use mathlib.Core.Path.{◌≡◌, sym, ap, ◌∙◌}
use Prim.Native.Nat.{ℕ, ◌+◌, ◌-◌, ◌*◌, ◌%◌, ◌/◌, ◌^◌, ◌<◌, ◌≤◌}
use native.Mathlib.Nat.{one-mul, div-one, div-eq_of_lt, zero-mod, mod-eq_of_lt, mul-add-mod_self_right, mul_assoc, mod-lt}
use native.Mathlib.Omega.{arith}
use lib.Pow.{shl_exact, high, pow_pos, pow-add}
use lib.Pow.{field as field-pow}
use lib.Bits.{bit_and, bit_or, and_mask, or_shifted}
use Rattle.words.specs.Bits.{field, bits, word_of}

-- 1 << n
pub one_shl : (n : ℕ) → n < 32 → (1 * 2 ^ n) % 2 ^ 32 ≡ 2 ^ n
one_shl n h = shl_exact {a = 1} 1 n 32 (omega arith) (omega arith) ∙ one-mul (2 ^ n)

-- (w >> p) & ((1 << n) - 1)
pub field_law : (w p n : ℕ) → n < 32 → bit_and (w / 2 ^ p) ((1 * 2 ^ n) % 2 ^ 32 - 1) ≡ field w p n
field_law w p n h = ap (λ (m : ℕ). bit_and (w / 2 ^ p) (m - 1)) (one_shl n h) ∙ and_mask (w / 2 ^ p) n

-- a field of n bits is below 2 ^ n
pub field_below : (w p n : ℕ) → field w p n < 2 ^ n
field_below w p n = mod-lt (w / 2 ^ p) (pow_pos n)

pub field_most : (w p n : ℕ) → field w p n ≤ 2 ^ n - 1
field_most w p n = omega (arith, field_below w p n)

-- a number of n bits is its own lowest field, and has nothing above
pub field_own : (b n : ℕ) → b < 2 ^ n → field b 0 n ≡ b
field_own b n h = rw div-one (mod-eq_of_lt h)

pub field_above : (b p n : ℕ) → b < 2 ^ p → field b p n ≡ 0
field_above b p n h = rw (div-eq_of_lt h) (zero-mod (2 ^ n))

-- (a << k) | b, for an a of j bits and a b of k bits
pub join_law : (a b j k : ℕ) → j + k ≤ 32 → a < 2 ^ j → b < 2 ^ k → bit_or ((a * 2 ^ k) % 2 ^ 32) b ≡ a * 2 ^ k + b
join_law a b j k h ha hb = ap (λ (m : ℕ). bit_or m b) (shl_exact {a = a} j k 32 ha h) ∙ or_shifted a k b hb

-- the field above what was joined on
pub field_high : (a b k n : ℕ) → a < 2 ^ n → b < 2 ^ k → field (a * 2 ^ k + b) k n ≡ a
field_high a b k n ha hb = rw (high a k hb) (mod-eq_of_lt ha)

-- a field within what was joined on
pub field_low : (a b k p n : ℕ) → n + p ≤ k → field (a * 2 ^ k + b) p n ≡ field b p n
field_low a b k p n h =
    let d : ℕ = k - (n + p) in
    let e : k ≡ d + (n + p) = omega arith in
    let pow : a * 2 ^ k ≡ a * 2 ^ d * 2 ^ (n + p) = ap (λ (m : ℕ). a * 2 ^ m) e ∙ ap (λ (m : ℕ). a * m) (pow-add 2 d (n + p)) ∙ sym (mul_assoc a (2 ^ d) (2 ^ (n + p))) in
    sym (field-pow (a * 2 ^ k + b) n p)
    ∙ ap (λ (m : ℕ). (m + b) % 2 ^ (n + p) / 2 ^ p) pow
    ∙ ap (λ (m : ℕ). m / 2 ^ p) (mul-add-mod_self_right (a * 2 ^ d) (2 ^ (n + p)) b)
    ∙ field-pow b n p

-- a word that is put together gives its kind back, and the bits of its payload
pub word_kind : (kind payload : ℕ) → kind < 16 → payload < 2 ^ 28 → bits (word_of kind payload) 31 28 ≡ kind
word_kind kind payload h k = field_high kind payload 28 4 h k

pub word_bits : (kind payload high low : ℕ) → low ≤ high → high < 28 → bits (word_of kind payload) high low ≡ bits payload high low
word_bits kind payload high low h k = field_low kind payload 28 low (high + 1 - low) (omega arith)
