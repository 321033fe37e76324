-- The kinds of many words, tested at once: what differs from a kind is joined by `|`. Assumes nothing.
use mathlib.Core.Path.{◌≡◌, sym, ap, ◌∙◌}
use mathlib.Core.Bool.{true}
use Prim.Native.Nat.{ℕ, ◌+◌, ◌*◌, ◌/◌, ◌%◌, ◌^◌, ◌<◌}
use native.Mathlib.Omega.{arith}
use lib.Bits.{bit_or, bit_xor, and_le_l, and_le_r, or_add_and, xor_add_and, xor_self, or_shr, or_mod, xor_shr, xor_lt}
use borrow.Author.Tests.{eqb-true, eq-eqb, ne_eqb}
use Rattle.words.specs.Bits.{bits, is_kind, word_of}
use Rattle.words.proofs.Signed.{by_equal}

either_zero : (a b : ℕ) → bit_or a b ≡ 0 → (a ≡ 0) × (b ≡ 0)
either_zero a b h =
    let sum = or_add_and a b in
    (omega (arith, sum, and_le_r a b), omega (arith, sum, and_le_l a b))

same_by_xor : (a b : ℕ) → bit_xor a b ≡ 0 → a ≡ b
same_by_xor a b h = omega (arith, xor_add_and a b, and_le_l a b, and_le_r a b)

-- of two words joined, kind 0 is that of both
pub joined_kind : (a b : ℕ) → is_kind 0 (bit_or a b) ≡ true → (is_kind 0 a ≡ true) × (is_kind 0 b ≡ true)
unfolding is_kind
joined_kind a b h =
    let e : bit_or (bits a 31 28) (bits b 31 28) ≡ 0 = sym (or_mod (a / 2 ^ 28) (b / 2 ^ 28) 4) ∙ ap (λ (m : ℕ). m % 2 ^ 4) (sym (or_shr a b 28)) ∙ eqb-true _ _ h in
    let zero = either_zero (bits a 31 28) (bits b 31 28) e in
    (eq-eqb (bits a 31 28) 0 zero.0, eq-eqb (bits b 31 28) 0 zero.1)

-- what differs from a word of a kind is of kind 0 where the kinds are the same
pub differing_kind : (kind w : ℕ) → kind < 16 → w < 2 ^ 32 → is_kind 0 (bit_xor w (word_of kind 0)) ≡ is_kind kind w
unfolding is_kind
differing_kind kind w p q =
    let m = w / 2 ^ 28 in
    let high : (kind * 2 ^ 28 + 0) / 2 ^ 28 ≡ kind = omega arith in
    let shifted : bit_xor w (word_of kind 0) / 2 ^ 28 ≡ bit_xor m kind = xor_shr w (word_of kind 0) 28 ∙ ap (bit_xor m) high in
    let own : bits w 31 28 ≡ m = omega arith in
    let differ : bits (bit_xor w (word_of kind 0)) 31 28 ≡ bit_xor m kind = omega (arith, shifted, xor_lt 4 m kind (omega arith) (omega arith)) in
    by_equal m kind
    (λ e. eq-eqb _ 0 (differ ∙ ap (λ (k : ℕ). bit_xor k kind) e ∙ xor_self kind) ∙ sym (eq-eqb _ kind (own ∙ e)))
    (λ n. ne_eqb _ 0 (λ z. n (same_by_xor m kind (sym differ ∙ z))) ∙ sym (ne_eqb _ kind (λ z. n (sym own ∙ z))))
