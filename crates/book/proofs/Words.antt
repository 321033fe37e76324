-- Words that are put together: they give their fields back, and they are valid. Assumes nothing.
use mathlib.Core.Path.{◌≡◌, refl, ap, ◌∙◌}
use mathlib.Core.Bool.{Bool, true, false, cond}
use Prim.Native.Nat.{ℕ, zero-le, ◌+◌, ◌*◌, ◌^◌, ◌≤◌, ◌<◌}
use native.Mathlib.Omega.{arith}
use lib.Dec.{eqb}
use borrow.Author.Tests.{le-leb, eq-eqb}
use Rattle.words.specs.Bits.{bits, within, is_kind, word_of}
use Rattle.words.proofs.Fields.{field_high, field_low, field_own, field_above, word_kind, word_bits}
use Rattle.book.specs.Layout.{year_kind, plan_kind, oxidised_kind, burned_kind, payload, withdrawn_of, plan_of, plan_word, oxidised_word, burned_word}
use Rattle.book.specs.Check.{is_year_word, is_plan_word, is_oxidised_word, is_burned_word}

-- ---- fields

-- a number of 28 bits
pub payload_of : (kind n : ℕ) → n < 2 ^ 28 → payload (word_of kind n) ≡ n
payload_of kind n h = word_bits kind n 27 0 (omega arith) (omega arith) ∙ field_own n 28 h

pub kind_of : (kind payload : ℕ) → kind < 16 → payload < 2 ^ 28 → is_kind kind (word_of kind payload) ≡ true
unfolding is_kind
kind_of kind payload h k = eq-eqb _ kind (word_kind kind payload h k)

-- the mark as a bit
flag : (f : Bool) → eqb (cond f 1 0) 1 ≡ f
flag true = refl
flag false = refl

flag_small : (f : Bool) → cond f 1 0 < 2
flag_small true = omega arith
flag_small false = omega arith

-- a plan word's payload
module _ (f : Bool) (y : ℕ) (h : y < 2 ^ 8) where
  payload_small : cond f 1 0 * 2 ^ 8 + y < 2 ^ 9
  payload_small = omega (arith, flag_small f)

  pub plan_of_lem : plan_of (plan_word f y) ≡ y
  plan_of_lem = word_bits plan_kind (cond f 1 0 * 2 ^ 8 + y) 7 0 (omega arith) (omega arith) ∙ field_low (cond f 1 0) y 8 0 8 (omega arith) ∙ field_own y 8 h

  pub mark_of : withdrawn_of (plan_word f y) ≡ f
  mark_of =
      ap (λ (n : ℕ). eqb n 1) (word_bits plan_kind (cond f 1 0 * 2 ^ 8 + y) 8 8 (omega arith) (omega arith) ∙ field_high (cond f 1 0) y 8 1 (flag_small f) h)
      ∙ flag f

  zero_bits : bits (plan_word f y) 27 9 ≡ 0
  zero_bits = word_bits plan_kind (cond f 1 0 * 2 ^ 8 + y) 27 9 (omega arith) (omega arith) ∙ field_above _ 9 19 payload_small

-- ---- valid words

within_is : (most x : ℕ) → x ≤ most → within 0 most x ≡ true
unfolding within
within_is most x h = rw (le-leb 0 x zero-le, le-leb x most h)

pub year_valid : (horizon t : ℕ) → t ≤ horizon → horizon < 2 ^ 28 → is_year_word horizon (word_of year_kind t) ≡ true
unfolding is_year_word
year_valid horizon t h k = rw (kind_of year_kind t (omega arith) (omega arith), payload_of year_kind t (omega arith), within_is horizon t h)

pub plan_valid : (horizon : ℕ) (f : Bool) (y : ℕ) → y ≤ horizon → horizon < 2 ^ 8 → is_plan_word horizon (plan_word f y) ≡ true
unfolding is_plan_word
plan_valid horizon f y h k =
    let s : y < 2 ^ 8 = omega arith in
    rw (kind_of plan_kind (cond f 1 0 * 2 ^ 8 + y) (omega arith) (omega (arith, payload_small f y s)), zero_bits f y s, plan_of_lem f y s, within_is horizon y h)

pub oxidised_valid : (mm : ℕ) → mm < 2 ^ 28 → is_oxidised_word (oxidised_word mm) ≡ true
oxidised_valid mm h = kind_of oxidised_kind mm (omega arith) h

pub burned_valid : (most o b : ℕ) → o + b ≤ most → most < 2 ^ 28 → is_burned_word most (oxidised_word o) (burned_word b) ≡ true
unfolding is_burned_word
burned_valid most o b h k = rw (kind_of burned_kind b (omega arith) (omega arith), payload_of oxidised_kind o (omega arith), payload_of burned_kind b (omega arith), le-leb (o + b) most h)
