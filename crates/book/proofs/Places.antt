-- Where the words of a book of any shape are: a place behind the head is a cell and an offset in it. Assumes nothing.
use mathlib.Core.Path.{◌≡◌, ap, ◌∙◌}
use Prim.Native.Nat.{ℕ, ◌+◌, ◌-◌, ◌*◌, ◌/◌, ◌%◌, ◌^◌, ◌≤◌, ◌<◌}
use native.Mathlib.Nat.{mul-suc, mul_comm, mul-le-mul, mul-le-mul_left, mod-lt, div-lt_iff_lt-mul}
use native.Mathlib.Numerals.{add-one}
use native.Mathlib.Omega.{arith}
use lib.Arith.{digits_div, digits_mod}
use Rattle.book.specs.Layout.{Shaped, entry_at, book_size, cell_of_place, offset_of_place}
use Rattle.book.specs.declared.Shape.{Shape}

module _ (s : Shape) where
  pub next_entry : (i : ℕ) → entry_at s i + s.entry ≡ entry_at s (i + 1)
  next_entry i = omega (arith, ap (λ (m : ℕ). s.entry * m) (add-one i), mul-suc s.entry i)

  -- cells one after the other
  pub entry_before : (i n : ℕ) → i < n → entry_at s i + s.entry ≤ entry_at s n
  entry_before i n h = omega (arith, mul-le-mul_left s.entry h, mul-suc s.entry i)

  -- the cell and the offset of a place
  module _ (i j : ℕ) (lt : j < s.entry) where
    behind : entry_at s i + j - s.head ≡ i * s.entry + j
    behind = omega (arith, mul_comm s.entry i)

    pub cell_of_place_lem : cell_of_place s (entry_at s i + j) ≡ i
    cell_of_place_lem = ap (λ (m : ℕ). m / s.entry) behind ∙ digits_div i lt

    pub offset_of_place_lem : offset_of_place s (entry_at s i + j) ≡ j
    offset_of_place_lem = ap (λ (m : ℕ). m % s.entry) behind ∙ digits_mod i lt

  -- and back
  module _ (g : Shaped s) (k : ℕ) (h : s.head ≤ k) where
    pub offset_below : offset_of_place s k < s.entry
    offset_below = let p = g.entry in mod-lt (k - s.head) (omega arith)

    pub cell_below : (n : ℕ) → k < book_size s n → cell_of_place s k < n
    cell_below n q = let p = g.entry in (div-lt_iff_lt-mul {k = s.entry} {x = k - s.head} {y = n} (omega arith)).1 (omega (arith, mul_comm s.entry n))

  -- a book of fewer than 2 ^ 32 cells has a size that fits
  pub size_small : (g : Shaped s) (n : ℕ) → n < 2 ^ 32 → s.entry * n ≤ 3 * 2 ^ 32
  size_small g n h = mul-le-mul {n₂ = 3} {m₂ = 2 ^ 32} g.entry.most (omega arith)
