-- Document 01, "Book and calls": where the words of a book b are, and what they hold. Check.antt goes through them place by place, and
-- names the zero bits of kind 10.
use Rattle.std.specs.Prelude.{ℕ, zero, suc, ◌+◌, ◌-◌, ◌*◌, ◌/◌, ◌%◌, ◌^◌, ◌≤◌, Bool, cond, List, [], ◌∷◌, eqb, get_or, set, take, drop}
use Rattle.words.specs.Bits.{bits, word_of}
use Rattle.year.specs.declared.Entry.{Entry}
use Rattle.year.specs.declared.Loss.{Loss}
use Rattle.book.specs.declared.Shape.{Shape}

-- ---- its shape: how many words its head has, and a cell in it

-- how many words a cell has: three
pub record Sized (n : ℕ) : Type 0 where
  pub least : 3 ≤ n
  pub most : n ≤ 3

-- what every shape has: a year and one or two words of tonnes issued in its head, and the words of a cell
pub record Shaped (s : Shape) : Type 0 where
  pub head : (2 ≤ s.head) × (s.head ≤ 3)
  pub entry : Sized s.entry

-- the old shape, of document 01: one word of tonnes issued, so a head of 2 words
abbrev pub issued_in_one_word : Shape
issued_in_one_word = record { head = 2; entry = 3 }

-- document 02, "A thousand cells": two words of tonnes issued, high 28 bits first, so a head of 3 words, and cells start one word later
abbrev pub issued_in_two_words : Shape
issued_in_two_words = record { head = 3; entry = 3 }

-- where cell i begins, and how many words a book of n cells needs
abbrev pub entry_at : Shape → ℕ → ℕ
entry_at s i = s.head + s.entry * i

abbrev pub book_size : Shape → ℕ → ℕ
book_size = entry_at

-- the cell that has the word at place k, behind the head, and the word's offset in the cell
abbrev pub cell_of_place : Shape → ℕ → ℕ
cell_of_place s k = (k - s.head) / s.entry

abbrev pub offset_of_place : Shape → ℕ → ℕ
offset_of_place s k = (k - s.head) % s.entry

-- the words of a cell in the lines
abbrev pub line_words : ℕ
line_words = 3

-- ---- the kinds of its words: current year, tonnes issued, mark and plan year, O, B

abbrev pub year_kind : ℕ
year_kind = 8

abbrev pub issued_kind : ℕ
issued_kind = 9

abbrev pub plan_kind : ℕ
plan_kind = 10

abbrev pub oxidised_kind : ℕ
oxidised_kind = 11

abbrev pub burned_kind : ℕ
burned_kind = 12

-- and of a cell's lines

abbrev pub oxidised_line_kind : ℕ
oxidised_line_kind = 13

abbrev pub burned_line_kind : ℕ
burned_line_kind = 14

abbrev pub kg_line_kind : ℕ
kg_line_kind = 15

-- ---- what the words hold

-- the number in bits 27–0
abbrev pub payload : ℕ → ℕ
payload w = bits w 27 0

-- the number in bits 27–0 of n words from place `from` on, high 28 bits first
unfoldable pub joined : List ℕ → ℕ → ℕ → ℕ
joined b from zero = 0
joined b from (suc n) = joined b from n * 2 ^ 28 + payload (get_or b (from + n) 0)

-- word 0, kind 8: the current year; the head's other words, kind 9: tonnes issued
abbrev pub year_at : ℕ
year_at = 0

abbrev pub issued_at : ℕ
issued_at = 1

abbrev pub issued_words : Shape → ℕ
issued_words s = s.head - issued_at

unfoldable pub year : List ℕ → ℕ
year b = joined b year_at 1

unfoldable pub issued : Shape → List ℕ → ℕ
issued s b = joined b issued_at (issued_words s)

-- kind 10: bit 8 withdrawn, bits 7–0 plan year
abbrev pub withdrawn_of : ℕ → Bool
withdrawn_of w = eqb (bits w 8 8) 1

abbrev pub plan_of : ℕ → ℕ
plan_of w = bits w 7 0

-- a cell's entry, from its own words: kind 10, kind 11 (O), kind 12 (B)
unfoldable pub entry_of : List ℕ → Entry
entry_of w =
    record {
      withdrawn = withdrawn_of (get_or w 0 0);
      plan = plan_of (get_or w 0 0);
      oxidised = payload (get_or w 1 0);
      burned = payload (get_or w 2 0);
    }

-- the words of cell i, and its entry
abbrev pub words_of : Shape → List ℕ → ℕ → List ℕ
words_of s b i = take s.entry (drop (entry_at s i) b)

abbrev pub entry : Shape → List ℕ → ℕ → Entry
entry s b i = entry_of (words_of s b i)

-- ---- words put together

-- b, with a number in n words of a kind from place `from` on, high 28 bits first
unfoldable pub stored : ℕ → List ℕ → ℕ → ℕ → ℕ → List ℕ
stored kind b from zero x = b
stored kind b from (suc n) x = stored kind (set b (from + n) (word_of kind (x % 2 ^ 28))) from n (x / 2 ^ 28)

abbrev pub with_year : List ℕ → ℕ → List ℕ
with_year b t = stored year_kind b year_at 1 t

abbrev pub with_issued : Shape → List ℕ → ℕ → List ℕ
with_issued s b tonnes = stored issued_kind b issued_at (issued_words s) tonnes

abbrev pub plan_word : Bool → ℕ → ℕ
plan_word withdrawn plan = word_of plan_kind (cond withdrawn 1 0 * 2 ^ 8 + plan)

-- b, with the mark and the plan year of entry e as those of cell i
abbrev pub with_plan : Shape → List ℕ → ℕ → Entry → List ℕ
with_plan s b i e = set b (entry_at s i) (plan_word e.withdrawn e.plan)

abbrev pub oxidised_word : ℕ → ℕ
oxidised_word mm = word_of oxidised_kind mm

abbrev pub burned_word : ℕ → ℕ
burned_word mm = word_of burned_kind mm

-- the n words of a cell that hold its entry
unfoldable pub held_words : ℕ → Entry → List ℕ
held_words n e = take n (plan_word e.withdrawn e.plan ∷ oxidised_word e.oxidised ∷ burned_word e.burned ∷ [])

-- the three lines of a cell: kind 13 oxidised, 14 burned, 15 kg
unfoldable pub lines_of : Loss → List ℕ
lines_of s = word_of oxidised_line_kind s.oxidised ∷ word_of burned_line_kind s.burned ∷ word_of kg_line_kind s.kg ∷ []

-- cell i's lines are the numbers that a closing left for it in the lines buffer x
abbrev pub line_at : ℕ → List ℕ → ℕ → ℕ
line_at j x i = payload (get_or x (line_words * i + j) 0)

abbrev pub oxidised_line : List ℕ → ℕ → ℕ
oxidised_line = line_at 0

abbrev pub burned_line : List ℕ → ℕ → ℕ
burned_line = line_at 1

abbrev pub kg_line : List ℕ → ℕ → ℕ
kg_line = line_at 2
