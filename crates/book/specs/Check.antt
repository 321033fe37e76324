-- Document 01, "Where a call stops": the check of a book, numbers 6 and 8, after the listing's.
use Rattle.std.specs.Prelude.{ℕ, ◌+◌, Bool, cond, ◌&&◌, List, leb, ltb, eqb, get_or, length}
use Rattle.words.specs.Bits.{bits, within, is_kind}
use Rattle.words.specs.Answers.{Answer, accepted, need, need_all, after}
use Rattle.words.specs.Refusals.{book_short, book_word}
use Rattle.fields.specs.declared.Head.{Head}
use Rattle.fields.specs.declared.Cell.{Cell}
use Rattle.listing.specs.Layout.{head, cells, horizon, cell}
use Rattle.listing.specs.Check.{checked}
use Rattle.year.specs.Year.{most_loss}
use Rattle.book.specs.Layout.{year_kind, issued_kind, plan_kind, oxidised_kind, burned_kind, year_at, book_size, cell_of_place, offset_of_place, payload, plan_of, words_of}
use Rattle.book.specs.declared.Shape.{Shape}

-- word 0: kind 8, a year of 0 to the horizon
unfoldable pub is_year_word : ℕ → ℕ → Bool
is_year_word horizon w = is_kind year_kind w && within 0 horizon (payload w)

-- the other words of the head: kind 9; every number of tonnes is allowed
abbrev pub is_issued_word : ℕ → Bool
is_issued_word w = is_kind issued_kind w

-- kind 10: bits 27–9 are zero, a plan year of 0 to the horizon
unfoldable pub is_plan_word : ℕ → ℕ → Bool
is_plan_word horizon w = is_kind plan_kind w && eqb (bits w 27 9) 0 && within 0 horizon (plan_of w)

-- kind 11: every O is allowed by itself
abbrev pub is_oxidised_word : ℕ → Bool
is_oxidised_word w = is_kind oxidised_kind w

-- kind 12: O, in the word before, and B add up to no more than can be lost; a bad sum counts here
unfoldable pub is_burned_word : ℕ → ℕ → ℕ → Bool
is_burned_word most before w = is_kind burned_kind w && leb (payload before + payload w) most

-- the word at place k of the head
unfoldable pub is_head_word : ℕ → ℕ → ℕ → Bool
is_head_word horizon k w = cond (eqb k year_at) (is_year_word horizon w) (is_issued_word w)

abbrev pub head_word_valid : ℕ → List ℕ → ℕ → Bool
head_word_valid horizon b k = is_head_word horizon k (get_or b k 0)

-- the word at offset j of a cell's own words w
unfoldable pub entry_word_valid : Head → Cell → List ℕ → ℕ → Bool
entry_word_valid h c w j =
    cond (eqb j 0) (is_plan_word h.horizon (get_or w 0 0))
    (cond (eqb j 1) (is_oxidised_word (get_or w 1 0))
    (is_burned_word (most_loss h c) (get_or w 1 0) (get_or w 2 0)))

-- the word at place k of the book
unfoldable pub book_word_valid : Shape → List ℕ → List ℕ → ℕ → Bool
book_word_valid s l b k =
    cond (ltb k s.head) (head_word_valid (horizon l) b k)
    (entry_word_valid (head l) (cell l (cell_of_place s k)) (words_of s b (cell_of_place s k)) (offset_of_place s k))

-- number 6: a book too short for its cells
unfoldable pub capacity_checked : Shape → List ℕ → List ℕ → Answer
capacity_checked s l b = need (leb (book_size s (cells l)) (length b)) book_short (length b) (accepted 0)

-- numbers 1 to 6: a valid listing, and space for its book
unfoldable pub fitted : Shape → List ℕ → List ℕ → Answer
fitted s l b = after (checked l) (capacity_checked s l b)

-- number 8: no invalid word in the book
unfoldable pub book_checked : Shape → List ℕ → List ℕ → Answer
book_checked s l b = need_all book_word (book_word_valid s l b) 0 (book_size s (cells l)) (accepted 0)

-- numbers 1 to 6 and 8, with which every call on an open book but a closing begins: that one tests its lines before 8
unfoldable pub admitted : Shape → List ℕ → List ℕ → Answer
admitted s l b = after (fitted s l b) (book_checked s l b)
