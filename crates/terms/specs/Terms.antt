-- Document 01, "Book and calls": the yearly terms of a listing to date. N has the terms up to 8, S those up to 5; term 2, peat, is no
-- word of a listing.
use Rattle.std.specs.Prelude.{ℕ, ◌*◌, cond, ◌&&◌, List, [], ◌∷◌, leb, drop, ℤ, pos, ◌+ℤ◌}
use Rattle.fields.specs.Fields.{term_of, year_of, tonnes_of}
use Rattle.fields.specs.Words.{most_term_tonnes, most_term_tonnes_below}
use Rattle.listing.specs.Layout.{most_term_words, offsets}

-- what a word adds to the terms up to `last` of the years 1 to `year`
unfoldable pub counted : ℕ → ℕ → ℕ → ℤ
counted year last w = cond (leb (year_of w) year && leb (term_of w) last) (tonnes_of w) (pos 0)

-- f of each word, added up
unfoldable pub total : (ℕ → ℤ) → List ℕ → ℤ
total f [] = pos 0
total f (w ∷ ws) = f w +ℤ total f ws

-- an absent term is 0
abbrev pub terms_to_date : List ℕ → ℕ → ℕ → ℤ
terms_to_date l year last = total (counted year last) (drop (offsets l).terms l)

-- the most that they come to, above zero and below it
abbrev pub most_term_sum : ℕ
most_term_sum = most_term_words * most_term_tonnes

abbrev pub most_term_sum_below : ℕ
most_term_sum_below = most_term_words * most_term_tonnes_below
