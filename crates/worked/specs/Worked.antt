-- Document 01, "Worked on paper", and after it what was worked out for the change requests: the definitions that the contracts
-- cite, applied to these figures, in their order. One table, and one theorem that every row agrees; proofs/Agrees.antt proves it.
use Rattle.std.specs.Prelude.{◌≡◌, false, cond, List, [], ◌∷◌, ◌++◌, map, ℕ, zero, suc, ◌+◌, ◌*◌, ◌^◌, take}
use Rattle.std.specs.Float.{binary32}
use Rattle.std.specs.Float.Ieee.{of_bits}
use Rattle.fields.specs.declared.Cell.{Cell}
use Rattle.listing.specs.Layout.{head, guard, most_words, row as table}
use Rattle.listing.specs.Check.{checked}
use Rattle.year.specs.Year.{burned_by, oxidised_by, emission, year_loss}
use Rattle.book.specs.Layout.{oxidised_line, burned_line, kg_line}
use Rattle.ledger.specs.Calls.{open_effect, convert_effect, close_effect, issue_effect, statement_answer}
use Rattle.reading.specs.Depth.{depth}
use Rattle.reading.specs.declared.Reading.TheVariants.{Core, Levels}
use Rattle.discount.specs.Discount.{factor}
use Rattle.logging.specs.Logging.{logged}

-- a row: what the definitions give, and what it was worked out to be
pub record Row : Type 0 where
  pub given : List ℕ
  pub paper : List ℕ

abbrev pub row : List ℕ → List ℕ → Row
row given paper = record { given = given; paper = paper }

-- the listing 10010102 2014190C 3460B554 3460B400 400107D0 527101F4: G 25, e 12, one cell of 2000 mm with K = 5,000,000
abbrev pub listing : List ℕ
listing = 0x10010102 ∷ 0x2014190C ∷ 0x3460B554 ∷ 0x3460B400 ∷ 0x400107D0 ∷ 0x527101F4 ∷ []

-- "The listing with 6505FF9C appended (term 5, year 2, −100)"
abbrev pub appended : List ℕ
appended = listing ++ (0x6505FF9C ∷ [])

-- "d, o, b, R to burned, oxidised"
abbrev pub burns : ℕ → ℕ → ℕ → ℕ → List ℕ
burns d o b R =
    let burned = burned_by (guard listing) d b R in
    burned ∷ oxidised_by d o R burned ∷ []

-- a cell of the listing's stratum with so many mm entered, and area × q = K = 5,000,000
abbrev pub cell_entered : ℕ → Cell
cell_entered mm = record { stratum = 0; conversion = 1; entered = mm; area = 10000; density = 500 }

-- its year 1 in a book that says so much is oxidised and burned: burned, oxidised
abbrev pub loses : List ℕ → ℕ → ℕ → ℕ → List ℕ
loses l mm o b =
    let s = year_loss (head l) (table l) (cell_entered mm) (record { withdrawn = false; plan = 1; oxidised = o; burned = b }) 1 in
    s.burned ∷ s.oxidised ∷ []

-- "Entered .., first row": the cell's first year, with the listing's row of d 700, o 45, b 340
abbrev pub enters : ℕ → List ℕ
enters mm = loses listing mm 0 0

-- its book as opened, and after each of its years is closed and issued: year, tonnes issued in two words, plan year, O, B
abbrev pub opened : List ℕ
opened = 0x80000000 ∷ 0x90000000 ∷ 0x90000000 ∷ 0xA0000001 ∷ 0xB0000000 ∷ 0xC0000000 ∷ []

abbrev pub after_one : List ℕ
after_one = 0x80000001 ∷ 0x90000000 ∷ 0x90000229 ∷ 0xA0000001 ∷ 0xB000002D ∷ 0xC000012C ∷ []

abbrev pub after_two : List ℕ
after_two = 0x80000002 ∷ 0x90000000 ∷ 0x9000026C ∷ 0xA0000001 ∷ 0xB000005A ∷ 0xC000012C ∷ []

-- the first listing with another word 1, and with a word 1 and a site word
abbrev pub with_word_1 : ℕ → List ℕ
with_word_1 w = 0x10010102 ∷ w ∷ 0x3460B554 ∷ 0x3460B400 ∷ 0x400107D0 ∷ 0x527101F4 ∷ []

abbrev pub with_words : ℕ → ℕ → List ℕ
with_words w x = 0x10010102 ∷ w ∷ x ∷ 0x3460B554 ∷ 0x3460B400 ∷ 0x400107D0 ∷ 0x527101F4 ∷ []

-- with guard 500 and least thickness 300, and its books after each of its years
abbrev pub with_site : List ℕ
with_site = with_words 0x2014190C 0x707D012C

abbrev pub site_after_one : List ℕ
site_after_one = 0x80000001 ∷ 0x90000000 ∷ 0x90000187 ∷ 0xA0000001 ∷ 0xB000002D ∷ 0xC00000C8 ∷ []

abbrev pub site_after_two : List ℕ
site_after_two = 0x80000002 ∷ 0x90000000 ∷ 0x900001C8 ∷ 0xA0000001 ∷ 0xB000005A ∷ 0xC00000C8 ∷ []

-- what is refused: that listing with least thickness 2,001, and with guard 2,001 before a first row of kind 0
abbrev pub thickness_2001 : List ℕ
thickness_2001 = with_words 0x2014190C 0x707D07D1

abbrev pub guard_2001 : List ℕ
guard_2001 = 0x10010102 ∷ 0x2014190C ∷ 0x71F4412C ∷ 0x0460B554 ∷ 0x3460B400 ∷ 0x400107D0 ∷ 0x527101F4 ∷ []

-- and the first listing with kind 7 in place of its first row's
abbrev pub row_of_kind_7 : List ℕ
row_of_kind_7 = 0x10010102 ∷ 0x2014190C ∷ 0x7460B554 ∷ 0x3460B400 ∷ 0x400107D0 ∷ 0x527101F4 ∷ []

-- with char percentage 20, and its books after each of its years
abbrev pub with_char : List ℕ
with_char = with_word_1 0x2A14190C

abbrev pub char_after_one : List ℕ
char_after_one = 0x80000001 ∷ 0x90000000 ∷ 0x900001D1 ∷ 0xA0000001 ∷ 0xB000002D ∷ 0xC000012C ∷ []

abbrev pub char_after_two : List ℕ
char_after_two = 0x80000002 ∷ 0x90000000 ∷ 0x90000214 ∷ 0xA0000001 ∷ 0xB000005A ∷ 0xC000012C ∷ []

-- with the site word and a char percentage of 2: an emission that is not whole
abbrev pub with_site_and_char : List ℕ
with_site_and_char = with_words 0x2114190C 0x707D012C

-- three years of one row, d 450 from the benchmark, and the books after each
abbrev pub benchmark : List ℕ
benchmark = 0x10010103 ∷ 0x2014190C ∷ 0x32D0B554 ∷ 0x32D0B554 ∷ 0x32D0B554 ∷ 0x400107D0 ∷ 0x527101F4 ∷ []

abbrev pub benchmark_after_one : List ℕ
benchmark_after_one = 0x80000001 ∷ 0x90000000 ∷ 0x90000093 ∷ 0xA0000001 ∷ 0xB000002D ∷ 0xC0000032 ∷ []

abbrev pub benchmark_after_two : List ℕ
benchmark_after_two = 0x80000002 ∷ 0x90000000 ∷ 0x900000D4 ∷ 0xA0000001 ∷ 0xB000005A ∷ 0xC0000032 ∷ []

abbrev pub benchmark_after_three : List ℕ
benchmark_after_three = 0x80000003 ∷ 0x90000000 ∷ 0x90000117 ∷ 0xA0000001 ∷ 0xB0000087 ∷ 0xC0000032 ∷ []

-- two years of a first row with oxidation up to 1,023 mm, so that water ends it after a fire
abbrev pub wide : List ℕ
wide = 0x10010102 ∷ 0x2014190C ∷ 0x32DFFD54 ∷ 0x32D0B554 ∷ 0x400107D0 ∷ 0x527101F4 ∷ []

-- two years of 255 cm, of which late losses are asked
abbrev pub deep : List ℕ
deep = 0x10010102 ∷ 0x2014190C ∷ 0x3FF0B554 ∷ 0x3FF0B554 ∷ 0x400107D0 ∷ 0x527101F4 ∷ []

-- with a thousand cells, which are not there, and with one more
abbrev pub with_cells : ℕ → List ℕ
with_cells n = (n * 2 ^ 16 + 0x10000102) ∷ 0x2014190C ∷ 0x3460B554 ∷ 0x3460B400 ∷ 0x400107D0 ∷ 0x527101F4 ∷ []

-- the number and the place of a refused listing
abbrev pub refusal : List ℕ → List ℕ
refusal l = (checked l).number ∷ (checked l).place ∷ []

-- a slice lent full of zeros
abbrev pub zeros : ℕ → List ℕ
zeros zero = []
zeros (suc n) = 0 ∷ zeros n

-- the year after a book, as `peatrun` prints it (mm oxidised and burned, kg, tonnes), and the book then
abbrev pub year : List ℕ → List ℕ → List ℕ
year l b =
    let m = close_effect l b (zeros 3) in
    let paid = issue_effect l m.book in
    oxidised_line m.output 0 ∷ burned_line m.output 0 ∷ kg_line m.output 0 ∷ paid.answer.value ∷ paid.book

-- a book of the old shape of the first listing: its words of year, tonnes issued and plan year; O 45 and B 300
abbrev pub old_book : ℕ → ℕ → ℕ → List ℕ
old_book w₀ w₁ w₂ = w₀ ∷ w₁ ∷ w₂ ∷ 0xB000002D ∷ 0xC000012C ∷ []

-- what a conversion with listing l answers and leaves in a slice: number, place and the slice
abbrev pub converts : List ℕ → List ℕ → List ℕ → List ℕ
converts l old new = let m = convert_effect l old new in m.answer.number ∷ m.answer.place ∷ m.book

-- what an issue on the first listing answers and leaves: number, place, tonnes and the book
abbrev pub issues : List ℕ → List ℕ
issues b = let m = issue_effect listing b in m.answer.number ∷ m.answer.place ∷ m.answer.value ∷ m.book

-- seven words that a slice may hold
abbrev pub sevens : List ℕ
sevens = 7 ∷ 7 ∷ 7 ∷ 7 ∷ 7 ∷ 7 ∷ 7 ∷ []

-- the book after the first year, with other words of tonnes issued
abbrev pub with_tonnes : ℕ → ℕ → List ℕ
with_tonnes high low = 0x80000001 ∷ high ∷ low ∷ 0xA0000001 ∷ 0xB000002D ∷ 0xC000012C ∷ []

-- and after the second, where nothing was paid
abbrev pub after_two_with_tonnes : ℕ → ℕ → List ℕ
after_two_with_tonnes high low = 0x80000002 ∷ high ∷ low ∷ 0xA0000001 ∷ 0xB000005A ∷ 0xC000012C ∷ []

-- a depth by the patterns of its binary32 numbers
abbrev pub core : ℕ → List ℕ
core pattern = (depth (Core (of_bits binary32 pattern))).value ∷ []

abbrev pub levels : ℕ → ℕ → List ℕ
levels surface base = (depth (Levels (of_bits binary32 surface) (of_bits binary32 base))).value ∷ []

-- a test of logged blocks: number, place, average, and 1 where the left side is at least the right
abbrev pub logged_test : ℕ → ℕ → List ℕ → List ℕ → List ℕ → List ℕ
logged_test T strata densities areas discounts =
    let t = logged T strata densities areas discounts in
    t.answer.number ∷ t.answer.place ∷ t.figures.average ∷ cond t.figures.holds 1 0 ∷ []

-- three years of two strata
abbrev pub densities : List ℕ
densities = 1200 ∷ 800 ∷ 1100 ∷ 700 ∷ 600 ∷ 900 ∷ 500 ∷ 1000 ∷ []

abbrev pub areas : List ℕ
areas = 10 ∷ 20 ∷ 15 ∷ 20 ∷ 15 ∷ 25 ∷ []

abbrev pub discounts : List ℕ
discounts = 9000 ∷ 10000 ∷ []

-- two years of one stratum, with none taken off
abbrev pub one_stratum : ℕ → ℕ → ℕ → ℕ → ℕ → List ℕ
one_stratum c₀ c₁ c₂ a₁ a₂ = logged_test 2 1 (c₀ ∷ c₁ ∷ c₂ ∷ []) (a₁ ∷ a₂ ∷ []) (10000 ∷ [])

-- two years of two strata: 100 at half in year 1 of the first, and 40 in year 2 of the second
abbrev pub two_strata : ℕ → ℕ → ℕ → ℕ → List ℕ
two_strata a₁ a₂ a₃ a₄ = logged_test 2 2 (0 ∷ 0 ∷ 100 ∷ 0 ∷ 0 ∷ 40 ∷ []) (a₁ ∷ a₂ ∷ a₃ ∷ a₄ ∷ []) (5000 ∷ 10000 ∷ [])

-- lists of zeros: so many densities, areas and discounts, and as many as T and the strata ask
abbrev pub zeros_of : ℕ → ℕ → ℕ → ℕ → ℕ → List ℕ
zeros_of T strata x y z = logged_test T strata (zeros x) (zeros y) (zeros z)

abbrev pub all_zero : ℕ → ℕ → List ℕ
all_zero T strata = zeros_of T strata ((T + 1) * strata) (T * strata) strata

-- a year of one stratum with one density, area and discount
abbrev pub one_year : ℕ → ℕ → ℕ → List ℕ
one_year density area discount = logged_test 1 1 (density ∷ density ∷ []) (area ∷ []) (discount ∷ [])

abbrev pub rows : List Row
rows =
    row (burns 700 45 340 2000) (300 ∷ 45 ∷ [])
    ∷ row (burns 400 45 340 2000) (0 ∷ 45 ∷ [])
    ∷ row (burns 410 45 340 2000) (10 ∷ 45 ∷ [])
    ∷ row (burns 700 45 340 200) (200 ∷ 0 ∷ [])
    ∷ row (burns 30 45 0 2000) (0 ∷ 30 ∷ [])
    ∷ row (enters 299) (0 ∷ 0 ∷ [])
    ∷ row (enters 300) (300 ∷ 0 ∷ [])
    ∷ row (emission (head listing) (cell_entered 2000) 45 300 ∷ []) (692500 ∷ [])
    ∷ row (open_effect listing (zeros 6)).book opened
    ∷ row (year listing opened) (45 ∷ 300 ∷ 692500 ∷ 553 ∷ after_one)
    ∷ row (year listing after_one) (45 ∷ 0 ∷ 82500 ∷ 67 ∷ after_two)
    ∷ row ((statement_answer listing after_two 0).figures.remaining ∷ []) (1610 ∷ [])
    ∷ row (year appended opened) (45 ∷ 300 ∷ 692500 ∷ 553 ∷ after_one)
    ∷ row (take 4 (year appended after_one)) (45 ∷ 0 ∷ 82500 ∷ 0 ∷ [])
    ∷ row (core 0x3F333333) (699 ∷ [])
    ∷ row (levels 0x41480000 0x41240000) (2250 ∷ [])
    ∷ row (factor 22500 1000 ∷ []) (10000 ∷ [])
    ∷ row (factor 22501 1000 ∷ []) (8499 ∷ [])
    ∷ row (factor 40000 1000 ∷ []) (8000 ∷ [])
    ∷ row (year with_site opened) (45 ∷ 200 ∷ 489166 ∷ 391 ∷ site_after_one)
    ∷ row (year with_site site_after_one) (45 ∷ 0 ∷ 82500 ∷ 65 ∷ site_after_two)
    ∷ row ((statement_answer with_site site_after_two 0).figures.remaining ∷ []) (1710 ∷ [])
    ∷ row (refusal thickness_2001) (4 ∷ 2 ∷ [])
    ∷ row (refusal guard_2001) (4 ∷ 2 ∷ [])
    ∷ row (refusal row_of_kind_7) (3 ∷ 6 ∷ [])
    ∷ row (refusal (with_word_1 0x7014190C)) (2 ∷ 1 ∷ [])
    ∷ row (take 4 (year (with_word_1 0x2094190C) opened)) (45 ∷ 300 ∷ 687000 ∷ 549 ∷ [])
    ∷ row (take 4 (year (with_word_1 0x2F94190C) opened)) (45 ∷ 300 ∷ 522000 ∷ 417 ∷ [])
    ∷ row (year with_char opened) (45 ∷ 300 ∷ 582500 ∷ 465 ∷ char_after_one)
    ∷ row (year with_char char_after_one) (45 ∷ 0 ∷ 82500 ∷ 67 ∷ char_after_two)
    ∷ row ((statement_answer with_char char_after_two 0).figures.remaining ∷ []) (1610 ∷ [])
    ∷ row ((statement_answer with_char char_after_two 0).figures.kg ∷ []) (665000 ∷ [])
    ∷ row (take 4 (year with_site_and_char opened)) (45 ∷ 200 ∷ 481833 ∷ 384 ∷ [])
    ∷ row (refusal (with_word_1 0x2FE5190C)) (2 ∷ 1 ∷ [])
    ∷ row (year benchmark opened) (45 ∷ 50 ∷ 184166 ∷ 147 ∷ benchmark_after_one)
    ∷ row (year benchmark benchmark_after_one) (45 ∷ 0 ∷ 82500 ∷ 65 ∷ benchmark_after_two)
    ∷ row (year benchmark benchmark_after_two) (45 ∷ 0 ∷ 82500 ∷ 67 ∷ benchmark_after_three)
    ∷ row ((statement_answer benchmark benchmark_after_three 0).figures.remaining ∷ []) (1815 ∷ [])
    ∷ row (loses benchmark 2000 0 49) (1 ∷ 45 ∷ [])
    ∷ row (loses benchmark 2000 45 5) (0 ∷ 45 ∷ [])
    ∷ row (loses benchmark 2000 206 200) (0 ∷ 44 ∷ [])
    ∷ row (loses benchmark 2000 250 200) (0 ∷ 0 ∷ [])
    ∷ row (loses benchmark 2000 451 0) (0 ∷ 0 ∷ [])
    ∷ row (loses wide 2000 0 0) (50 ∷ 400 ∷ [])
    ∷ row (loses wide 2000 30 0) (20 ∷ 400 ∷ [])
    ∷ row (loses deep 20000 1200 900) (50 ∷ 45 ∷ [])
    ∷ row (loses deep 20000 1500 1049) (0 ∷ 1 ∷ [])
    ∷ row (loses deep 2130 1200 900) (30 ∷ 0 ∷ [])
    ∷ row (refusal (with_cells 1000)) (3 ∷ 6 ∷ [])
    ∷ row (refusal (with_cells 1001)) (2 ∷ 0 ∷ [])
    ∷ row (4 * most_words ∷ []) (17212 ∷ [])
    ∷ row (converts listing (old_book 0x80000001 0x90000229 0xA0000001) (zeros 6)) (0 ∷ 0 ∷ after_one)
    ∷ row (converts listing (old_book 0x80000002 0x9FFFFFFF 0xA0000102) sevens) (0 ∷ 0 ∷ 0x80000002 ∷ 0x90000000 ∷ 0x9FFFFFFF ∷ 0xA0000102 ∷ 0xB000002D ∷ 0xC000012C ∷ 7 ∷ [])
    ∷ row (converts thickness_2001 [] []) (4 ∷ 2 ∷ [])
    ∷ row (converts listing (take 4 (old_book 0x80000001 0x90000229 0xA0000001)) (take 5 sevens)) (6 ∷ 4 ∷ take 5 sevens)
    ∷ row (converts listing (old_book 0x80000003 0x80000229 0xA0000001) (take 5 sevens)) (6 ∷ 5 ∷ take 5 sevens)
    ∷ row (converts listing (old_book 0x80000002 0x80000229 0xA0000103) sevens) (8 ∷ 1 ∷ sevens)
    ∷ row (converts listing (old_book 0x80000002 0x90000229 0xA0000103) sevens) (8 ∷ 2 ∷ sevens)
    ∷ row (converts listing after_one sevens) (8 ∷ 2 ∷ sevens)
    ∷ row (issues (old_book 0x80000001 0x90000229 0xA0000001)) (6 ∷ 5 ∷ 0 ∷ old_book 0x80000001 0x90000229 0xA0000001)
    ∷ row (issues (old_book 0x80000001 0x90000229 0xA0000001 ++ zeros 1)) (8 ∷ 2 ∷ 0 ∷ old_book 0x80000001 0x90000229 0xA0000001 ++ zeros 1)
    ∷ row (issues (with_tonnes 0x90000000 0x90000000)) (0 ∷ 0 ∷ 553 ∷ after_one)
    ∷ row (year listing (with_tonnes 0x90000001 0x90000000)) (45 ∷ 0 ∷ 82500 ∷ 0 ∷ after_two_with_tonnes 0x90000001 0x90000000)
    ∷ row (issues (with_tonnes 0x9FFFFFFF 0x9FFFFFFF)) (0 ∷ 0 ∷ 0 ∷ with_tonnes 0x9FFFFFFF 0x9FFFFFFF)
    ∷ row (issues (with_tonnes 0x90000000 0x80000229)) (8 ∷ 2 ∷ 0 ∷ with_tonnes 0x90000000 0x80000229)
    ∷ row (logged_test 2 1 (100 ∷ 50 ∷ 30 ∷ []) (10 ∷ 10 ∷ []) (8000 ∷ [])) (0 ∷ 0 ∷ 72 ∷ 0 ∷ [])
    ∷ row (logged_test 3 2 densities areas discounts) (0 ∷ 0 ∷ 2153 ∷ 0 ∷ [])
    ∷ row (logged_test 3 2 (zeros 8) areas discounts) (0 ∷ 0 ∷ 0 ∷ 1 ∷ [])
    ∷ row (one_stratum 1 1 1 10 10) (0 ∷ 0 ∷ 1 ∷ 0 ∷ [])
    ∷ row (one_stratum 0 100 100 10 10) (0 ∷ 0 ∷ 100 ∷ 1 ∷ [])
    ∷ row (one_stratum 0 50 150 10 30) (0 ∷ 0 ∷ 100 ∷ 1 ∷ [])
    ∷ row (two_strata 1 0 0 1) (0 ∷ 0 ∷ 45 ∷ 1 ∷ [])
    ∷ row (two_strata 0 1 1 0) (0 ∷ 0 ∷ 45 ∷ 0 ∷ [])
    ∷ row (all_zero 0 1) (21 ∷ 0 ∷ 0 ∷ 0 ∷ [])
    ∷ row (all_zero 100 8) (0 ∷ 0 ∷ 0 ∷ 1 ∷ [])
    ∷ row (all_zero 101 1) (21 ∷ 0 ∷ 0 ∷ 0 ∷ [])
    ∷ row (all_zero 1 0) (21 ∷ 0 ∷ 0 ∷ 0 ∷ [])
    ∷ row (all_zero 1 9) (21 ∷ 0 ∷ 0 ∷ 0 ∷ [])
    ∷ row (zeros_of 2 1 2 2 1) (21 ∷ 0 ∷ 0 ∷ 0 ∷ [])
    ∷ row (zeros_of 2 1 4 2 1) (21 ∷ 0 ∷ 0 ∷ 0 ∷ [])
    ∷ row (zeros_of 2 1 3 1 1) (21 ∷ 0 ∷ 0 ∷ 0 ∷ [])
    ∷ row (zeros_of 2 1 3 3 1) (21 ∷ 0 ∷ 0 ∷ 0 ∷ [])
    ∷ row (zeros_of 2 1 3 2 0) (21 ∷ 0 ∷ 0 ∷ 0 ∷ [])
    ∷ row (zeros_of 2 1 3 2 2) (21 ∷ 0 ∷ 0 ∷ 0 ∷ [])
    ∷ row (logged_test 1 1 (10001 ∷ []) (10001 ∷ []) (10001 ∷ [])) (21 ∷ 0 ∷ 0 ∷ 0 ∷ [])
    ∷ row (one_year 1 1 5000) (0 ∷ 0 ∷ 1 ∷ 0 ∷ [])
    ∷ row (one_year 10000 10000 10000) (0 ∷ 0 ∷ 20000 ∷ 0 ∷ [])
    ∷ row (one_year 10001 10001 10001) (22 ∷ 0 ∷ 0 ∷ 0 ∷ [])
    ∷ row (one_year 10000 10001 10001) (22 ∷ 1 ∷ 0 ∷ 0 ∷ [])
    ∷ row (one_year 10000 10000 10001) (22 ∷ 2 ∷ 0 ∷ 0 ∷ [])
    ∷ []

-- the theorem
abbrev pub EveryRow : Type 0
EveryRow = map (λ (r : Row). r.given) rows ≡ map (λ (r : Row). r.paper) rows
