-- Document 01, "Where a call stops", with the site word of document 02: the check of a listing, numbers 1 to 5.
use Rattle.std.specs.Prelude.{ℕ, ◌+◌, ◌-◌, ◌%◌, Bool, cond, List, leb, eqb, get_or, length}
use Rattle.words.specs.Answers.{Answer, accepted, need, need_all}
use Rattle.words.specs.Refusals.{too_few_words, head_word, listing_short, later_word, term_not_above}
use Rattle.fields.specs.Words.{is_size_word, is_figure_word, is_site_valid, is_table_word, is_depth_word, is_area_word, is_term_word, is_above}
use Rattle.fields.specs.declared.Head.{Head}
use Rattle.listing.specs.Layout.{least_words, site_at, cell_words, head, offsets}
use Rattle.listing.specs.declared.Offsets.{Offsets}

-- "kind, zero bits or range" of the word at place k: of a table
abbrev pub table_word_valid : List ℕ → ℕ → Bool
table_word_valid l k = is_table_word (get_or l k 0)

-- of the cells, from `start` on: a cell's two words alternate
unfoldable pub is_cell_word : ℕ → ℕ → ℕ → ℕ → Bool
is_cell_word strata horizon offset w = cond (eqb offset 0) (is_depth_word strata horizon w) (is_area_word w)

abbrev pub cell_word_valid : List ℕ → ℕ → ℕ → ℕ → ℕ → Bool
cell_word_valid l strata horizon start k = is_cell_word strata horizon ((k - start) % cell_words) (get_or l k 0)

-- of the terms
abbrev pub term_word_valid : List ℕ → ℕ → ℕ → Bool
term_word_valid l horizon k = is_term_word horizon (get_or l k 0)

-- the term at place k is above the one before
abbrev pub term_above : List ℕ → ℕ → Bool
term_above l k = is_above (get_or l (k - 1) 0) (get_or l k 0)

-- numbers 4 and 5, the words from the tables on: every 4 is tried before any 5
unfoldable pub words_checked : List ℕ → Head → Offsets → Answer
words_checked l h s =
    need_all later_word (table_word_valid l) s.tables s.cells
    (need_all later_word (cell_word_valid l h.strata h.horizon s.cells) s.cells s.terms
    (need_all later_word (term_word_valid l h.horizon) s.terms (length l)
    (need_all term_not_above (term_above l) (s.terms + 1) (length l)
    (accepted 0))))

-- number 3 before them: fewer words than strata × horizon + 2 × cells + 2, or + 3 with the site word, so that the terms would begin after the
-- end; place its length. Then number 4 for the site word; a head without one passes
unfoldable pub later_checked : List ℕ → Head → Offsets → Answer
later_checked l h s =
    need (leb s.terms (length l)) listing_short (length l)
    (need (is_site_valid h) later_word site_at
    (words_checked l h s))

-- the answer for any list of words: 1, fewer than 2; 2, word 0 or 1 by kind or range; then the rest
unfoldable pub checked : List ℕ → Answer
checked l =
    need (leb least_words (length l)) too_few_words 0
    (need (is_size_word (get_or l 0 0)) head_word 0
    (need (is_figure_word (get_or l 1 0)) head_word 1
    (later_checked l (head l) (offsets l))))
