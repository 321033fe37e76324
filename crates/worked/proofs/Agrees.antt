-- Every row of the worked figures agrees with the definitions, by computation. Assumes nothing.
use mathlib.Core.Path.{refl}
use lib.Ieee.{of_bits}
use Rattle.words.specs.Answers.{need, need_none, after}
use Rattle.words.specs.Bits.{twos_complement, at_least_0, is_kind, within}
use Rattle.words.specs.Blocks.{filled}
use Rattle.words.specs.Search.{first_invalid_in, first_invalid}
use Rattle.fields.specs.Fields.{head_of, row_of, cell_of, yearly_term_of}
use Rattle.fields.specs.Words.{is_size_word, is_figure_word, is_site_valid, is_depth_word, is_area_word, is_listed_term, is_term_word, is_above}
use Rattle.listing.specs.Check.{is_cell_word, words_checked, later_checked, checked}
use Rattle.listing.specs.Layout.{tables_at, offsets_of}
use Rattle.terms.specs.Terms.{counted, total}
use Rattle.words.specs.Effect.{written}
use Rattle.words.specs.Sums.{sum_below}
use Rattle.year.specs.Year.{unconverted, inactive, burned_by, oxidised_by, mm_of, year_mm, burned_weight, emission, year_loss, most_loss}
use Rattle.book.specs.Check.{is_year_word, is_plan_word, is_burned_word, is_head_word, entry_word_valid, book_word_valid, capacity_checked, fitted, book_checked, admitted}
use Rattle.book.specs.Layout.{joined, year, issued, entry_of, stored, held_words, lines_of}
use Rattle.book.specs.Held.{new_book}
use Rattle.balance.specs.Balance.{peat_tonnes, withheld, balance_of, due}
use Rattle.closing.specs.Closing.{closed_lines, book_after, lines_after, lines_checked, line_fits, year_checked, close_answer}
use Rattle.converting.specs.Converting.{convert_answer}
use Rattle.ledger.specs.Calls.{open_effect, convert_effect, close_effect, cell_checked, admitted_cell, issue_answer, issue_effect, figures_of, statement_answer}
use Rattle.reading.specs.Depth.{core, in_depth, levels}
use Rattle.reading.specs.Metres.{in_core, in_level, mm}
use Rattle.discount.specs.Discount.{greatest, not_above, factor}
use Rattle.sums.specs.Sums.{weighted, products, all_at_most}
use Rattle.logging.specs.Logging as logging
use Rattle.worked.specs.Worked.{EveryRow}

pub every_row : EveryRow
unfolding of_bits need need_none after written twos_complement at_least_0 is_kind within filled first_invalid_in first_invalid head_of row_of cell_of
    yearly_term_of is_size_word is_figure_word is_site_valid is_depth_word is_area_word is_listed_term is_term_word is_above is_cell_word
    words_checked later_checked checked tables_at offsets_of counted total unconverted inactive burned_by oxidised_by mm_of year_mm burned_weight
    emission year_loss most_loss is_year_word is_plan_word is_burned_word is_head_word entry_word_valid book_word_valid capacity_checked fitted
    book_checked admitted joined year issued entry_of stored held_words new_book lines_of sum_below peat_tonnes withheld balance_of due closed_lines
    book_after lines_after lines_checked line_fits year_checked close_answer open_effect convert_answer convert_effect close_effect cell_checked admitted_cell issue_answer
    issue_effect figures_of statement_answer core in_depth levels in_core in_level mm greatest not_above factor weighted products all_at_most
    logging.figures_of logging.sizes_valid logging.tables_checked logging.logged
every_row = refl
