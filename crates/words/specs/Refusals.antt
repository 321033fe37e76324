-- Document 01, "Where a call stops", and the change requests: the number of each refusal, in the table's order, and its place. When each is given
-- is stated in the crate that tests it.
use Rattle.std.specs.Prelude.{ℕ}
use Rattle.words.specs.declared.Reason.{Reason}
use Rattle.words.specs.declared.Reason.TheVariants as reasons

-- listing: too few words for a head; place 0
abbrev pub too_few_words : ℕ
too_few_words = 1

-- word 0 or 1 is invalid; its index
abbrev pub head_word : ℕ
head_word = 2

-- too short for its head; its length
abbrev pub listing_short : ℕ
listing_short = 3

-- a later word that is invalid; its index
abbrev pub later_word : ℕ
later_word = 4

-- term not above the one before; the later index
abbrev pub term_not_above : ℕ
term_not_above = 5

-- buffers: book too short; its length
abbrev pub book_short : ℕ
book_short = 6

-- lines too short (close); its length
abbrev pub lines_short : ℕ
lines_short = 7

-- book: a word that is invalid; its index
abbrev pub book_word : ℕ
book_word = 8

-- call: close at the horizon; 0
abbrev pub horizon_reached : ℕ
horizon_reached = 9

-- no such cell (replan, withdraw, statement); 0
abbrev pub no_such_cell : ℕ
no_such_cell = 10

-- cell withdrawn (replan, withdraw); 0
abbrev pub cell_withdrawn : ℕ
cell_withdrawn = 11

-- cell converted already (replan); 0
abbrev pub cell_converted : ℕ
cell_converted = 12

-- new year not ahead (replan); 0
abbrev pub year_not_ahead : ℕ
year_not_ahead = 13

-- a kg line too large for its word (close); the cell
abbrev pub line_too_large : ℕ
line_too_large = 14

-- forecast: output too short; its length
abbrev pub output_short : ℕ
output_short = 15

-- reading: not finite; 0 or 1, of a dip its index
abbrev pub not_finite : ℕ
not_finite = 16

-- out of range; 0, 1 or 2, of a dip its index
abbrev pub out_of_range : ℕ
out_of_range = 17

-- missing; 0
abbrev pub reading_missing : ℕ
reading_missing = 18

-- discount: invalid list lengths; 0
abbrev pub list_lengths : ℕ
list_lengths = 19

-- a value too large; the list, 0–3
abbrev pub value_too_large : ℕ
value_too_large = 20

-- logged blocks: invalid years, strata or length of a table; 0
abbrev pub logged_sizes : ℕ
logged_sizes = 21

-- a value too large; the list, 0–2
abbrev pub logged_value_too_large : ℕ
logged_value_too_large = 22

-- dips: lists of one recording that differ in length; 0
abbrev pub dips_lengths : ℕ
dips_lengths = 23

-- day not above the one before; the later index
abbrev pub day_not_above : ℕ
day_not_above = 24

-- the number that each reason of the code stands for
abbrev pub number_of : Reason → ℕ
number_of reasons.TooFewWords = too_few_words
number_of reasons.HeadWord = head_word
number_of reasons.ListingShort = listing_short
number_of reasons.LaterWord = later_word
number_of reasons.TermNotAbove = term_not_above
number_of reasons.BookShort = book_short
number_of reasons.LinesShort = lines_short
number_of reasons.BookWord = book_word
number_of reasons.HorizonReached = horizon_reached
number_of reasons.NoSuchCell = no_such_cell
number_of reasons.CellWithdrawn = cell_withdrawn
number_of reasons.CellConverted = cell_converted
number_of reasons.YearNotAhead = year_not_ahead
number_of reasons.OutputShort = output_short
number_of reasons.NotFinite = not_finite
number_of reasons.OutOfRange = out_of_range
number_of reasons.ReadingMissing = reading_missing
number_of reasons.ListLengths = list_lengths
number_of reasons.ValueTooLarge = value_too_large
number_of reasons.LoggedSizes = logged_sizes
number_of reasons.LoggedValueTooLarge = logged_value_too_large
number_of reasons.DipsLengths = dips_lengths
number_of reasons.DayNotAbove = day_not_above
