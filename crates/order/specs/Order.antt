-- Beyond document 01, about a fault that users met (a release took the table row of the cell before, and a site that sorted its cells
-- otherwise got another total): a cell's year depends on its own words, and so no call depends on the order of the cells. `OwnWords`, `EveryOrder`,
-- `EveryBook` and `EveryForecast` are proved in the file of that name in proofs/, `SameTotals`, `EveryListing`, `EveryStart` and `Exchanges` in Orders.antt.
use Rattle.std.specs.Prelude.{◌≡◌, true, false, cond, List, [], ◌∷◌, ℕ, ◌+◌, ◌*◌, ◌≤◌, ◌<◌, eqb, length, get_or}
use Rattle.words.specs.Answers.{Answer}
use Rattle.words.specs.Effect.{Effect}
use Rattle.words.specs.Sums.{sum_below}
use Rattle.listing.specs.Layout.{head, cells, horizon, cell_words, offsets, row, cell_at, cell}
use Rattle.listing.specs.Check.{checked}
use Rattle.year.specs.Year.{unconverted, age}
use Rattle.year.specs.Limits.{SameFigures}
use Rattle.book.specs.Current.{current, entry_at, entry, admitted}
use Rattle.book.specs.Layout.{issued_in_one_word, line_words, year, line_at}
use Rattle.closing.specs.Closing.{loss, closed_words, closed_lines}
use Rattle.ledger.specs.Calls.{statement_answer, Start, Open, Convert, start_effect, start_book, Call, Close, Replan, Withdraw, Issue, call_effect, lines_buffer}
use Rattle.forecast.specs.Forecast.{forecast_effect}

-- the n words of x from place p on are those of y from place q on
abbrev pub SameWords : ℕ → List ℕ → ℕ → List ℕ → ℕ → Type 0
SameWords n x p y q = (k : ℕ) → k < n → get_or x (p + k) 0 ≡ get_or y (q + k) 0

-- ---- a cell's own words

-- the row that cell i's next closing uses, once the cell is converted, is that of listing l' for the same stratum and age
abbrev pub SameRow : List ℕ → List ℕ → ℕ → List ℕ → Type 0
SameRow l b i l' =
    unconverted (entry b i).plan (year b + 1) ≡ false →
    row l (cell l i).stratum (age (entry b i).plan (year b + 1)) ≡ row l' (cell l i).stratum (age (entry b i).plan (year b + 1))

-- cell i of listing l and book b has the words of cell i' of listing l' and book b'; other cells and sizes may differ
pub record SameCell (l b : List ℕ) (i : ℕ) (l' b' : List ℕ) (i' : ℕ) : Type 0 where
  pub figures : SameFigures (head l) (head l')
  pub listing_words : SameWords cell_words l (cell_at l i) l' (cell_at l' i')
  pub book_words : SameWords current.entry b (entry_at i) b' (entry_at i')
  pub year_is : year b ≡ year b'
  pub own_row : SameRow l b i l'

-- what the two cells lose is then the same, and so are their words and their lines after the year
pub record SameYear (l b : List ℕ) (i : ℕ) (l' b' : List ℕ) (i' : ℕ) : Type 0 where
  pub loss_is : loss l b i ≡ loss l' b' i'
  pub words_are : closed_words l b i ≡ closed_words l' b' i'
  pub lines_are : closed_lines l b i ≡ closed_lines l' b' i'

abbrev pub OwnWords : Type 0
OwnWords = (l b : List ℕ) (i : ℕ) (l' b' : List ℕ) (i' : ℕ) → SameCell l b i l' b' i' → SameYear l b i l' b' i'

-- ---- another order of the cells

-- an order of n cells: at place m now is what was at `from m`, and what was at k now is at `to k`; only cells change places
pub record Order (n : ℕ) : Type 0 where
  pub from : ℕ → ℕ
  pub to : ℕ → ℕ
  pub there : (m : ℕ) → to (from m) ≡ m
  pub back : (k : ℕ) → from (to k) ≡ k
  pub beyond : (m : ℕ) → n ≤ m → from m ≡ m

-- y has x's n blocks in that order, and the same words before them; blocks have `size` words and begin at place `at`
pub record Moved {n : ℕ} (o : Order n) (size at : ℕ) (x y : List ℕ) : Type 0 where
  pub before : SameWords at y 0 x 0
  pub block : (m : ℕ) → m < n → SameWords size y (at + size * m) x (at + size * o.from m)

-- l' is listing l with its cells in that order; its head, which words 0 to 2 give, its length and all its other words are the same
pub record ListingMoved {n : ℕ} (o : Order n) (l l' : List ℕ) : Type 0 where
  pub count : cells l ≡ n
  pub head_is : head l' ≡ head l
  pub length_is : length l' ≡ length l
  pub cells_moved : Moved o cell_words (offsets l).cells l l'
  pub terms_same : (k : ℕ) → (offsets l).terms ≤ k → get_or l' k 0 ≡ get_or l k 0

-- a book and a lines buffer, as far as the cells' words go: what follows them does not matter
abbrev pub BookMoved : {n : ℕ} → Order n → List ℕ → List ℕ → Type 0
BookMoved o = Moved o current.entry current.head

abbrev pub LinesMoved : {n : ℕ} → Order n → List ℕ → List ℕ → Type 0
LinesMoved o = Moved o line_words 0

-- a book of the old shape in that order, and as long
abbrev pub OldBookMoved : {n : ℕ} → Order n → List ℕ → List ℕ → Type 0
OldBookMoved o old old' = Moved o issued_in_one_word.entry issued_in_one_word.head old old' × (length old' ≡ length old)

-- of a start the old book that is converted; an open has none
abbrev pub StartMoved : {n : ℕ} → Order n → Start → List ℕ → Type 0
StartMoved o (Open b) old' = Unit {0}
StartMoved o (Convert old new) old' = OldBookMoved o old old'

-- listing and book
pub record ProjectMoved {n : ℕ} (o : Order n) (l b l' b' : List ℕ) : Type 0 where
  pub listing : ListingMoved o l l'
  pub book : BookMoved o b b'
  pub length_is : length b' ≡ length b

-- ---- the same calls

-- the start on l': an open of b', or a conversion of old' into b'
abbrev pub moved_start : Start → List ℕ → List ℕ → Start
moved_start (Open b) old' b' = Open b'
moved_start (Convert old new) old' b' = Convert old' b'

-- the call on l': of the same cell, where it now is, and a closing with a lines buffer y
abbrev pub moved : {n : ℕ} → Order n → List ℕ → Call → Call
moved o y (Close x) = Close y
moved o y (Replan k t) = Replan (o.to k) t
moved o y (Withdraw k) = Withdraw (o.to k)
moved o y Issue = Issue

-- what a call left on l and on l': the same answer, and so the same number and place of a refusal and the same tonnes; the book in that
-- order, and the lines of an accepted closing; and then a statement of each cell is the same, where it now is
pub record SameCall {n : ℕ} (o : Order n) (l l' : List ℕ) (m m' : Effect) : Type 0 where
  pub answer_is : m'.answer ≡ m.answer
  pub book_moved : BookMoved o m.book m'.book
  pub lines_moved : m.answer.done ≡ true → LinesMoved o m.output m'.output
  pub statement_is : (k : ℕ) → statement_answer l' m'.book (o.to k) ≡ statement_answer l m.book k

-- so at every call of a list, whatever a lines buffer y on l' holds that is as long as the one on l
unfoldable pub SameCalls : {n : ℕ} → Order n → List ℕ → List ℕ → List ℕ → List ℕ → List Call → Type 0
SameCalls o l l' b b' [] = Unit {0}
SameCalls o l l' b b' (c ∷ calls) =
    (y : List ℕ) → length y ≡ length (lines_buffer c) →
    SameCall o l l' (call_effect l b c) (call_effect l' b' (moved o y c)) × SameCalls o l l' (call_effect l b c).book (call_effect l' b' (moved o y c)).book calls

-- THE THEOREM: for every order of the cells of every listing that an open or the conversion of an old book accepts, with the old book's cells in that
-- order, every slice b' as long as the one that is written, and every list of calls, refused ones included
abbrev pub EveryOrder : Type 0
EveryOrder =
    (n : ℕ) (o : Order n) (l : List ℕ) (from : Start) (l' old' b' : List ℕ) → ListingMoved o l l' → StartMoved o from old' → length b' ≡ length (start_book from) →
    (start_effect l from).answer.done ≡ true →
    let from' = moved_start from old' b' in
    SameCall o l l' (start_effect l from) (start_effect l' from') × ((calls : List Call) → SameCalls o l l' (start_effect l from).book (start_effect l' from').book calls)

-- the same from any book that a call accepts
abbrev pub EveryOrderFrom : Type 0
EveryOrderFrom =
    (n : ℕ) (o : Order n) (l b l' b' : List ℕ) → ProjectMoved o l b l' b' → (admitted l b).done ≡ true → (calls : List Call) → SameCalls o l l' b b' calls

-- two answers that are the same but for the place
pub record ButForPlace (a a' : Answer) : Type 0 where
  pub done_is : a'.done ≡ a.done
  pub number_is : a'.number ≡ a.number
  pub value_is : a'.value ≡ a.value

-- any listing and any book, valid or not: a call is refused in every order or in none, by the same number. The place may be another: it
-- is that of the first invalid word, and which of two invalid cells is first depends on the order
pub record RefusedAlike {n : ℕ} (o : Order n) (l b l' b' : List ℕ) : Type 0 where
  pub started : (from : Start) (old' c' : List ℕ) → StartMoved o from old' → length c' ≡ length (start_book from) →
      ButForPlace (start_effect l from).answer (start_effect l' (moved_start from old' c')).answer
  pub called : (c : Call) (y : List ℕ) → length y ≡ length (lines_buffer c) → ButForPlace (call_effect l b c).answer (call_effect l' b' (moved o y c)).answer
  pub book_moved : (c : Call) (y : List ℕ) → length y ≡ length (lines_buffer c) → BookMoved o (call_effect l b c).book (call_effect l' b' (moved o y c)).book
  pub stated : (k : ℕ) → ButForPlace (statement_answer l b k).answer (statement_answer l' b' (o.to k)).answer
  pub forecasted : (x x' : List ℕ) → length x' ≡ length x → ButForPlace (forecast_effect l b x).answer (forecast_effect l' b' x').answer

abbrev pub EveryBook : Type 0
EveryBook = (n : ℕ) (o : Order n) (l b l' b' : List ℕ) → ProjectMoved o l b l' b' → RefusedAlike o l b l' b'

-- lines in another order come to the same, over all cells: mm oxidised, mm burned, kg
abbrev pub SameTotals : Type 0
SameTotals =
    (n : ℕ) (o : Order n) (x y : List ℕ) → LinesMoved o x y → (line : ℕ) → line < line_words → sum_below (line_at line y) n ≡ sum_below (line_at line x) n

-- ---- the forecast

-- what a forecast left on l, with an output x, and on l', with an output x': the same answer, and so the same total; where it is accepted,
-- the same kg of each year, and the scratch book in that order; beyond the horizon each output is as it was
pub record SameForecast {n : ℕ} (o : Order n) (l x x' : List ℕ) (m m' : Effect) : Type 0 where
  pub answer_is : m'.answer ≡ m.answer
  pub years_are : m.answer.done ≡ true → SameWords (horizon l) m'.output 0 m.output 0
  pub book_moved : m.answer.done ≡ true → BookMoved o m.book m'.book
  pub beyond : (k : ℕ) → horizon l ≤ k → (get_or m.output k 0 ≡ get_or x k 0) × (get_or m'.output k 0 ≡ get_or x' k 0)

-- for every listing that is valid, any two scratch books of one length, and any two outputs of one length
abbrev pub EveryForecast : Type 0
EveryForecast =
    (n : ℕ) (o : Order n) (l b x l' b' x' : List ℕ) → ListingMoved o l l' → length b' ≡ length b → length x' ≡ length x → (checked l).done ≡ true →
    SameForecast o l x x' (forecast_effect l b x) (forecast_effect l' b' x')

-- ---- there are orders, and for every valid listing there is one with its cells in that order

pub record Reordered {n : ℕ} (o : Order n) (l : List ℕ) : Type 0 where
  pub listing : List ℕ
  pub is : ListingMoved o l listing

abbrev pub EveryListing : Type 0
EveryListing = (n : ℕ) (o : Order n) (l : List ℕ) → cells l ≡ n → (checked l).done ≡ true → Reordered o l

-- and for every start that is accepted one with its cells in that order
pub record StartInOrder {n : ℕ} (o : Order n) (from : Start) : Type 0 where
  pub old_book : List ℕ
  pub is : StartMoved o from old_book

abbrev pub EveryStart : Type 0
EveryStart = (n : ℕ) (o : Order n) (l : List ℕ) (from : Start) → cells l ≡ n → (start_effect l from).answer.done ≡ true → StartInOrder o from

-- where i and j have changed places, what is at m came from here
unfoldable pub origin : ℕ → ℕ → ℕ → ℕ
origin i j m = cond (eqb m i) j (cond (eqb m j) i m)

-- two cells that change places are an order
pub record Exchange (i j n : ℕ) : Type 0 where
  pub order : Order n
  pub from_is : (m : ℕ) → order.from m ≡ origin i j m

abbrev pub Exchanges : Type 0
Exchanges = (i j n : ℕ) → i < n → j < n → Exchange i j n
