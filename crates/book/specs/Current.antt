-- The book that the calls take: its shape, and at it what Layout, Check, Held and AcceptedBook state of every shape.
use Rattle.std.specs.Prelude.{ℕ, List}
use Rattle.words.specs.Answers.{Answer}
use Rattle.year.specs.declared.Entry.{Entry}
use Rattle.book.specs.Layout as layout
use Rattle.book.specs.Layout.{issued_in_two_words}
use Rattle.book.specs.Check as check
use Rattle.book.specs.Held as held
use Rattle.book.specs.AcceptedBook as accepted_book
use Rattle.book.specs.declared.Shape.{Shape}

-- two words of tonnes issued: number 6 asks for 3 + 3 × cells words
abbrev pub current : Shape
current = issued_in_two_words

-- where cell i begins, and how many words a book of n cells needs
abbrev pub entry_at : ℕ → ℕ
entry_at = layout.entry_at current

abbrev pub book_size : ℕ → ℕ
book_size = layout.book_size current

-- what is read from it
abbrev pub issued : List ℕ → ℕ
issued = layout.issued current

abbrev pub words_of : List ℕ → ℕ → List ℕ
words_of = layout.words_of current

abbrev pub entry : List ℕ → ℕ → Entry
entry = layout.entry current

abbrev pub kg_to_date : List ℕ → List ℕ → ℕ → ℕ
kg_to_date = held.kg_to_date current

abbrev pub Holds : List ℕ → List ℕ → ℕ → ℕ → (ℕ → Entry) → Type 0
Holds = held.Holds current

-- what is written
abbrev pub with_issued : List ℕ → ℕ → List ℕ
with_issued = layout.with_issued current

abbrev pub with_plan : List ℕ → ℕ → Entry → List ℕ
with_plan = layout.with_plan current

abbrev pub held_at : (ℕ → Entry) → ℕ → List ℕ
held_at = held.held_at current

abbrev pub new_book : List ℕ → List ℕ → ℕ → ℕ → (ℕ → Entry) → List ℕ
new_book = held.new_book current

-- its check
abbrev pub fitted : List ℕ → List ℕ → Answer
fitted = check.fitted current

abbrev pub book_checked : List ℕ → List ℕ → Answer
book_checked = check.book_checked current

abbrev pub admitted : List ℕ → List ℕ → Answer
admitted = check.admitted current

-- what an accepted one guarantees
abbrev pub Fitted : List ℕ → List ℕ → Type 0
Fitted = accepted_book.Fitted current

abbrev pub CellInBook : List ℕ → ℕ → Type 0
CellInBook = accepted_book.CellInBook current

abbrev pub AcceptedBook : List ℕ → List ℕ → Type 0
AcceptedBook = accepted_book.AcceptedBook current
