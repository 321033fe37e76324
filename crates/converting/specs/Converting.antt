-- Document 02, "A thousand cells": what the conversion of a book answers and writes. `old` is the book, of shape `from`; `new` is the slice that it is
-- written into, in shape `to`, whose head has no fewer words for the tonnes issued.
use Rattle.std.specs.Prelude.{List, ℕ}
use Rattle.words.specs.Answers.{Answer, after}
use Rattle.book.specs.Layout.{year, issued, entry}
use Rattle.book.specs.Check.{capacity_checked, fitted, book_checked}
use Rattle.book.specs.Held.{new_book}
use Rattle.book.specs.declared.Shape.{Shape}

-- it refuses by 1 to 5, then by 6 for the old book's length, then by 6 for the new one's, then by 8 as the old book would
unfoldable pub convert_answer : Shape → Shape → List ℕ → List ℕ → List ℕ → Answer
convert_answer from to l old new = after (fitted from l old) (after (capacity_checked to l new) (book_checked from l old))

-- year, tonnes issued and the entry of each cell are those of the old book; the words beyond those needed are untouched
abbrev pub converted_book : Shape → Shape → List ℕ → List ℕ → List ℕ → List ℕ
converted_book from to l old new = new_book to l new (year old) (issued from old) (entry from old)
