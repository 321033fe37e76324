-- What a book of any shape holds for a listing l, once entries were written, and what is read from it.
use Rattle.std.specs.Prelude.{ℕ, ◌<◌, ◌≡◌, true, List}
use Rattle.words.specs.Blocks.{filled}
use Rattle.listing.specs.Layout.{head, cells, cell}
use Rattle.year.specs.Year.{kg_of}
use Rattle.year.specs.declared.Entry.{Entry}
use Rattle.book.specs.Layout.{year, issued, entry, with_year, with_issued, held_words}
use Rattle.book.specs.Check.{admitted}
use Rattle.book.specs.declared.Shape.{Shape}

-- the kg to date of cell i
abbrev pub kg_to_date : Shape → List ℕ → List ℕ → ℕ → ℕ
kg_to_date s l b i = kg_of (head l) (cell l i) (entry s b i)

-- the words of entry e i
abbrev pub held_at : Shape → (ℕ → Entry) → ℕ → List ℕ
held_at s e i = held_words s.entry (e i)

-- book b written anew: year t, n tonnes issued, and entry e i for each cell; the words beyond those needed are untouched
unfoldable pub new_book : Shape → List ℕ → List ℕ → ℕ → ℕ → (ℕ → Entry) → List ℕ
new_book s l b t n e = with_issued s (with_year (filled s.entry b s.head (held_at s e) (cells l)) t) n

-- book b is accepted, and it holds year t, n tonnes issued, and entry e i of each cell
pub record Holds (s : Shape) (l b : List ℕ) (t n : ℕ) (e : ℕ → Entry) : Type 0 where
  pub admits : (admitted s l b).done ≡ true
  pub year_is : year b ≡ t
  pub issued_is : issued s b ≡ n
  pub entry_is : (i : ℕ) → i < cells l → entry s b i ≡ e i
