-- Document 01, "Project listing" and "Book and calls": the kind of each word, its bits 31–28.
use Rattle.std.specs.Prelude.{ℕ}
use Rattle.words.specs.declared.Kind.{Kind}
use Rattle.words.specs.declared.Kind.TheVariants as kinds

-- the number that each kind of the code stands for: words 0 and 1, a table's, a cell's two, a term's, the site's; the book's year, tonnes
-- issued, mark and plan year, O, B; a closing's three lines
abbrev pub kind_of : Kind → ℕ
kind_of kinds.Size = 1
kind_of kinds.Figure = 2
kind_of kinds.Table = 3
kind_of kinds.Depth = 4
kind_of kinds.Area = 5
kind_of kinds.Term = 6
kind_of kinds.Site = 7
kind_of kinds.Year = 8
kind_of kinds.Issued = 9
kind_of kinds.Plan = 10
kind_of kinds.Oxidised = 11
kind_of kinds.Burned = 12
kind_of kinds.OxidisedLine = 13
kind_of kinds.BurnedLine = 14
kind_of kinds.KgLine = 15
