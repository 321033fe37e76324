-- `peatrun::run_years` meets its contract: each iteration closes and issues a year, and leaves an opened book. Assumes nothing.
use mathlib.Core.Path.{◌≡◌}
use lib.ListN.{length}
use Rattle.peatrun.specs.Years.{InYear, ran_for}
use Rattle.peatrun.proofs.run_years.Given as goal

abbrev pub invariant-loop-year : goal.invariant-loop-year
invariant-loop-year g l =
    record {
      opened : InYear l.listing l.book l.year;
      capacity : length l.lines ≡ length l.initial.lines;
      book_is : l.book ≡ (ran_for l.listing (record { book = l.initial.book; lines = l.initial.lines }) l.year).book;
      lines_are : l.lines ≡ (ran_for l.listing (record { book = l.initial.book; lines = l.initial.lines }) l.year).lines;
    }
