-- `peatrun::run_years` meets its contract: each iteration closes and issues a year, and leaves an opened book. Assumes nothing.
use borrow.Author.Rules.{rules}
use mathlib.Core.Path.{◌≡◌, refl, ap}
use native.Mathlib.Omega.{arith}
use Rattle.fields.specs.declared.Head.{Head}
use Rattle.listing.specs.Layout.{horizon}
use Rattle.peatrun.specs.Years.{ran_for}
use Rattle.peatrun.proofs.Years.{closable, ran_opened, ran_next}
use Rattle.peatrun.proofs.run_years.Goals as goal

pub run_year-tonnes-requires : goal.run_year-tonnes-requires
run_year-tonnes-requires g c =
    let count = ap (λ (h : Head). h.horizon) c.head-horizon.ensures in
    let capacity = c.requires.1 in
    closable _ _ _ c.loop-year.invariant.opened (omega (arith, count, c.loop-year-test.true)) _ (omega (arith, c.loop-year.invariant.capacity, capacity))

pub loop-year-init : goal.loop-year-init
unfolding ran_for
loop-year-init g c = record { opened = c.requires.0; capacity = refl; book_is = refl; lines_are = refl }

pub loop-year-preserved : goal.loop-year-preserved
loop-year-preserved g c =
    let before = c.loop-year.invariant in
    let both = ran_next _ (record { book = c.args.book.now; lines = c.args.lines.now }) _ _ _ _ _ _ before.book_is before.lines_are c.run_year-tonnes.ensures in
    record { opened = ran_opened _ _ _ _ _ _ _ before.opened c.run_year-tonnes.ensures; capacity = search rules; book_is = both.0; lines_are = both.1 }

pub returns : goal.returns
returns g c =
    let count = ap (λ (h : Head). h.horizon) c.head-horizon.ensures in
    let all : c.loop-year.year ≡ horizon c.args.listing.now = omega (arith, count) in
    record { new_book = c.loop-year.invariant.opened.admits; every_year = rw all at c.loop-year.invariant.book_is }

pub returns-in_err-print_year-clause-new_book : goal.returns-in_err-print_year-clause-new_book
returns-in_err-print_year-clause-new_book g c = (ran_opened _ _ _ _ _ _ _ c.loop-year.invariant.opened c.run_year-tonnes.ensures).admits
