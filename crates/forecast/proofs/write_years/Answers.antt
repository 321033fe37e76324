-- `forecast::write_years` meets its contract: the years are worked out, and then the book is written. Assumes nothing.
use mathlib.Core.Path.{ap, ap₂, ◌∙◌}
use mathlib.Core.List.{List}
use Prim.Native.Nat.{ℕ}
use Rattle.listing.proofs.Accepted.{listing_horizon}
use Rattle.book.specs.Current.{with_issued}
use Rattle.book.specs.Held.{new_book}
use Rattle.book.specs.Layout.{with_year}
use Rattle.forecast.proofs.write_years.Goals as goal

pub returns-clause-new_book : goal.returns-clause-new_book
unfolding new_book
returns-clause-new_book c =
    c.put_issued.ensures
    ∙ ap (λ (d : List ℕ). with_issued d 0) (c.put_year.ensures ∙ ap₂ with_year c.put_cells.ensures (listing_horizon c.args.listing.now))
