-- What an open writes. Assumes nothing.
use mathlib.Core.Path.{◌≡◌}
use mathlib.Core.Bool.{true}
use mathlib.Core.List.{List}
use Prim.Native.Nat.{ℕ, zero-le, ◌<◌}
use native.Mathlib.Omega.{arith}
use Rattle.listing.specs.Layout.{head, cells, cell}
use Rattle.listing.specs.Accepted.{Accepted}
use Rattle.book.specs.Current.{current, fitted, Holds}
use Rattle.book.specs.AcceptedBook.{EntryValid}
use Rattle.book.proofs.AcceptedBook.{shaped, fitted_accepted}
use Rattle.book.proofs.New.{new_holds}
use Rattle.opening.specs.Opening.{open_entry, open_book}

pub opened_valid : (l : List ℕ) → Accepted l → (i : ℕ) → i < cells l → EntryValid (head l) (cell l i) (open_entry l i)
opened_valid l a i lt = record { plan = (a.cell_valid i lt).conversion; most = zero-le; lost = zero-le }

-- what the opened book holds
pub open_holds : (l b : List ℕ) → (fitted l b).done ≡ true → Holds l (open_book l b) 0 0 (open_entry l)
open_holds l b fits = new_holds current shaped l b fits 0 0 (open_entry l) zero-le (omega arith) (opened_valid l (fitted_accepted current l b shaped fits).accepted)
