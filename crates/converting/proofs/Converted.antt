-- What a conversion writes. Assumes nothing.
use mathlib.Core.Path.{◌≡◌}
use mathlib.Core.Bool.{true}
use mathlib.Core.List.{List}
use Prim.Native.Nat.{ℕ, ◌≤◌}
use Rattle.book.specs.Layout.{Shaped, year, issued, entry}
use Rattle.book.specs.Held.{Holds}
use Rattle.book.specs.declared.Shape.{Shape}
use Rattle.book.proofs.New.{new_holds}
use Rattle.converting.specs.Converting.{convert_answer, converted_book}
use Rattle.converting.proofs.Convertible.{convertible, tonnes_fit, new_fitted}

-- the new book is accepted, and it says what the old one says
pub converted_holds : (from to : Shape) → Shaped from → Shaped to → from.head ≤ to.head → (l old new : List ℕ) → (convert_answer from to l old new).done ≡ true →
    Holds to l (converted_book from to l old new) (year old) (issued from old) (entry from old)
converted_holds from to g g' le l old new h =
    let k = convertible from to g g' le l old new h in
    new_holds to g' l new (new_fitted from to g g' le l old new h) (year old) (issued from old) (entry from old) k.accepted_book.year (tonnes_fit k) k.accepted_book.entry_valid
