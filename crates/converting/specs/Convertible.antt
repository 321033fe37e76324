-- What the steps of a conversion require; proofs/Convertible.antt makes it from the answers.
use Rattle.std.specs.Prelude.{List, ℕ, ◌≤◌}
use Rattle.book.specs.AcceptedBook.{Fitted, AcceptedBook}
use Rattle.book.specs.declared.Shape.{Shape}

-- an accepted old book, and space for the new one, whose head has no fewer words for the tonnes issued
pub record Convertible (from to : Shape) (l old new : List ℕ) : Type 0 where
  pub accepted_book : AcceptedBook from l old
  pub fitted : Fitted to l new
  pub no_less : from.head ≤ to.head
