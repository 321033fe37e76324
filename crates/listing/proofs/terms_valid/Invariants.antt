-- `listing::terms_valid` meets its contract: while `valid` is true, the first term is valid, each before `at` is valid but for its year, and
-- each is above the one before. Assumes nothing.
use mathlib.Core.Path.{◌≡◌}
use mathlib.Core.Bool.{Bool, true}
use mathlib.Core.List.{List}
use Prim.Native.Nat.{ℕ, ◌+◌, ◌-◌, ◌<◌, ◌≤◌}
use lib.ListN.{length, get_or}
use Rattle.words.proofs.Steps.{ValidSoFar}
use Rattle.fields.specs.Words.{is_listed_term, is_term_word}
use Rattle.fields.specs.Valid.{term_order}
use Rattle.listing.specs.Check.{term_above}
use Rattle.listing.proofs.terms_valid.Given as goal

abbrev pub listed : List ℕ → ℕ → Bool
listed l k = is_listed_term (get_or l k 0)

abbrev pub invariant-loop-at : goal.invariant-loop-at
invariant-loop-at l =
    (l.start < l.at) × (l.at ≤ length l.listing) × (l.last ≡ term_order (get_or l.listing (l.at - 1) 0))
    × (l.valid ≡ true → is_term_word l.horizon (get_or l.listing l.start 0) ≡ true) × ValidSoFar (listed l.listing) l.start (length l.listing) l.at l.valid
    × ValidSoFar (term_above l.listing) (l.start + 1) (length l.listing) l.at l.valid
