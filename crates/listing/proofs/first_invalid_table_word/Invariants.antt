-- `listing::first_invalid_table_word` meets its contract: a pass finds all valid, or else both loops' invariants have `Passed`, that the search has
-- come to the word of this stratum and age; until one is invalid, `found` is the end. Assumes nothing.
use mathlib.Core.Path.{◌≡◌}
use Prim.Native.Nat.{◌+◌, ◌*◌}
use Rattle.listing.specs.Check.{table_word_valid}
use Rattle.words.proofs.Steps.{Passed}
use Rattle.listing.proofs.first_invalid_table_word.Given as goal

abbrev pub invariant-loop-age : goal.invariant-loop-age
invariant-loop-age l = (l.found ≡ l.end) × Passed (table_word_valid l.listing) l.start l.end (l.start + l.stratum * l.horizon + l.age)

abbrev pub invariant-strata : goal.invariant-strata
invariant-strata l = (l.found ≡ l.end) × Passed (table_word_valid l.listing) l.start l.end (l.start + l.stratum * l.horizon)
