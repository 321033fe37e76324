-- `listing::first_term_not_above` meets its contract: the search finds the first place that is invalid, and there is none to search where there is
-- no term. Assumes nothing.
use native.Mathlib.Omega.{arith}
use Rattle.words.proofs.Meaning.{search_gives}
use Rattle.words.proofs.Steps.{passed_none, passed_all}
use Prim.Native.Nat.{◌+◌}
use lib.ListN.{length}
use Rattle.listing.specs.Check.{term_above}
use Rattle.listing.proofs.first_term_not_above.Goals as goal

pub returns-then-listing-start : goal.returns-then-listing-start
returns-then-listing-start c = passed_all passed_none (omega arith)

pub returns : goal.returns
returns c =
    let e = c.first_invalid.ensures in
    let l = c.args.listing.now in
    search_gives (term_above l) (c.args.start + 1) (length l) _ e.low e.high e.before e.invalid
