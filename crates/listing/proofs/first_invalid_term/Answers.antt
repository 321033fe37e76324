-- `listing::first_invalid_term` meets its contract: the search finds the first place that is invalid. Assumes nothing.
use Rattle.words.proofs.Meaning.{search_gives}
use lib.ListN.{length}
use Rattle.listing.specs.Check.{term_word_valid}
use Rattle.listing.proofs.first_invalid_term.Goals as goal

pub returns : goal.returns
returns c =
    let e = c.first_invalid.ensures in
    let l = c.args.listing.now in
    search_gives (term_word_valid l c.args.horizon) c.args.start (length l) _ e.low e.high e.before e.invalid
