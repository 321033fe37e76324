-- `listing::first_invalid_cell_word` meets its contract: a pass finds all valid, or else the search finds the first place that is invalid. Assumes nothing.
use Rattle.words.proofs.Meaning.{search_gives}
use Rattle.listing.specs.Check.{cell_word_valid}
use Rattle.listing.proofs.first_invalid_cell_word.Goals as goal

pub returns : goal.returns
returns c =
    let e = c.first_invalid.ensures in
    let a = c.args in
    search_gives (cell_word_valid a.listing.now a.h.strata a.h.horizon a.start) a.start a.end _ e.low e.high e.before e.invalid
