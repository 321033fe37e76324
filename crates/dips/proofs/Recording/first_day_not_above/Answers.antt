-- `Recording::first_day_not_above` meets its contract: the search finds the first place that is invalid, and there is none to search where there is no
-- day. Assumes nothing.
use lib.ListN.{length}
use Rattle.words.proofs.Meaning.{search_gives}
use Rattle.dips.specs.Dips.{recorded, above_before}
use Rattle.dips.proofs.Recording.first_day_not_above.Goals as goal

pub returns : goal.returns
returns c =
    let e = c.first_invalid.ensures in
    let r = recorded c.args.self.now in
    search_gives (above_before r) 1 (length r.days) _ e.low e.high e.before e.invalid
