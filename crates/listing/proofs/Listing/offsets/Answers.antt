-- `listing::Listing::offsets` meets its contract: an accepted listing has sizes within their limits. Assumes nothing.
use mathlib.Core.Path.{ap, ◌∙◌}
use Rattle.listing.specs.Layout.{offsets_of}
use Rattle.listing.proofs.Accepted.{accepted_sizes}
use Rattle.listing.proofs.Listing.offsets.Goals as goal

pub offsets_of-requires : goal.offsets_of-requires
offsets_of-requires c = let l = c.args.self.now in accepted_sizes _ _ l.is_head l.accepted

pub returns : goal.returns
returns c = c.offsets_of.ensures ∙ ap offsets_of c.args.self.now.is_head
