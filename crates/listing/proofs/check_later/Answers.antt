-- `listing::check_later` meets its contract: number 3 and the site's figures are tried before the words. Assumes nothing.
use borrow.Author.Tests.{leb-true}
use Rattle.words.proofs.Answers.{refused_on, need_stops, need_passes, need_held}
use Rattle.listing.specs.Check.{later_checked}
use Rattle.listing.proofs.check_later.Goals as goal

pub returns-in_err-need : goal.returns-in_err-need
unfolding later_checked
returns-in_err-need c = refused_on _ _ _ _ c.from_residual.ensures.1 (need_stops _ _ _ _ _ _ c.in_err-need.ensures)

pub returns-in_err-need-2 : goal.returns-in_err-need-2
unfolding later_checked
returns-in_err-need-2 c =
    refused_on _ _ _ _ c.from_residual-in_err-need-2.ensures.1
    (need_passes _ _ _ _ _ _ c.in_ok-need.ensures (need_stops _ _ _ _ _ _ (rw c.is_site_valid.ensures at c.in_err-need-2.ensures)))

pub check_words-requires : goal.check_words-requires
check_words-requires c = (c.requires, leb-true _ _ (need_held _ _ _ _ c.in_ok-need.ensures))

pub returns : goal.returns
unfolding later_checked
returns c = need_passes _ _ _ _ _ _ c.in_ok-need.ensures (need_passes _ _ _ _ _ _ (rw c.is_site_valid.ensures at c.in_ok-need-2.ensures) c.check_words.ensures)
