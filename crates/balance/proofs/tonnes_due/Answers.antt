-- `balance::tonnes_due` meets its contract: the peat and the balance of an accepted book are small enough. Assumes nothing.
use mathlib.Core.Path.{◌≡◌, ap₂, ◌∙◌}
use native.Mathlib.Omega.{arith}
use mir.Syntax.{w64}
use mir.Val.{to_z, of_z}
use Rattle.words.proofs.Signed.{call_reads}
use Rattle.balance.specs.Balance.{balance_of, due, balance_in}
use Rattle.balance.proofs.Bounds.{peat_most, balance_fits}
use Rattle.balance.proofs.tonnes_due.Goals as goal
use Rattle.balance.proofs.tonnes_due.Goals.{After-balance_of-balance}

pub balance_of-balance-requires : goal.balance_of-balance-requires
balance_of-balance-requires c =
    omega (arith, c.peat_tonnes-peat.ensures, peat_most _ _ c.args.book.now.accepted)

module _ (c : After-balance_of-balance) where
  balance : to_z w64 (of_z w64 c.balance_of-balance.result) ≡ balance_in c.args.book.now.listing.words.now c.args.book.now.words.now
  balance = call_reads w64 c.balance_of-balance.type_inv c.balance_of-balance.ensures ∙ ap₂ (balance_of c.args.book.now.listing.words.now) c.year.ensures c.peat_tonnes-peat.ensures

pub due-requires : goal.due-requires
due-requires c =
    let s = c.args.book.now.accepted in
    let fits = balance_fits _ _ s in
    rw (balance (goal.at.due-requires c).After-balance_of-balance) (fits.0, fits.1, omega (arith, c.issued.ensures, s.issued))

pub returns : goal.returns
returns c = c.due.ensures ∙ ap₂ due (balance (goal.at.returns c).After-balance_of-balance) c.issued.ensures
