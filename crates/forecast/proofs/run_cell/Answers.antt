-- `forecast::run_cell` meets its contract: an inactive cell stays as it was. Assumes nothing.
use mathlib.Core.Path.{sym, ◌∙◌}
use Rattle.forecast.proofs.Loop.{inactive_is}
use Rattle.forecast.proofs.run_cell.Goals as goal

pub returns-then-inactive : goal.returns-then-inactive
returns-then-inactive c =
    inactive_is c.args.listing.now.words.now c.args.before c.args.year c.requires.1
    (rw (c.args.listing.now.is_head, c.entry_to_date.ensures) at (sym c.inactive.ensures ∙ c.if-inactive.true))
