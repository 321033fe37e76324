-- `mm_of` meets its contract: a refused reading has the value 0. Assumes nothing.
use Rattle.std.proofs.Common.{◌≡◌, ◌∙◌}
use Rattle.reading.proofs.Lowest.{core_le}
use Rattle.dips.specs.Dips.{mm_of}
use Rattle.dips.proofs.Readings.{mm_by}
use Rattle.dips.proofs.mm_of.Goals as goal
use Rattle.dips.proofs.mm_of.Goals.{After-unwrap_or}

value : (c : After-unwrap_or) → c.unwrap_or.result ≡ mm_of c.args.metres
value c = c.unwrap_or.ensures ∙ mm_by _ _ c.core.ensures

pub returns-clause-value : goal.returns-clause-value
returns-clause-value c = value c

pub returns-clause-bound : goal.returns-clause-bound
returns-clause-bound c = rw (value c) (core_le _)
