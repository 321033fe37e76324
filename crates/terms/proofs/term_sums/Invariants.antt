-- `terms::term_sums` meets its contract: both sums are those of the words so far. Assumes nothing.
use mathlib.Core.Path.{◌≡◌}
use lib.ListN.{take}
use Rattle.fields.specs.Fields.{tonnes_of}
use Rattle.terms.specs.Terms.{total}
use Rattle.terms.specs.Split.{up_to}
use Rattle.terms.proofs.term_sums.Given as goal

abbrev pub invariant-loop-word : goal.invariant-loop-word
invariant-loop-word l = (l.all ≡ total tonnes_of (take l.word-index l.words)) × (l.buffered ≡ total (up_to 5) (take l.word-index l.words))
