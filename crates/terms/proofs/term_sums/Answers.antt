-- `terms::term_sums` meets its contract: both sums are those of the words so far. Assumes nothing.
use mathlib.Core.Path.{refl}
use mir.Syntax.{w64}
use Rattle.words.proofs.Signed.{call_reads}
use Rattle.terms.specs.Terms.{total}
use Rattle.terms.proofs.Sums.{tonnes_size, up_to_size, sum_fits, sum_next}
use Rattle.fields.specs.Fields.{tonnes_of}
use Rattle.terms.specs.Split.{up_to}
use Rattle.terms.proofs.term_sums.Goals as goal

pub loop-word-init : goal.loop-word-init
unfolding total
loop-word-init c = (refl, refl)

pub overflow_add-all : goal.overflow_add-all
overflow_add-all c = sum_fits tonnes_of tonnes_size _ c.requires _ c.loop-word.invariant.0 (call_reads w64 c.tonnes-all.type_inv c.tonnes-all.ensures)

pub overflow_add-buffered : goal.overflow_add-buffered
overflow_add-buffered c = sum_fits (up_to 5) (up_to_size 5) _ c.requires _ c.loop-word.invariant.1 (call_reads w64 c.up_to-buffered.type_inv c.up_to-buffered.ensures)

pub loop-word-preserved : goal.loop-word-preserved
loop-word-preserved c = (
  sum_next tonnes_of tonnes_size _ c.requires _ c.loop-word.invariant.0 (call_reads w64 c.tonnes-all.type_inv c.tonnes-all.ensures) c.loop-word-test.true,
  sum_next (up_to 5) (up_to_size 5) _ c.requires _ c.loop-word.invariant.1 (call_reads w64 c.up_to-buffered.type_inv c.up_to-buffered.ensures) c.loop-word-test.true,
)
