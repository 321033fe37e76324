-- `terms::tonnes` meets its contract: 17 bits fit an i32. Assumes nothing.
use mathlib.Core.Path.{ap, ◌∙◌}
use native.Mathlib.Omega.{arith}
use mir.Syntax.{w32, w64}
use Rattle.words.proofs.Signed.{call_reads, cast_reads}
use Rattle.fields.specs.Fields.{tonnes_of, yearly_term_of}
use Rattle.fields.specs.declared.YearlyTerm.{YearlyTerm}
use Rattle.terms.proofs.Sums.{tonnes_size}
use Rattle.terms.proofs.tonnes.Goals as goal

pub returns : goal.returns
unfolding yearly_term_of
returns c =
    let w = c.args.w in
    call_reads w64 c.from-2.type_inv (c.from-2.ensures ∙ cast_reads w32 (tonnes_of w) (ap (λ (t : YearlyTerm). t.tonnes) c.from.ensures) (omega (arith, tonnes_size w)))
