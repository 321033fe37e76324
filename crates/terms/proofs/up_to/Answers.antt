-- `terms::up_to` meets its contract: its test is the definition's. Assumes nothing.
use mathlib.Core.Path.{◌∙◌}
use native.Mathlib.Omega.{arith}
use mir.Syntax.{w64}
use borrow.Author.Tests.{le-leb, lt-leb}
use Rattle.words.proofs.Signed.{call_reads}
use Rattle.fields.specs.Fields.{term_of, yearly_term_of}
use Rattle.terms.specs.Split.{up_to}
use Rattle.terms.proofs.up_to.Goals as goal

pub returns-then-from-last : goal.returns-then-from-last
unfolding up_to yearly_term_of
returns-then-from-last c =
    let h = rw c.from.ensures at c.if-from-last.true in
    call_reads w64 c.tonnes.type_inv c.tonnes.ensures ∙ rw (le-leb (term_of c.args.w) c.args.last (omega (arith, h)))

pub returns : goal.returns
unfolding up_to yearly_term_of
returns c =
    let h = rw c.from.ensures at c.if-from-last.false in
    rw (lt-leb (term_of c.args.w) c.args.last (omega (arith, h)))
