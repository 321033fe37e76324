-- `Tables::discount_densities` meets its contract: iteration k stores the product at k. Assumes nothing.
use Rattle.std.proofs.Common.{refl, ap, ◌∙◌, ℕ, [], ◌∷◌, arith}
use Rattle.words.proofs.Blocks.{filling_none, filling_stored, filling_all, filled_whole}
use Rattle.logging.proofs.Bounds.{length_discounted, discounted_at, discounted_fits}
use Rattle.logging.proofs.Tables.discount_densities.Goals as goal

pub loop-k-init : goal.loop-k-init
loop-k-init c = filling_none (λ k. refl) (omega (arith, length_discounted c.args.self.now.accepted, c.requires))

pub overflow_mul-discounted : goal.overflow_mul-discounted
overflow_mul-discounted c = discounted_fits c.args.self.now.accepted _ _

pub loop-k-preserved : goal.loop-k-preserved
loop-k-preserved c =
    let a = c.args.self.now.accepted in
    filling_stored c.loop-k.invariant (rw (length_discounted a) c.loop-k-test.true) c.loop-k.k (omega arith) _
    (ap (λ (x : ℕ). x ∷ []) (discounted_at a c.loop-k.k c.loop-k-test.true))

pub returns : goal.returns
returns c =
    let a = c.args.self.now.accepted in
    filling_all c.loop-k.invariant (omega (arith, length_discounted a)) ∙ filled_whole c.args.discounted.now _ (omega (arith, length_discounted a, c.requires))
