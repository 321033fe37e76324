-- `listing::terms_valid` meets its contract: the years of terms that rise lie between the first and the last. Assumes nothing.
use mathlib.Core.Path.{◌≡◌, sym, ap, ap₂, ◌∙◌}
use mathlib.Core.Bool.{Bool, true, ◌&&◌, false≢true}
use mathlib.Core.List.{List}
use Prim.Native.Nat.{ℕ, ◌+◌, ◌-◌}
use native.Mathlib.Nat.{le_refl}
use native.Mathlib.Omega.{arith}
use lib.Dec.{ltb}
use lib.ListN.{length, get_or}
use Rattle.words.proofs.Answers.{and_left, and_right}
use Rattle.words.proofs.Meaning.{valid_before, first_only}
use Rattle.words.proofs.Steps.{ValidSoFar, passed_none, passed_more, so_far_none, so_far_more, so_far_all}
use Rattle.fields.specs.Valid.{term_order}
use Rattle.fields.proofs.Valid.{above_order, listed_of}
use Rattle.listing.specs.Check.{term_word_valid, term_above}
use Rattle.listing.proofs.Accepted.{valid_between}
use Rattle.listing.proofs.terms_valid.Invariants.{listed}
use Rattle.listing.proofs.terms_valid.Goals as goal

-- one test more takes nothing away
with-test : {valid : ℕ → Bool} {from to at : ℕ} (so_far b : Bool) → ValidSoFar valid from to at so_far → ValidSoFar valid from to at (so_far && b)
with-test valid b p = record { passed = λ t. p.passed (and_left valid b t) }

-- the word before the next
order-before : (l : List ℕ) (k x : ℕ) → x ≡ term_order (get_or l k 0) → x ≡ term_order (get_or l (k + 1 - 1) 0)
order-before l k x e =
    let same : k ≡ k + 1 - 1 = omega arith in
    e ∙ ap (λ (m : ℕ). term_order (get_or l m 0)) same

pub loop-at-init : goal.loop-at-init
loop-at-init c =
    let term = c.before.before in
    let start = term.before.before.before.before in
    let l = start.args.listing.now in
    let first = term.is_term_word-valid.ensures in (
      omega arith,
      omega arith,
      order-before l start.args.start _ c.term_order-last.ensures,
      λ t. sym first ∙ t,
      record { passed = λ t. passed_more passed_none (omega arith) (listed_of _ _ (sym first ∙ t)) },
      so_far_none,
    )

-- by name, so that a wrong place or a wrong test is reported at this return
pub loop-at-preserved : goal.loop-at-preserved
loop-at-preserved c =
    let order = c.before.before in
    let loop = order.before.before.before in
    let inv = loop.loop-at.invariant in
    let l = loop.args.listing.now in
    let term = so_far_more _ _ inv.4 (omega arith) c.is_listed_term-valid.ensures in
    let above = ap₂ ltb inv.2 order.term_order-next.ensures ∙ above_order _ _ in (
      omega arith,
      omega arith,
      order-before l loop.loop-at.at _ order.term_order-next.ensures,
      λ t. inv.3 (and_left _ _ (and_left _ _ t)),
      with-test _ _ term,
      so_far_more _ _ (with-test _ _ inv.5) (omega arith) above,
    )

-- where there is no term it does not say that all is valid
pub returns-then-listing-start : goal.returns-then-listing-start
returns-then-listing-start c t = absurd (false≢true t)

pub returns : goal.returns
returns c t =
    let inv = c.loop-at.invariant in
    let l = c.args.listing.now in
    let start = c.args.start in
    let held = and_left c.loop-at.valid c.is_term_word.result t in
    let last = sym c.is_term_word.ensures ∙ and_right c.loop-at.valid c.is_term_word.result t in
    let all_listed = so_far_all _ inv.4 (omega arith) (omega arith) held in
    let all_above = so_far_all _ inv.5 (omega arith) (omega arith) held in
    let each = valid_between l start (λ k p q. valid_before (term_above l) (start + 1) (length l) k p (omega (arith, all_above))) c.args.horizon
    (λ k p q. valid_before (listed l) start (length l) k p (omega (arith, all_listed))) (inv.3 held) last in (
      first_only (term_word_valid l c.args.horizon) start (length l) (length l) (record { low = c.requires; high = le_refl (length l); before = each; invalid = λ lt. absurd (omega arith) }),
      all_above,
    )
