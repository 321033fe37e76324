-- `listing::check` meets its contract: the head's tests are the definition's, and the rest is `check_later`. Assumes nothing.
use mathlib.Core.Path.{◌≡◌, sym, ap}
use Prim.Native.Nat.{◌≤◌}
use native.Mathlib.Omega.{arith}
use lib.ListN.{length}
use borrow.Author.Tests.{leb-true}
use Rattle.words.specs.Answers.{Answer}
use Rattle.words.proofs.Answers.{refused_on, need_stops, need_passes, need_held}
use Rattle.fields.specs.Valid.{SizesWithin}
use Rattle.listing.specs.Layout.{least_words}
use Rattle.listing.specs.Check.{later_checked, checked}
use Rattle.listing.proofs.Accepted.{accepted, sizes_by, contiguous_by, later_by}
use Rattle.listing.proofs.check.Goals as goal
use Rattle.listing.proofs.check.Goals.{In_ok-need, After-head-h, After-offsets_of}

long : (c : In_ok-need) → least_words ≤ length c.args.listing.now
long c = leb-true _ _ (need_held _ _ _ _ c.in_ok-need.ensures)

pub bounds-listing-0 : goal.bounds-listing-0
bounds-listing-0 c = omega (arith, long (goal.at.bounds-listing-0 c).In_ok-need)

pub bounds-listing-1 : goal.bounds-listing-1
bounds-listing-1 c = omega (arith, long (goal.at.bounds-listing-1 c).In_ok-need)

pub head-h-requires : goal.head-h-requires
head-h-requires c = long (goal.at.head-h-requires c).In_ok-need

sizes : (c : After-head-h) → SizesWithin c.head-h.result
sizes c = sizes_by c.args.listing.now _ c.head-h.ensures (need_held _ _ _ _ (rw c.is_size_word.ensures at c.in_ok-need-2.ensures))

pub offsets_of-requires : goal.offsets_of-requires
offsets_of-requires c = sizes (goal.at.offsets_of-requires c).After-head-h

pub check_later-requires : goal.check_later-requires
check_later-requires c = contiguous_by _ _ c.offsets_of.ensures (sizes (goal.at.check_later-requires c).After-head-h)

-- each refusal by name, so that another place or another test is refused in its own place
pub returns-in_err-need-clause-value : goal.returns-in_err-need-clause-value
unfolding checked
returns-in_err-need-clause-value c = refused_on _ _ _ _ c.from_residual.ensures.1 (need_stops _ _ _ _ _ _ c.in_err-need.ensures)

pub returns-in_err-need-2-clause-value : goal.returns-in_err-need-2-clause-value
unfolding checked
returns-in_err-need-2-clause-value c =
    refused_on _ _ _ _ c.from_residual-in_err-need-2.ensures.1
    (need_passes _ _ _ _ _ _ c.in_ok-need.ensures (need_stops _ _ _ _ _ _ (rw c.is_size_word.ensures at c.in_err-need-2.ensures)))

pub returns-in_err-need-3-clause-value : goal.returns-in_err-need-3-clause-value
unfolding checked
returns-in_err-need-3-clause-value c =
    refused_on _ _ _ _ c.from_residual-in_err-need-3.ensures.1
    (need_passes _ _ _ _ _ _ c.in_ok-need.ensures
    (need_passes _ _ _ _ _ _ (rw c.is_size_word.ensures at c.in_ok-need-2.ensures)
    (need_stops _ _ _ _ _ _ (rw c.is_figure_word.ensures at c.in_err-need-3.ensures))))

-- past the tests of the head the answer is that of the rest
past : (c : After-offsets_of) → {v : Answer} → v ≡ later_checked c.args.listing.now c.head-h.result c.offsets_of.result → v ≡ checked c.args.listing.now
unfolding checked
past c e =
    need_passes _ _ _ _ _ _ c.in_ok-need.ensures
    (need_passes _ _ _ _ _ _ (rw c.is_size_word.ensures at c.in_ok-need-2.ensures)
    (need_passes _ _ _ _ _ _ (rw c.is_figure_word.ensures at c.in_ok-need-3.ensures)
    (later_by _ _ _ _ c.head-h.ensures c.offsets_of.ensures e)))

pub returns-clause-value : goal.returns-clause-value
returns-clause-value c = past (goal.at.returns-clause-value c).After-offsets_of c.in_ok-check_later.ensures

pub returns-in_err-check_later-clause-value : goal.returns-in_err-check_later-clause-value
returns-in_err-check_later-clause-value c =
    past (goal.at.returns-in_err-check_later-clause-value c).After-offsets_of (refused_on _ _ _ _ c.from_residual-in_err-check_later.ensures.1 c.in_err-check_later.ensures)

pub invariant_of-result-clause-accepted : goal.invariant_of-result-clause-accepted
invariant_of-result-clause-accepted c =
    accepted _ (ap (λ (a : Answer). a.done) (sym (past (goal.at.invariant_of-result-clause-accepted c).After-offsets_of c.in_ok-check_later.ensures)))
