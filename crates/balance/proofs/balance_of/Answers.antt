-- `balance::balance_of` meets its contract: what is withheld is no larger than S, so the difference fits an i64. Assumes nothing.
use mathlib.Core.Path.{◌≡◌, ap, ap₂, ◌∙◌}
use Prim.Native.Nat.{ℕ, ◌+◌, ◌^◌, ◌≤◌, ◌<◌}
use native.Mathlib.Omega.{arith}
use lib.IntN.{ℤ, pos, nat_abs, ◌+ℤ◌}
use mir.Syntax.{w64}
use mir.Val.{to_z, of_z}
use mir.Facts.{to_z_pos}
use Rattle.words.proofs.Signed.{call_reads, cast_reads, sub_fits, sub_reads}
use Rattle.fields.specs.declared.Head.{Head}
use Rattle.listing.specs.Layout.{head}
use Rattle.terms.specs.Terms.{terms_to_date, most_term_sum_below}
use Rattle.terms.proofs.Sums.{terms_size}
use Rattle.balance.specs.Balance.{to_date, withheld, balance_of, most_tonnes}
use Rattle.balance.proofs.Bounds.{held_size, date_size}
use Rattle.balance.proofs.balance_of.Goals as goal
use Rattle.balance.proofs.balance_of.Goals.{After-terms_to_date-t, After-with_peat-s, After-withheld, Start}

module _ (s : Start) where
  abbrev date : ℕ → ℤ
  date last = to_date s.args.listing.now.words.now s.args.year s.args.peat last

  abbrev share : ℕ
  share = (head s.args.listing.now.words.now).buffer

  small : (last : ℕ) → nat_abs (date last) ≤ most_tonnes
  small last = omega (arith, date_size s.args.listing.now.words.now s.args.year s.args.peat s.args.listing.now.accepted last, s.requires)

-- the terms, by what the call answered
module _ (c : After-terms_to_date-t) where
  percent : c.args.listing.now.figures.buffer ≡ share (goal.at.After-terms_to_date-t c).Start
  percent = ap (λ (h : Head). h.buffer) c.args.listing.now.is_head

  abbrev terms : ℕ → ℤ
  terms last = terms_to_date c.args.listing.now.words.now c.args.year last

  bounded : (last : ℕ) → nat_abs (terms last) ≤ most_term_sum_below
  bounded last = terms_size c.args.listing.now.words.now c.args.year last c.args.listing.now.accepted

  all : to_z w64 (of_z w64 c.terms_to_date-t.result.all) ≡ terms 8
  all = cast_reads w64 (terms 8) c.terms_to_date-t.ensures.0 (omega (arith, bounded 8))

  buffered : to_z w64 (of_z w64 c.terms_to_date-t.result.buffered) ≡ terms 5
  buffered = cast_reads w64 (terms 5) c.terms_to_date-t.ensures.1 (omega (arith, bounded 5))

  sums_small : (nat_abs (to_z w64 (of_z w64 c.terms_to_date-t.result.all)) ≤ most_term_sum_below)
      × (nat_abs (to_z w64 (of_z w64 c.terms_to_date-t.result.buffered)) ≤ most_term_sum_below)
  sums_small = (omega (arith, ap nat_abs all, bounded 8), omega (arith, ap nat_abs buffered, bounded 5))

-- peat and each of the sums are small
pub with_peat-n-requires : goal.with_peat-n-requires
with_peat-n-requires c =
    (omega (arith, c.requires), omega (arith, (sums_small (goal.at.with_peat-n-requires c).After-terms_to_date-t).0))

pub with_peat-s-requires : goal.with_peat-s-requires
with_peat-s-requires c =
    (omega (arith, c.requires), omega (arith, (sums_small (goal.at.with_peat-s-requires c).After-terms_to_date-t).1))

-- S
module _ (c : After-with_peat-s) where
  tonnes : to_z w64 (of_z w64 c.with_peat-s.result) ≡ date (goal.at.After-with_peat-s c).Start 5
  tonnes = call_reads w64 c.with_peat-s.type_inv (c.with_peat-s.ensures ∙ ap (λ (z : ℤ). pos c.args.peat +ℤ z) (buffered (goal.at.After-with_peat-s c).After-terms_to_date-t))

pub withheld-requires : goal.withheld-requires
withheld-requires c = (
  omega (arith, percent (goal.at.withheld-requires c).After-terms_to_date-t, c.args.listing.now.accepted.head_valid.buffer),
  omega (arith, ap nat_abs (tonnes c), small (goal.at.withheld-requires c).Start 5),
)

-- N, and what is withheld
module _ (c : After-withheld) where
  abbrev s : Start
  s = (goal.at.After-withheld c).Start

  abbrev n : ℤ
  n = date s 8

  abbrev held : ℕ
  held = withheld (share s) (date s 5)

  whole : to_z w64 (of_z w64 c.with_peat-n.result) ≡ n
  whole =
      let d = c.with_peat-n in
      call_reads w64 d.type_inv (d.ensures ∙ ap (λ (z : ℤ). pos s.args.peat +ℤ z) (all (goal.at.After-withheld c).After-terms_to_date-t))

  is : c.withheld.result ≡ held
  is = c.withheld.ensures ∙ ap₂ withheld (percent (goal.at.After-withheld c).After-terms_to_date-t) (tonnes (goal.at.After-withheld c).After-with_peat-s)

  fits : nat_abs n + held < 2 ^ 63
  fits = omega (arith, small s 8, small s 5, held_size (share s) (date s 5) s.args.listing.now.accepted.head_valid.buffer)

  reads : to_z w64 c.withheld.result ≡ pos held
  reads = to_z_pos w64 (omega (arith, is, fits)) ∙ ap pos is

pub overflow_cast-result : goal.overflow_cast-result
overflow_cast-result c = record { sfits = omega (arith, is c, fits c) }

pub overflow_sub-result : goal.overflow_sub-result
overflow_sub-result c = sub_fits w64 (n c) (whole c) (pos (held c)) (reads c) (fits c)

pub returns : goal.returns
unfolding balance_of
returns c = sub_reads w64 (n c) (whole c) (pos (held c)) (reads c) (fits c)
