-- `listing::check_words` meets its contract: its tests are the definition's, one after the other. Assumes nothing.
use mathlib.Core.Path.{◌≡◌, refl}
use Prim.Native.Nat.{◌+◌}
use native.Mathlib.Omega.{arith}
use lib.ListN.{length}
use Rattle.words.specs.Answers.{Answer, accepted, need_all}
use Rattle.words.specs.Refusals.{later_word, term_not_above}
use Rattle.words.proofs.Answers.{refused_on, need_stops, need_passes, found_by, found_none}
use Rattle.listing.specs.Check.{term_word_valid, term_above, words_checked}
use Rattle.listing.proofs.check_words.Goals as goal
use Rattle.listing.proofs.check_words.Goals.{In_ok-need-2}

-- each refusal by name, so that another place or another test is refused in its own place
pub returns-in_err-need : goal.returns-in_err-need
unfolding words_checked
returns-in_err-need c = refused_on _ _ _ _ c.from_residual.ensures.1 (found_by _ _ _ _ _ _ c.first_invalid_table_word-table.ensures (need_stops _ _ _ _ _ _ c.in_err-need.ensures))

pub returns-in_err-need-2 : goal.returns-in_err-need-2
unfolding words_checked
returns-in_err-need-2 c =
    refused_on _ _ _ _ c.from_residual-in_err-need-2.ensures.1
    (found_by _ _ _ _ _ _ c.first_invalid_table_word-table.ensures
    (need_passes _ _ _ _ _ _ c.in_ok-need.ensures (found_by _ _ _ _ _ _ c.first_invalid_cell_word-cell.ensures (need_stops _ _ _ _ _ _ c.in_err-need-2.ensures))))

-- past the cells the answer is that of the terms
module _ (e : In_ok-need-2) where
  abbrev rest : Answer
  rest =
      let l = e.args.listing.now in
      let s = e.args.s in
      need_all later_word (term_word_valid l e.args.h.horizon) s.terms (length l) (need_all term_not_above (term_above l) (s.terms + 1) (length l) (accepted 0))

  past : {v : Answer} → v ≡ rest → v ≡ words_checked e.args.listing.now e.args.h e.args.s
  unfolding words_checked
  past r =
      found_by _ _ _ _ _ _ e.first_invalid_table_word-table.ensures
      (need_passes _ _ _ _ _ _ e.in_ok-need.ensures
      (found_by _ _ _ _ _ _ e.first_invalid_cell_word-cell.ensures (need_passes _ _ _ _ _ _ e.in_ok-need-2.ensures r)))

pub returns-then-terms_valid : goal.returns-then-terms_valid
returns-then-terms_valid c =
    let valid = c.terms_valid.ensures c.if-terms_valid.true in
    past (goal.at.returns-then-terms_valid c).In_ok-need-2 (found_none _ _ _ _ _ _ valid.0 (omega arith) (found_none _ _ _ _ _ _ valid.1 (omega arith) refl))

pub returns-in_err-need-3 : goal.returns-in_err-need-3
returns-in_err-need-3 c =
    refused_on _ _ _ _ c.from_residual-in_err-need-3.ensures.1
    (past (goal.at.returns-in_err-need-3 c).In_ok-need-2 (found_by _ _ _ _ _ _ c.first_invalid_term-term.ensures (need_stops _ _ _ _ _ _ c.in_err-need-3.ensures)))

pub returns : goal.returns
returns c =
    past (goal.at.returns c).In_ok-need-2
    (found_by _ _ _ _ _ _ c.first_invalid_term-term.ensures
    (need_passes _ _ _ _ _ _ c.in_ok-need-3.ensures (found_by _ _ _ _ _ _ c.first_term_not_above-later.ensures c.need-4.ensures)))
