-- What a call is given once its tests were passed. Assumes nothing.
use mathlib.Core.Path.{◌≡◌, refl, sym, ap, ◌∙◌}
use mathlib.Core.Bool.{Bool, true, false, ◌&&◌, ◌||◌}
use mathlib.Core.List.{List}
use Prim.Native.Nat.{ℕ, ◌^◌, ◌≤◌, ◌<◌}
use native.Mathlib.Omega.{arith}
use lib.Dec.{eqb, ltb, leb}
use borrow.Author.Tests.{lt-ltb, leb-true, ltb-true, eqb-true}
use Rattle.words.specs.Answers.{Answer, accepted}
use Rattle.words.specs.Refusals.{no_such_cell}
use Rattle.words.proofs.Answers.{need_accepted, after_accepted, need_is, after_is, and_right}
use Rattle.listing.specs.Layout.{cells, horizon}
use Rattle.book.specs.Current.{current, admitted}
use Rattle.book.specs.Layout.{year}
use Rattle.book.proofs.AcceptedBook.{shaped, accepted_book, accepted_book_cell}
use Rattle.ledger.specs.Calls.{cell_checked, admitted_cell, admitted_unwithdrawn, ahead, plan_checked, replan_answer}
use Rattle.ledger.specs.AdmittedCell.{AdmittedCell}

module _ (l b : List ℕ) (i : ℕ) where
  pub admitted_cell_accepted : (admitted_cell l b i).done ≡ true → AdmittedCell l b i
  unfolding admitted_cell cell_checked
  admitted_cell_accepted h =
      let h₁ = after_accepted _ _ h in
      let h₂ = need_accepted _ _ _ _ h₁.1 in
      let s = accepted_book current l b shaped h₁.0 in
      let lt = ltb-true _ _ h₂.0 in
      record {
        admits = h₁.0;
        accepted_book = s;
        there = lt;
        capacity = accepted_book_cell current l b s i lt;
        entry_valid = s.entry_valid i lt;
        words_valid = s.words_valid i lt;
      }

  -- and the other way round: each cell of an accepted book is admitted
  pub cell_admitted : (admitted l b).done ≡ true → i < cells l → (admitted_cell l b i).done ≡ true
  unfolding admitted_cell cell_checked
  cell_admitted admits lt =
      ap (λ (a : Answer). a.done)
      (sym (need_is _ no_such_cell 0 (accepted 0) (lt-ltb i (cells l) lt) ∙ after_is _ (admitted l b) admits))

  pub unwithdrawn_accepted : (admitted_unwithdrawn l b i).done ≡ true → AdmittedCell l b i
  unfolding admitted_unwithdrawn
  unwithdrawn_accepted h = admitted_cell_accepted (after_accepted _ _ h).0

  -- a year that was accepted is at most the horizon
  ahead_most : (y : ℕ) → ahead l b y ≡ true → y ≤ horizon l
  unfolding ahead
  ahead_most y e = case (eqb y 0) refl e
    where
      case : (t : Bool) → eqb y 0 ≡ t → (t || (ltb (year b) y && leb y (horizon l))) ≡ true → y ≤ horizon l
      case true q e = let z = eqb-true y 0 q in omega arith
      case false q e = leb-true y (horizon l) (and_right (ltb (year b) y) (leb y (horizon l)) e)

  pub replan_accepted : (y : ℕ) → (replan_answer l b i y).done ≡ true → AdmittedCell l b i × (y ≤ horizon l)
  unfolding replan_answer plan_checked
  replan_accepted y h =
      let h₁ = after_accepted _ _ h in
      let h₂ = need_accepted _ _ _ _ h₁.1 in
      let h₃ = need_accepted _ _ _ _ h₂.1 in
      (unwithdrawn_accepted h₁.0, ahead_most y h₃.0)

  -- ---- the same by the answers

  pub admitted_cell_by : (x : ℕ) → accepted x ≡ admitted_cell l b i → AdmittedCell l b i
  admitted_cell_by x e = admitted_cell_accepted (ap (λ (a : Answer). a.done) (sym e))

  pub unwithdrawn_by : (x : ℕ) → accepted x ≡ admitted_unwithdrawn l b i → AdmittedCell l b i
  unwithdrawn_by x e = unwithdrawn_accepted (ap (λ (a : Answer). a.done) (sym e))

  pub replan_by : (x y : ℕ) → accepted x ≡ replan_answer l b i y → AdmittedCell l b i × (y < 2 ^ 8)
  replan_by x y e =
      let (r, le) = replan_accepted y (ap (λ (a : Answer). a.done) (sym e)) in
      let most = r.accepted_book.fitted.accepted.head_valid.horizon.1 in
      (r, omega arith)
