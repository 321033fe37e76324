-- The book says what the history of its calls says, and each call keeps that. Assumes nothing.
use mathlib.Core.Path.{◌≡◌, refl, ap, ◌∙◌}
use mathlib.Core.Bool.{Bool, true, false, cond}
use mathlib.Core.List.{List, ◌∷◌}
use Prim.Native.Nat.{ℕ, ◌+◌, ◌≤◌, ◌<◌}
use native.Mathlib.Omega.{arith}
use native.Mathlib.Numerals.{add-one}
use lib.Dec.{eqb}
use Rattle.words.specs.Bits.{at_least_0}
use Rattle.words.proofs.Signed.{by_test}
use Rattle.listing.specs.Layout.{head, cells, row, cell}
use Rattle.year.specs.declared.Entry.{Entry}
use Rattle.year.specs.declared.Loss.{Loss}
use Rattle.year.specs.Year.{unconverted, inactive, age, drainage_level, emission}
use Rattle.year.specs.Year.{planned, marked}
use Rattle.year.proofs.Laws.{active, loss_inactive, mm_by_d, year_kg_lem, year_dry, year_level}
use Rattle.book.specs.Current.{issued, entry, kg_to_date, admitted, Holds}
use Rattle.book.specs.Layout.{year, oxidised_line, burned_line}
use Rattle.balance.specs.Balance.{balance_in}
use Rattle.balance.proofs.Bounds.{balance_same, issue_max}
use Rattle.closing.specs.Closing.{loss}
use Rattle.ledger.specs.Calls.{close_effect, replan_effect, withdraw_effect, issue_effect, Call, Close, Replan, Withdraw, Issue, call_effect}
use Rattle.ledger.proofs.After.{closed_holds, closed_line, replanned_holds, withdrawn_holds, issued_holds, issued_value, call_refused}
use Rattle.history.specs.History.{event_of, step, Event, Lines, Replanned, Issued, Nothing, History, BroughtForward, year_in, plan_in, sum_of, oxidised_in, burned_in, kg_in}
use Rattle.history.specs.History.{issued_in, balance_at, highest, EachClosing, d_of, StayedDry, LevelAtMost, LinesByD}

-- the book b is admitted and says what the history h says, and the claims hold of h. A record type with no name: at an event that
-- changes nothing it computes to itself, and the old proof is the new one
abbrev pub Inv : List ℕ → BroughtForward → List ℕ → History → Type 0
Inv l s b h =
    record {
      admits : (admitted l b).done ≡ true;
      year_is : year b ≡ year_in s h;
      issued_is : issued b ≡ issued_in s h;
      plan_is : (i : ℕ) → i < cells l → (entry b i).plan ≡ plan_in s h i;
      oxidised_is : (i : ℕ) → i < cells l → (entry b i).oxidised ≡ oxidised_in s h i;
      burned_is : (i : ℕ) → i < cells l → (entry b i).burned ≡ burned_in s h i;
      kilograms : (i : ℕ) → i < cells l → kg_in s h i ≡ emission (head l) (cell l i) (oxidised_in s h i) (burned_in s h i);
      dry : (i : ℕ) → i < cells l → EachClosing (StayedDry l s i) h;
      level : (i m : ℕ) → i < cells l → s.oxidised i + s.burned i ≤ m → EachClosing (LevelAtMost l s i m) h → oxidised_in s h i + burned_in s h i ≤ m;
      top : issued_in s h ≡ highest l s h;
    }

-- the plan year of one of two entries, by a test
plan_of_lem : (c : Bool) (x y : Entry) (u w : ℕ) → x.plan ≡ u → y.plan ≡ w → (cond c x y).plan ≡ cond c u w
plan_of_lem true x y u w e f = e
plan_of_lem false x y u w e f = f

module _ (l : List ℕ) (s : BroughtForward) (b : List ℕ) (h : History) (v : Inv l s b h) where
  -- ---- a call that gives nothing and leaves the book
  kept_nothing : (b' : List ℕ) → b' ≡ b → Inv l s b' (Nothing ∷ h)
  unfolding year_in plan_in sum_of issued_in highest EachClosing
  kept_nothing b' e = rw e v

  -- ---- a closing with a lines buffer x
  module _ (x : List ℕ) (done : (close_effect l b x).answer.done ≡ true) where
    -- cell i's kg line and its mm lines stay one sum's
    closed_kilograms : (i : ℕ) → i < cells l →
        kg_in s h i + (loss l b i).kg ≡ emission (head l) (cell l i) (oxidised_in s h i + (loss l b i).oxidised) (burned_in s h i + (loss l b i).burned)
    closed_kilograms i p =
        rw (v.kilograms i p, ← (v.oxidised_is i p), ← (v.burned_is i p)) (year_kg_lem (head l) (row l) (cell l i) (entry b i) (year b + 1))

    closed_dry : (i : ℕ) → i < cells l → 0 < (loss l b i).burned → (head l).guard + (loss l b i).burned ≤ d_of l s h i
    unfolding d_of
    closed_dry i p lt =
        let d = year_dry (head l) (row l) (cell l i) (entry b i) (year b + 1) lt in
        rw (← v.year_is, ← (v.plan_is i p), ← (add-one (year b)), d.0) (omega (arith, d.1, v.oxidised_is i p, v.burned_is i p))

    -- an active cell's lines go by d of the claims
    pub closed_lines_by_d : (i : ℕ) → i < cells l → inactive (head l) (cell l i) (entry b i) (year b + 1) ≡ false → LinesByD l s i (close_effect l b x).output h
    unfolding d_of
    closed_lines_by_d i p q =
        let rule = mm_by_d (head l) (row l) (cell l i) (entry b i) (year b + 1) q in
        let converted = (active (head l) (cell l i) (entry b i) (year b + 1) q).0 in
        let line = closed_line l b x done i p in
        record {
          burned = line.1 ∙ rw (← v.year_is, ← (v.plan_is i p), ← (v.oxidised_is i p), ← (v.burned_is i p), ← (add-one (year b)), converted) rule.0;
          oxidised = line.0 ∙ rw (line.1, ← v.year_is, ← (v.plan_is i p), ← (v.oxidised_is i p), ← (v.burned_is i p), ← (add-one (year b)), converted) rule.1;
        }

    -- and those of another are 0
    pub closed_no_lines : (i : ℕ) → i < cells l → inactive (head l) (cell l i) (entry b i) (year b + 1) ≡ true →
        (burned_line (close_effect l b x).output i ≡ 0) × (oxidised_line (close_effect l b x).output i ≡ 0)
    closed_no_lines i p q =
        let none = loss_inactive (head l) (row l) (cell l i) (entry b i) (year b + 1) q in
        let line = closed_line l b x done i p in
        (line.1 ∙ ap (λ (s : Loss). s.burned) none, line.0 ∙ ap (λ (s : Loss). s.oxidised) none)

    closed_level : (i m : ℕ) → i < cells l → s.oxidised i + s.burned i ≤ m → LevelAtMost l s i m (close_effect l b x).output h → EachClosing (LevelAtMost l s i m) h →
        (oxidised_in s h i + (loss l b i).oxidised) + (burned_in s h i + (loss l b i).burned) ≤ m
    closed_level i m p brought level levels =
        let now : unconverted (entry b i).plan (year b + 1) ≡ false → drainage_level (row l (cell l i).stratum (age (entry b i).plan (year b + 1))) ≤ m =
        rw (v.year_is, v.plan_is i p, add-one (year_in s h)) level in
        let before : (entry b i).oxidised + (entry b i).burned ≤ m = omega (arith, v.level i m p brought levels, v.oxidised_is i p, v.burned_is i p) in
        omega (arith, year_level (head l) (row l) (cell l i) (entry b i) (year b + 1) m now before, v.oxidised_is i p, v.burned_is i p)

    kept_close : Inv l s (close_effect l b x).book (Lines (close_effect l b x).output ∷ h)
    unfolding year_in plan_in sum_of issued_in highest EachClosing
    kept_close =
        let holds = closed_holds l b x done in
        let line = closed_line l b x done in
        record {
          admits = holds.admits;
          year_is = omega (arith, holds.year_is, v.year_is);
          issued_is = holds.issued_is ∙ v.issued_is;
          plan_is = λ i p. ap (λ (e : Entry). e.plan) (holds.entry_is i p) ∙ v.plan_is i p;
          oxidised_is = λ i p. omega (arith, ap (λ (e : Entry). e.oxidised) (holds.entry_is i p), v.oxidised_is i p, (line i p).0);
          burned_is = λ i p. omega (arith, ap (λ (e : Entry). e.burned) (holds.entry_is i p), v.burned_is i p, (line i p).1);
          kilograms = λ i p. rw ((line i p).0, (line i p).1, (line i p).2) (closed_kilograms i p);
          dry = λ i p. (rw (line i p).1 (closed_dry i p), v.dry i p);
          level = λ i m p brought levels. rw ((line i p).0, (line i p).1) (closed_level i m p brought levels.0 levels.1);
          top = v.top;
        }

  -- ---- a replan and a withdrawal change the entry of cell i; a field f that the change keeps stays what it was
  module _ (b' : List ℕ) (i : ℕ) (change : Entry → Entry) (holds : Holds l b' (year b) (issued b) (λ j. cond (eqb i j) (change (entry b j)) (entry b j))) where
    same_field : (f : Entry → ℕ) → ((e : Entry) → f (change e) ≡ f e) → (j : ℕ) → j < cells l → f (entry b' j) ≡ f (entry b j)
    same_field f keeps j p =
        ap f (holds.entry_is j p) ∙ by_test (λ (e : Entry). f e ≡ f (entry b j)) (eqb i j) (change (entry b j)) (entry b j) (λ here. keeps (entry b j)) (λ other. refl)

  kept_replan : (i y : ℕ) → (replan_effect l b i y).answer.done ≡ true → Inv l s (replan_effect l b i y).book (Replanned i y ∷ h)
  unfolding year_in plan_in sum_of issued_in highest EachClosing
  kept_replan i y done =
      let holds = replanned_holds l b i y done in
      let same = same_field (replan_effect l b i y).book i (λ (e : Entry). planned e y) holds in
      record {
        admits = holds.admits;
        year_is = holds.year_is ∙ v.year_is;
        issued_is = holds.issued_is ∙ v.issued_is;
        plan_is = λ j p. ap (λ (e : Entry). e.plan) (holds.entry_is j p) ∙ plan_of_lem (eqb i j) (planned (entry b j) y) (entry b j) y (plan_in s h j) refl (v.plan_is j p);
        oxidised_is = λ j p. same (λ (e : Entry). e.oxidised) (λ e. refl) j p ∙ v.oxidised_is j p;
        burned_is = λ j p. same (λ (e : Entry). e.burned) (λ e. refl) j p ∙ v.burned_is j p;
        kilograms = v.kilograms;
        dry = v.dry;
        level = v.level;
        top = v.top;
      }

  kept_withdraw : (i : ℕ) → (withdraw_effect l b i).answer.done ≡ true → Inv l s (withdraw_effect l b i).book (Nothing ∷ h)
  unfolding year_in plan_in sum_of issued_in highest EachClosing
  kept_withdraw i done =
      let holds = withdrawn_holds l b i done in
      let same = same_field (withdraw_effect l b i).book i marked holds in
      record {
        admits = holds.admits;
        year_is = holds.year_is ∙ v.year_is;
        issued_is = holds.issued_is ∙ v.issued_is;
        plan_is = λ j p. same (λ (e : Entry). e.plan) (λ e. refl) j p ∙ v.plan_is j p;
        oxidised_is = λ j p. same (λ (e : Entry). e.oxidised) (λ e. refl) j p ∙ v.oxidised_is j p;
        burned_is = λ j p. same (λ (e : Entry). e.burned) (λ e. refl) j p ∙ v.burned_is j p;
        kilograms = v.kilograms;
        dry = v.dry;
        level = v.level;
        top = v.top;
      }

  -- ---- an issue
  balance_is : balance_in l b ≡ balance_at l s h
  balance_is = balance_same l (year b) (year_in s h) (kg_to_date l b) (kg_in s h) v.year_is (λ i p. rw (v.kilograms i p, v.oxidised_is i p, v.burned_is i p))

  kept_issue : (issue_effect l b).answer.done ≡ true → Inv l s (issue_effect l b).book (Issued (issue_effect l b).answer.value ∷ h)
  unfolding year_in plan_in sum_of issued_in highest EachClosing
  kept_issue done =
      let holds = issued_holds l b done in
      record {
        admits = holds.admits;
        year_is = holds.year_is ∙ v.year_is;
        issued_is = rw (issued_value l b done, ← v.issued_is) holds.issued_is;
        plan_is = λ i p. rw (holds.entry_is i p) (v.plan_is i p);
        oxidised_is = λ i p. rw (holds.entry_is i p) (v.oxidised_is i p);
        burned_is = λ i p. rw (holds.entry_is i p) (v.burned_is i p);
        kilograms = v.kilograms;
        dry = v.dry;
        level = v.level;
        top = omega (arith, issued_value l b done, ap at_least_0 balance_is, v.top, v.issued_is, issue_max (balance_in l b) (issued b));
      }

  -- ---- every call: what an accepted one gives is kept, and a refused one gives nothing
  pub kept_step : (c : Call) → Inv l s (step l b c).book ((step l b c).event ∷ h)
  kept_step c =
      by_test (λ (e : Event). Inv l s (call_effect l b c).book (e ∷ h)) (call_effect l b c).answer.done (event_of c (call_effect l b c)) Nothing (kept c)
      (λ refused. kept_nothing _ (call_refused l b c refused))
    where
      kept : (c : Call) → (call_effect l b c).answer.done ≡ true → Inv l s (call_effect l b c).book (event_of c (call_effect l b c) ∷ h)
      kept (Close x) = kept_close x
      kept (Replan i y) = kept_replan i y
      kept (Withdraw i) = kept_withdraw i
      kept Issue = kept_issue
