-- THE THEOREM of specs/History.antt: every list of calls keeps the claims. Assumes nothing.
use mathlib.Core.Path.{◌≡◌, refl, sym}
use mathlib.Core.Bool.{true}
use mathlib.Core.List.{List, [], ◌∷◌}
use Prim.Native.Nat.{ℕ}
use native.Mathlib.Omega.{arith}
use Rattle.listing.specs.Layout.{head, cell}
use Rattle.year.proofs.Laws.{emission_none}
use Rattle.book.specs.Current.{current, admitted}
use Rattle.ledger.specs.Calls.{figures_of, statement_answer, Start, Open, Convert, start_effect, Call}
use Rattle.ledger.proofs.AdmittedCell.{cell_admitted}
use Rattle.ledger.proofs.After.{opened_holds, every_conversion, start_admits}
use Rattle.history.specs.History.{State, next, run, BroughtForward, brought_forward, year_in, plan_in, sum_of, issued_in, highest, EachClosing, d_of, EveryUnconverted}
use Rattle.history.specs.History.{Claims, EveryList, IsBroughtForward, EveryListFrom, EveryDrained, EveryDrainedFrom}
use Rattle.book.proofs.AcceptedBook.{shaped, accepted_book}
use Rattle.history.proofs.Invariant.{Inv, closed_lines_by_d, closed_no_lines, kept_step}

-- before the first call
kept_start : (l b : List ℕ) (s : BroughtForward) → (admitted l b).done ≡ true → IsBroughtForward l b s → Inv l s b []
unfolding year_in plan_in sum_of issued_in highest EachClosing
kept_start l b s admits brought =
    record {
      admits = admits;
      year_is = brought.year_is;
      issued_is = brought.issued_is;
      plan_is = brought.plan_is;
      oxidised_is = brought.oxidised_is;
      burned_is = brought.burned_is;
      kilograms = brought.kg_is;
      dry = λ i p. tt;
      level = λ i m p lost levels. lost;
      top = refl;
    }

-- and so after a list of calls
kept_run : (l : List ℕ) (s : BroughtForward) (state : State) (calls : List Call) → Inv l s state.book state.history → Inv l s (run l state calls).book (run l state calls).history
unfolding run
kept_run l s state [] v = v
kept_run l s state (c ∷ calls) v = kept_run l s (next l state c) calls (kept_step l s state.book state.history v c)

-- what the invariant says in words
claims : (l : List ℕ) (s : BroughtForward) (state : State) → Inv l s state.book state.history → Claims l s state
unfolding statement_answer figures_of
claims l s state v =
    record {
      each = λ i p.
          let stated = cell_admitted l state.book i v.admits p in
          record {
            stated = stated;
            depth = rw stated (omega (arith, v.oxidised_is i p, v.burned_is i p, ((accepted_book current l state.book shaped v.admits).entry_valid i p).lost));
            kilograms = v.kilograms i p;
            dry = v.dry i p;
          };
      issues = v.top;
    }

kept_list : (l b : List ℕ) (s : BroughtForward) (admits : (admitted l b).done ≡ true) (brought : IsBroughtForward l b s) (calls : List Call) →
    let state = run l (record { book = b; history = [] }) calls in Inv l s state.book state.history
kept_list l b s admits brought calls = kept_run l s (record { book = b; history = [] }) calls (kept_start l b s admits brought)

pub every_list_from : EveryListFrom
every_list_from l b s admits brought calls = claims l s _ (kept_list l b s admits brought calls)

-- beside the claims: what was drained
pub every_drained_from : EveryDrainedFrom
every_drained_from l b s admits brought calls i p =
    let kept = kept_list l b s admits brought calls in
    record {
      within = λ m. kept.level i m p;
      lines = λ x done q. closed_lines_by_d l s _ _ kept x done i p q;
      no_lines = λ x done q. closed_no_lines l s _ _ kept x done i p q;
    }

-- ---- what an accepted start brings, the book that it wrote says

start_brings : (l : List ℕ) (from : Start) → (start_effect l from).answer.done ≡ true → IsBroughtForward l (start_effect l from).book (brought_forward l from)
start_brings l (Open b) done =
    let holds = opened_holds l b done in
    record {
      year_is = holds.year_is;
      issued_is = holds.issued_is;
      plan_is = λ i p. rw (holds.entry_is i p);
      oxidised_is = λ i p. rw (holds.entry_is i p);
      burned_is = λ i p. rw (holds.entry_is i p);
      kg_is = λ i p. sym (emission_none (head l) (cell l i));
    }
start_brings l (Convert old new) done =
    let holds = every_conversion l old new done in
    record {
      year_is = holds.year_is;
      issued_is = holds.issued_is;
      plan_is = λ i p. rw (holds.entry_is i p);
      oxidised_is = λ i p. rw (holds.entry_is i p);
      burned_is = λ i p. rw (holds.entry_is i p);
      kg_is = λ i p. refl;
    }

pub every_list : EveryList
every_list l from done = every_list_from l (start_effect l from).book (brought_forward l from) (start_admits l from done) (start_brings l from done)

pub every_drained : EveryDrained
every_drained l from done = every_drained_from l (start_effect l from).book (brought_forward l from) (start_admits l from done) (start_brings l from done)

-- and d of a cell that is not converted
pub every_unconverted : EveryUnconverted
unfolding d_of
every_unconverted l s before i e = rw e
