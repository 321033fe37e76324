-- THE THEOREM of specs/Order.antt: every list of calls gives the same in every order of the cells. Assumes nothing.
use mathlib.Core.Path.{◌≡◌, refl, sym, ◌∙◌}
use mathlib.Core.Bool.{true}
use mathlib.Core.List.{List, [], ◌∷◌}
use Prim.Native.Nat.{ℕ}
use lib.ListN.{length}
use Rattle.book.specs.Current.{admitted}
use Rattle.ledger.specs.Calls.{Start, Open, Convert, open_effect, convert_effect, start_effect, start_book, call_effect, Call}
use Rattle.ledger.proofs.After.{start_admits, call_admits}
use Rattle.order.specs.Order.{Order, ListingMoved, StartMoved, moved_start, moved, SameCalls, EveryOrder, EveryOrderFrom}
use Rattle.order.proofs.Starts.{starts, start_is, start_moved}
use Rattle.order.proofs.Calls.{none_moved, Pair, statement_same, pair_next, same_call, pair_alike}

-- ---- a list of calls

same_calls : {n : ℕ} (o : Order n) (l l' b b' : List ℕ) → Pair o l l' b b' → (admitted l b).done ≡ true → (calls : List Call) → SameCalls o l l' b b' calls
unfolding SameCalls
same_calls o l l' b b' v a [] = tt
same_calls o l l' b b' v a (c ∷ calls) = λ y long. (
  same_call v a c y long,
  same_calls o l l' (call_effect l b c).book (call_effect l' b' (moved o y c)).book (pair_next v a c y long) (call_admits l b c a) calls,
)

pub every_order_from : EveryOrderFrom
every_order_from n o l b l' b' p admits calls = same_calls o l l' b b' (pair_alike p) admits calls

-- ---- a start

-- it has no output
no_lines : (l : List ℕ) (from : Start) → (start_effect l from).output ≡ []
unfolding open_effect convert_effect
no_lines l (Open b) = refl
no_lines l (Convert old new) = refl

pub pair_started : {n : ℕ} {o : Order n} {l l' : List ℕ} → ListingMoved o l l' → (from : Start) (old' b' : List ℕ) → StartMoved o from old' → length b' ≡ length (start_book from) →
    (start_effect l from).answer.done ≡ true → Pair o l l' (start_effect l from).book (start_effect l' (moved_start from old' b')).book
pair_started {l' = l'} e from old' b' eb long done =
    let done' = starts e from old' b' eb long done in
    record { listing = e; book = start_moved e from old' b' eb long done done'; admits = λ a. start_admits l' (moved_start from old' b') done' }

pub every_order : EveryOrder
every_order n o l from l' old' b' e eb long done =
    let from' = moved_start from old' b' in
    let v = pair_started e from old' b' eb long done in
    let admits = start_admits l from done in (
      record {
        answer_is = start_is l' from' (starts e from old' b' eb long done) ∙ sym (start_is l from done);
        book_moved = v.book;
        lines_moved = λ h. rw (no_lines l from, no_lines l' from') none_moved;
        statement_is = statement_same v admits;
      },
      same_calls o l l' _ _ v admits,
    )
