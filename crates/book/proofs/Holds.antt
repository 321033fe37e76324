-- What a book of any shape holds after each store that a call makes. Assumes nothing.
use mathlib.Core.Path.{◌≡◌, refl, ap, ◌∙◌}
use mathlib.Core.Bool.{true, cond}
use mathlib.Core.List.{List}
use Prim.Native.Nat.{ℕ, ◌*◌, ◌^◌, ◌≤◌, ◌<◌}
use native.Mathlib.Omega.{arith}
use lib.Dec.{eqb}
use lib.ListN.{length}
use Rattle.words.specs.Blocks.{filled}
use Rattle.listing.specs.Layout.{head, cells, horizon, cell}
use Rattle.year.specs.declared.Entry.{Entry}
use Rattle.book.specs.Layout.{year_kind, issued_kind, Shaped, entry_at, year_at, issued_at, issued_words, year, issued, entry, with_year, with_issued, plan_word, with_plan}
use Rattle.book.specs.Check.{admitted}
use Rattle.book.specs.Held.{held_at, Holds}
use Rattle.book.specs.AcceptedBook.{EntryValid}
use Rattle.book.specs.declared.Shape.{Shape}
use Rattle.book.proofs.Numbers.{joined_kept}
use Rattle.book.proofs.Valid.{admitted_valid}
use Rattle.book.proofs.AcceptedBook.{fitted_cell, accepted_book}
use Rattle.book.proofs.Held.{held_at_sized, held_at_valid, held_at_entry}
use Rattle.book.proofs.Entries.{year_put, issued_put, year_issued, issued_year, entry_stored, replaced, entry_put, year_filled, issued_filled, entry_filled}
use Rattle.book.proofs.Keeps.{admitted_fitted, admitted_capacity, horizon_small, year_admits, issued_admits, plan_admits, filled_admits}

-- an accepted book holds what is read from it
pub holds : (s : Shape) (l b : List ℕ) → (admitted s l b).done ≡ true → Holds s l b (year b) (issued s b) (entry s b)
holds s l b a = record { admits = a; year_is = refl; issued_is = refl; entry_is = λ i h. refl }

module _ {s : Shape} (g : Shaped s) {l b : List ℕ} {t n : ℕ} {entries : ℕ → Entry} (holds : Holds s l b t n entries) where
  -- the same entries, written otherwise
  pub holds_as : (entries' : ℕ → Entry) → ((i : ℕ) → i < cells l → entries i ≡ entries' i) → Holds s l b t n entries'
  holds_as entries' e = record { admits = holds.admits; year_is = holds.year_is; issued_is = holds.issued_is; entry_is = λ i h. holds.entry_is i h ∙ e i h }

  capacity : (2 ≤ s.head) × (s.head ≤ length b)
  capacity = let size = admitted_capacity s g l b holds.admits in (g.head.0, omega arith)

  small : horizon l < 2 ^ 8
  small = horizon_small s g l b holds.admits

  -- another year
  pub holds_year : (u : ℕ) → u ≤ horizon l → Holds s l (with_year b u) u n entries
  holds_year u h =
      record {
        admits = year_admits s g l b holds.admits u h;
        year_is = year_put b u (omega (arith, capacity)) (omega (arith, small));
        issued_is = issued_year s b u ∙ holds.issued_is;
        entry_is = λ i lt. entry_stored s b year_kind year_at 1 u i (omega (arith, capacity)) ∙ holds.entry_is i lt;
      }

  -- other tonnes issued
  pub holds_issued : (m : ℕ) → m < 2 ^ (28 * issued_words s) → Holds s l (with_issued s b m) t m entries
  holds_issued m h =
      record {
        admits = issued_admits s g l b m holds.admits;
        year_is = year_issued s b m ∙ holds.year_is;
        issued_is = issued_put s b m capacity.1 (omega (arith, capacity)) h;
        entry_is = λ i lt. entry_stored s b issued_kind issued_at (issued_words s) m i (omega (arith, capacity)) ∙ holds.entry_is i lt;
      }

  -- the mark and the plan year of another entry for cell i
  pub holds_plan : (i : ℕ) (new : Entry) → new.plan ≤ horizon l → Holds s l (with_plan s b i new) t n (λ j. cond (eqb i j) (replaced (entries j) new.withdrawn new.plan) (entries j))
  unfolding year issued
  holds_plan i new h =
      record {
        admits = plan_admits s g l b holds.admits i new h;
        year_is = joined_kept b (entry_at s i) (plan_word new.withdrawn new.plan) year_at 1 (λ q. omega (arith, capacity)) ∙ holds.year_is;
        issued_is = joined_kept b (entry_at s i) (plan_word new.withdrawn new.plan) issued_at (issued_words s) (λ q. omega (arith, capacity)) ∙ holds.issued_is;
        entry_is =
            λ j lt.
            entry_put s b i new j (fitted_cell s l b (accepted_book s l b g holds.admits).fitted j lt) (omega (arith, small))
            ∙ ap (λ (e : Entry). cond (eqb i j) (replaced e new.withdrawn new.plan) e) (holds.entry_is j lt);
      }

  -- another entry for every cell
  pub holds_entries : (e : ℕ → Entry) → ((i : ℕ) → i < cells l → EntryValid (head l) (cell l i) (e i)) → Holds s l (filled s.entry b s.head (held_at s e) (cells l)) t n e
  holds_entries e valid =
      let a = (accepted_book s l b g holds.admits).fitted.accepted in
      let sized = held_at_sized s g e in
      record {
        admits = filled_admits s g l b (admitted_fitted s l b holds.admits) (admitted_valid s l b holds.admits).head_words (held_at s e) sized (held_at_valid s g e l a valid);
        year_is = year_filled s b (held_at s e) sized capacity.1 (cells l) (omega (arith, capacity)) ∙ holds.year_is;
        issued_is = issued_filled s b (held_at s e) sized capacity.1 (cells l) (omega (arith, capacity)) ∙ holds.issued_is;
        entry_is = λ i lt. entry_filled s b (held_at s e) sized capacity.1 (cells l) i lt ∙ held_at_entry s g e l a valid i lt;
      }
