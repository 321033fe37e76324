-- A book of any shape that was written anew: it is accepted, and says what was written. Assumes nothing.
use mathlib.Core.Path.{◌≡◌, sym, ap, ◌∙◌}
use mathlib.Core.Bool.{Bool, true}
use mathlib.Core.List.{List}
use Prim.Native.Nat.{ℕ, zero-le, ◌+◌, ◌-◌, ◌*◌, ◌%◌, ◌^◌, ◌≤◌, ◌<◌}
use native.Mathlib.Omega.{arith}
use lib.Dec.{eqb}
use lib.ListN.{length, get_or}
use lib.Seq.{get_or-set_same, set-set}
use borrow.Author.Tests.{eqb-true, eqb-false}
use Rattle.words.specs.Bits.{word_of}
use Rattle.words.specs.Blocks.{filled}
use Rattle.words.proofs.Blocks.{filled_again}
use Rattle.words.proofs.Signed.{by_test}
use Rattle.listing.specs.Layout.{head, cells, horizon, cell}
use Rattle.listing.specs.Accepted.{Accepted}
use Rattle.year.specs.declared.Entry.{Entry}
use Rattle.book.specs.Layout.{year_kind, issued_kind, Shaped, year_at, issued_at, issued_words, words_of, stored, with_year, with_issued}
use Rattle.book.specs.Check.{is_head_word, head_word_valid, fitted}
use Rattle.book.specs.Held.{held_at, new_book, Holds}
use Rattle.book.specs.AcceptedBook.{All, EntryValid}
use Rattle.book.specs.declared.Shape.{Shape}
use Rattle.book.proofs.Words.{year_valid}
use Rattle.book.proofs.Numbers.{length_stored, stored_outside, stored_kind, stored_set, stored_filled, stored_same}
use Rattle.book.proofs.AcceptedBook.{fitted_accepted}
use Rattle.book.proofs.Held.{held_at_sized, held_at_valid, held_at_entry}
use Rattle.book.proofs.Entries.{year_put, issued_put, year_issued, head_filled, year_filled, issued_filled, words_filled, entry_filled}
use Rattle.book.proofs.Keeps.{fitted_length, filled_admits}

module _ (s : Shape) (g : Shaped s) (l b : List ℕ) (fits : (fitted s l b).done ≡ true) (t n : ℕ) (e : ℕ → Entry) where
  accepted_here : Accepted l
  accepted_here = (fitted_accepted s l b g fits).accepted

  capacity : (2 ≤ s.head) × (s.head ≤ length b)
  capacity = let size = (fitted_accepted s l b g fits).capacity in (g.head.0, omega arith)

  sized : (i : ℕ) → length (held_at s e i) ≡ s.entry
  sized = held_at_sized s g e

  -- it is filled behind a new head
  abbrev dated : List ℕ
  dated = with_year b t

  abbrev front : List ℕ
  front = with_issued s dated n

  dated_capacity : s.head ≤ length dated
  dated_capacity = omega (arith, capacity, length_stored year_kind year_at 1 t b)

  front_length : length front ≡ length b
  front_length = length_stored issued_kind issued_at (issued_words s) n dated ∙ length_stored year_kind year_at 1 t b

  front_filled : (e' : ℕ → Entry) → new_book s l b t n e' ≡ filled s.entry front s.head (held_at s e') (cells l)
  unfolding new_book
  front_filled e' =
      let sized = held_at_sized s g e' in
      ap (λ (d : List ℕ). with_issued s d n) (stored_filled year_kind year_at 1 t s.entry s.head b (held_at s e') sized (cells l) capacity.1 (omega (arith, capacity)))
      ∙ stored_filled issued_kind issued_at (issued_words s) n s.entry s.head dated (held_at s e') sized (cells l) dated_capacity (omega (arith, capacity))

  new_filled : new_book s l b t n e ≡ filled s.entry front s.head (held_at s e) (cells l)
  new_filled = front_filled e

  front_capacity : s.head ≤ length front
  front_capacity = omega (arith, capacity, front_length)

  -- the words of a cell
  pub new_words : (i : ℕ) → i < cells l → words_of s (new_book s l b t n e) i ≡ held_at s e i
  new_words i lt = rw new_filled (words_filled s front (held_at s e) sized front_capacity (cells l) i lt)

  -- other entries and another year over it
  pub new_again : (u : ℕ) (e' : ℕ → Entry) → with_year (filled s.entry (new_book s l b t n e) s.head (held_at s e') (cells l)) u ≡ new_book s l b u n e'
  unfolding new_book stored
  new_again u e' =
      let cells_then = filled s.entry b s.head (held_at s e') (cells l) in
      ap (λ (d : List ℕ). with_year d u)
      (ap (λ (d : List ℕ). filled s.entry d s.head (held_at s e') (cells l)) new_filled
      ∙ filled_again s.entry front s.head (held_at s e) sized (omega (arith, capacity, front_length)) (cells l) (held_at s e')
      ∙ sym (front_filled e'))
      ∙ stored_set issued_kind issued_at (issued_words s) n year_at (word_of year_kind (u % 2 ^ 28)) (with_year cells_then t) (omega arith)
      ∙ ap (λ (d : List ℕ). with_issued s d n) (set-set cells_then year_at (word_of year_kind (t % 2 ^ 28)) (word_of year_kind (u % 2 ^ 28)))

  module _ (in_time : t ≤ horizon l) (tonnes_fit : n < 2 ^ (28 * issued_words s)) (valid : (i : ℕ) → i < cells l → EntryValid (head l) (cell l i) (e i)) where
    small : t < 2 ^ 8
    small = let h = accepted_here.head_valid.horizon in omega arith

    dated_valid : is_head_word (horizon l) year_at (get_or dated year_at 0) ≡ true
    unfolding is_head_word stored
    dated_valid =
        let same : t % 2 ^ 28 ≡ t = omega (arith, small) in
        let h = accepted_here.head_valid.horizon in
        rw (get_or-set_same b year_at (word_of year_kind (t % 2 ^ 28)) 0 (omega (arith, capacity)), same) (year_valid (horizon l) t in_time (omega arith))

    front_valid : All (head_word_valid (horizon l) front) s.head
    unfolding is_head_word
    front_valid =
        record {
          each =
              λ k lt.
              by_test (λ (x : Bool). is_head_word (horizon l) k (get_or front k 0) ≡ true) (eqb k year_at) true true
              (λ q. rw (eqb-true k year_at q, stored_outside issued_kind issued_at (issued_words s) n year_at dated (λ le. absurd (omega arith))) dated_valid)
              (λ q.
              let other = eqb-false k year_at q in
              let place : k ≡ issued_at + (k - issued_at) = omega arith in
              rw q (rw (← place) at (stored_kind issued_kind issued_at (issued_words s) n dated (omega arith) (omega (arith, capacity, dated_capacity)) (k - issued_at) (omega arith))));
        }

    head_positive : 1 ≤ s.head
    head_positive = omega (arith, capacity)

    pub new_holds : Holds s l (new_book s l b t n e) t n e
    new_holds =
        rw new_filled
        (record {
          admits = filled_admits s g l front (fitted_length s l b front front_length fits) front_valid (held_at s e) sized (held_at_valid s g e l accepted_here valid);
          year_is = year_filled s front (held_at s e) sized front_capacity (cells l) head_positive ∙ year_issued s dated n ∙ year_put b t (omega (arith, capacity)) (omega (arith, small));
          issued_is = issued_filled s front (held_at s e) sized front_capacity (cells l) head_positive ∙ issued_put s dated n dated_capacity head_positive tonnes_fit;
          entry_is = λ i lt. entry_filled s front (held_at s e) sized front_capacity (cells l) i lt ∙ held_at_entry s g e l accepted_here valid i lt;
        })

-- two new books with one year and one number of tonnes have the same head
module _ (s : Shape) (g : Shaped s) (l b : List ℕ) (fits : (fitted s l b).done ≡ true) (l' b' : List ℕ) (fits' : (fitted s l' b').done ≡ true) (t n : ℕ) (e e' : ℕ → Entry) where
  pub new_head : (k : ℕ) → k < s.head → get_or (new_book s l b t n e) k 0 ≡ get_or (new_book s l' b' t n e') k 0
  new_head k lt =
      rw (new_filled s g l b fits t n e, new_filled s g l' b' fits' t n e')
      (head_filled s _ (held_at s e) (held_at_sized s g e) (front_capacity s g l b fits t n e) (cells l) k lt
      ∙ stored_same issued_kind issued_at (issued_words s) n k (with_year b t) (with_year b' t) (omega (arith, capacity s g l b fits t n e, dated_capacity s g l b fits t n e))
      (omega (arith, capacity s g l' b' fits' t n e', dated_capacity s g l' b' fits' t n e'))
      (λ beside. stored_same year_kind year_at 1 t k b b' (omega (arith, capacity s g l b fits t n e)) (omega (arith, capacity s g l' b' fits' t n e'))
      (λ far. let up = beside (far zero-le) in absurd (omega arith)))
      ∙ sym (head_filled s _ (held_at s e') (held_at_sized s g e') (front_capacity s g l' b' fits' t n e') (cells l') k lt))
