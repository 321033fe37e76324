-- A book that was accepted is accepted after each store that a call makes. Assumes nothing.
use mathlib.Core.Path.{◌≡◌}
use mathlib.Core.Bool.{Bool, true}
use mathlib.Core.List.{List}
use Prim.Native.Nat.{ℕ, ◌%◌, ◌^◌, ◌≤◌, ◌<◌}
use native.Mathlib.Omega.{arith}
use lib.Dec.{eqb}
use lib.ListN.{length, get_or, set, length-set}
use lib.Seq.{get_or-set_same, get_or-set_other}
use borrow.Author.Tests.{eqb-true, eqb-false, ne_eqb}
use Rattle.words.specs.Bits.{word_of}
use Rattle.words.specs.Blocks.{filled}
use Rattle.words.proofs.Answers.{after_accepted}
use Rattle.words.proofs.Blocks.{length_filled}
use Rattle.words.proofs.Signed.{by_test}
use Rattle.listing.specs.Layout.{head, cells, horizon, cell}
use Rattle.year.specs.declared.Entry.{Entry}
use Rattle.book.specs.Layout.{year_kind, issued_kind, Shaped, entry_at, book_size, year_at, issued_at, issued_words, stored, with_year, with_issued, plan_word, with_plan}
use Rattle.book.specs.Check.{is_head_word, head_word_valid, entry_word_valid, capacity_checked, fitted, admitted}
use Rattle.book.specs.AcceptedBook.{All, WordsValid}
use Rattle.book.specs.declared.Shape.{Shape}
use Rattle.book.proofs.Words.{kind_of, year_valid}
use Rattle.book.proofs.Numbers.{stored_keeps}
use Rattle.book.proofs.Valid.{admitted_valid, valid_admits}
use Rattle.book.proofs.AcceptedBook.{fitted_accepted, fitted_cell, accepted_book}
use Rattle.book.proofs.Entries.{before_words, valid_put, head_filled, words_filled}

-- capacity depends on the length
pub fitted_length : (s : Shape) (l b b' : List ℕ) → length b' ≡ length b → (fitted s l b).done ≡ true → (fitted s l b').done ≡ true
unfolding fitted capacity_checked
fitted_length s l b b' e h = rw e h

pub admitted_fitted : (s : Shape) (l b : List ℕ) → (admitted s l b).done ≡ true → (fitted s l b).done ≡ true
unfolding admitted
admitted_fitted s l b h = (after_accepted _ _ h).0

module _ (s : Shape) (g : Shaped s) (l b : List ℕ) (a : (admitted s l b).done ≡ true) where
  -- one word stored, and all words valid
  one_stored : (k w : ℕ) → WordsValid s l (set b k w) → (admitted s l (set b k w)).done ≡ true
  one_stored k w r = valid_admits s l (set b k w) g (fitted_length s l b (set b k w) (length-set b k w) (admitted_fitted s l b a)) r

  pub admitted_capacity : book_size s (cells l) ≤ length b
  admitted_capacity = (accepted_book s l b g a).fitted.capacity

  pub horizon_small : horizon l < 2 ^ 8
  horizon_small = let h = (accepted_book s l b g a).fitted.accepted.head_valid.horizon in omega arith

  -- a word of the head
  pub head_admits : (k w : ℕ) → k < s.head → is_head_word (horizon l) k w ≡ true → (admitted s l (set b k w)).done ≡ true
  head_admits k w h valid =
      let r = admitted_valid s l b a in
      one_stored k w
      (record {
        head_words =
            record {
              each =
                  λ m lt.
                  by_test (λ (t : Bool). is_head_word (horizon l) m (get_or (set b k w) m 0) ≡ true) (eqb m k) true true
                  (λ e. rw (eqb-true m k e, get_or-set_same b k w 0 (omega (arith, admitted_capacity))) valid)
                  (λ e. rw (get_or-set_other b k m w 0 (eqb-false m k e)) (r.head_words.each m lt));
            };
        entry_words = λ i lt. rw (before_words s b k w i (omega arith)) (r.entry_words i lt);
      })

  pub year_admits : (t : ℕ) → t ≤ horizon l → (admitted s l (with_year b t)).done ≡ true
  unfolding is_head_word stored
  year_admits t h =
      let two = g.head in
      let small : t % 2 ^ 28 ≡ t = omega (arith, horizon_small) in
      head_admits year_at (word_of year_kind (t % 2 ^ 28)) (omega arith) (rw small (year_valid (horizon l) t h (omega (arith, horizon_small))))

  pub plan_admits : (i : ℕ) (new : Entry) → new.plan ≤ horizon l → (admitted s l (with_plan s b i new)).done ≡ true
  plan_admits i new h =
      let r = admitted_valid s l b a in
      let word = plan_word new.withdrawn new.plan in
      one_stored (entry_at s i) word
      (record {
        head_words = record { each = λ k lt. rw (get_or-set_other b (entry_at s i) k word 0 (λ q. omega arith)) (r.head_words.each k lt) };
        entry_words = λ j lt. valid_put s b i new j (fitted_cell s l b (accepted_book s l b g a).fitted j lt) s.entry (head l) (cell l j) h horizon_small (r.entry_words j lt);
      })

pub issued_admits : (s : Shape) (g : Shaped s) (l b : List ℕ) (n : ℕ) → (admitted s l b).done ≡ true → (admitted s l (with_issued s b n)).done ≡ true
unfolding is_head_word
issued_admits s g l b n a =
    stored_keeps (λ (d : List ℕ). (admitted s l d).done ≡ true) issued_kind issued_at (issued_words s) n b
    (λ d k w h lt small e. head_admits s g l d e k (word_of issued_kind w) (omega arith) (rw (ne_eqb k 0 (λ q. omega arith)) (kind_of issued_kind w (omega arith) small)))
    a

-- all cells' words stored, behind a valid head
pub filled_admits :
    (s : Shape) (g : Shaped s) (l b : List ℕ) → (fitted s l b).done ≡ true → All (head_word_valid (horizon l) b) s.head →
    (f : ℕ → List ℕ) → ((i : ℕ) → length (f i) ≡ s.entry) → ((i : ℕ) → i < cells l → All (entry_word_valid (head l) (cell l i) (f i)) s.entry) →
    (admitted s l (filled s.entry b s.head f (cells l))).done ≡ true
filled_admits s g l b fits heads f sized w =
    let capacity = (fitted_accepted s l b g fits).capacity in
    let front : s.head ≤ length b = omega arith in
    valid_admits s l _ g (fitted_length s l b _ (length_filled s.entry b s.head f sized front (cells l) capacity) fits)
    (record {
      head_words = record { each = λ k lt. rw (head_filled s b f sized front (cells l) k lt) (heads.each k lt) };
      entry_words = λ i lt. rw (words_filled s b f sized front (cells l) i lt) (w i lt);
    })
