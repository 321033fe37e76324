-- A book's words by cell and offset, not by place: an accepted book has each of them valid, and the other way round. Assumes nothing.
use mathlib.Core.Path.{◌≡◌, sym, ap, ◌∙◌}
use mathlib.Core.Bool.{Bool, true, false}
use mathlib.Core.List.{List}
use Prim.Native.Nat.{ℕ, zero-le, ◌+◌, ◌<◌}
use native.Mathlib.Omega.{arith}
use lib.Dec.{ltb, eqb}
use lib.ListN.{length, get_or}
use borrow.Author.Tests.{ltb-true, ltb-false, lt-ltb, le-ltb}
use Rattle.words.specs.Answers.{Answer, accepted}
use Rattle.words.specs.Refusals.{book_short, book_word}
use Rattle.words.proofs.Answers.{need_accepted, need_all_accepted, after_accepted, need_is, need_all_is, after_is}
use Rattle.words.proofs.Signed.{by_test}
use Rattle.fields.specs.declared.Head.{Head}
use Rattle.fields.specs.declared.Cell.{Cell}
use Rattle.year.specs.Year.{most_loss}
use Rattle.listing.specs.Layout.{head, cells, horizon, cell}
use Rattle.listing.specs.Check.{checked}
use Rattle.book.specs.Layout.{Shaped, entry_at, book_size, cell_of_place, offset_of_place, words_of}
use Rattle.book.specs.Check.{is_plan_word, is_oxidised_word, is_burned_word, head_word_valid, entry_word_valid, book_word_valid, capacity_checked, fitted, book_checked, admitted}
use Rattle.book.specs.AcceptedBook.{All, WordsValid}
use Rattle.book.specs.declared.Shape.{Shape}
use Rattle.book.proofs.Places.{entry_before, cell_of_place_lem, offset_of_place_lem, cell_below, offset_below}

-- a cell's words, by name
pub entry_all : (n : ℕ) (h : Head) (c : Cell) (w : List ℕ) → is_plan_word h.horizon (get_or w 0 0) ≡ true → is_oxidised_word (get_or w 1 0) ≡ true →
    is_burned_word (most_loss h c) (get_or w 1 0) (get_or w 2 0) ≡ true → All (entry_word_valid h c w) n
unfolding entry_word_valid
entry_all n h c w p o q =
    record {
      each =
          λ j lt.
          by_test (λ (x : Bool). x ≡ true) (eqb j 0) _ _ (λ e. p) (λ e. by_test (λ (x : Bool). x ≡ true) (eqb j 1) _ _ (λ e. o) (λ e. q));
    }

-- the first word apart: the tests of the others read no other word than theirs
pub entry_rest : (h : Head) (c : Cell) (w v : List ℕ) → ((k : ℕ) → 0 < k → get_or w k 0 ≡ get_or v k 0) → (j : ℕ) → eqb j 0 ≡ false → entry_word_valid h c w j ≡ entry_word_valid h c v j
unfolding entry_word_valid
entry_rest h c w v same j e = rw (e, same 1 (omega arith), same 2 (omega arith))

pub entry_same : (h : Head) (c : Cell) (w v : List ℕ) → ((k : ℕ) → get_or w k 0 ≡ get_or v k 0) → (j : ℕ) → entry_word_valid h c w j ≡ entry_word_valid h c v j
unfolding entry_word_valid
entry_same h c w v same j = rw (same 0, same 1, same 2)

module _ (s : Shape) (l b : List ℕ) where
  -- the word at place k of the head, and the one at offset j of cell i
  pub valid_head : (k : ℕ) → k < s.head → book_word_valid s l b k ≡ head_word_valid (horizon l) b k
  unfolding book_word_valid
  valid_head k h = rw (lt-ltb k s.head h)

  pub valid_entry : (i j : ℕ) → j < s.entry → book_word_valid s l b (entry_at s i + j) ≡ entry_word_valid (head l) (cell l i) (words_of s b i) j
  unfolding book_word_valid
  valid_entry i j h = rw (le-ltb (entry_at s i + j) s.head (omega arith), cell_of_place_lem s i j h, offset_of_place_lem s i j h)

  pub named : ((k : ℕ) → k < book_size s (cells l) → book_word_valid s l b k ≡ true) → WordsValid s l b
  named valid =
      record {
        head_words = record { each = λ k h. sym (valid_head k h) ∙ valid k (omega arith) };
        entry_words = λ i h. record { each = λ j lt. sym (valid_entry i j lt) ∙ valid (entry_at s i + j) (omega (arith, entry_before s i (cells l) h)) };
      }

  -- and back
  pub placed : Shaped s → WordsValid s l b → (k : ℕ) → k < book_size s (cells l) → book_word_valid s l b k ≡ true
  unfolding book_word_valid
  placed g r k lt =
      by_test (λ (t : Bool). t ≡ true) (ltb k s.head) _ _
      (λ e. r.head_words.each k (ltb-true k s.head e))
      (λ e.
      let le = ltb-false k s.head e in
      (r.entry_words (cell_of_place s k) (cell_below s g k le (cells l) lt)).each (offset_of_place s k) (offset_below s g k le))

  -- ---- what an accepted book says of its words, and what has a book accepted

  pub checked_valid : (book_checked s l b).done ≡ true → WordsValid s l b
  unfolding book_checked
  checked_valid h = named (λ k q. (need_all_accepted _ _ _ _ _ h).0 k zero-le q)

  pub admitted_valid : (admitted s l b).done ≡ true → WordsValid s l b
  unfolding admitted
  admitted_valid h = checked_valid (after_accepted _ _ h).1

  pub valid_checked : Shaped s → WordsValid s l b → book_checked s l b ≡ accepted 0
  unfolding book_checked
  valid_checked g r = sym (need_all_is book_word (book_word_valid s l b) 0 (book_size s (cells l)) (accepted 0) zero-le (λ k p q. placed g r k q))

  -- a book that fits is refused by none of 1 to 6
  pub fitted_is : (fitted s l b).done ≡ true → fitted s l b ≡ accepted 0
  unfolding fitted capacity_checked
  fitted_is h =
      let h₁ = after_accepted _ _ h in
      sym (need_is _ book_short (length b) (accepted 0) (need_accepted _ _ _ _ h₁.1).0 ∙ after_is _ (checked l) h₁.0)

  -- the check in two steps
  pub checked_admits : (fitted s l b).done ≡ true → (book_checked s l b).done ≡ true → (admitted s l b).done ≡ true
  unfolding admitted
  checked_admits f c = sym (ap (λ (a : Answer). a.done) (after_is _ (fitted s l b) f)) ∙ c

  pub valid_admits : Shaped s → (fitted s l b).done ≡ true → WordsValid s l b → (admitted s l b).done ≡ true
  valid_admits g f r = checked_admits f (ap (λ (a : Answer). a.done) (valid_checked g r))
