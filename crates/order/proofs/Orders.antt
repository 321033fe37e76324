-- Two cells that change places are an order; for every valid listing, and every start that is accepted, there is one with its cells in another
-- order; and lines in another order come to the same. Assumes nothing.
use mathlib.Core.Path.{◌≡◌, refl, ap, ◌∙◌}
use mathlib.Core.List.{List, [], ◌∷◌}
use Prim.Native.Nat.{ℕ, zero, suc, ◌+◌, ◌*◌, ◌≤◌, ◌<◌}
use native.Mathlib.Nat.{zero-add}
use native.Mathlib.Omega.{arith}
use lib.Dec.{eqb}
use lib.ListN.{length, get_or}
use borrow.Author.Tests.{eqb-true, eqb-false}
use Rattle.words.specs.Blocks.{filled}
use Rattle.words.proofs.Signed.{by_test}
use Rattle.words.proofs.Blocks.{length_filled, filled_before, filled_word, filled_behind}
use Rattle.listing.specs.Layout.{cell_words, offsets}
use Rattle.listing.proofs.Accepted.{accepted, head_before, same_head}
use Rattle.book.specs.Layout.{issued_in_one_word, line_words, payload, line_at}
use Rattle.book.proofs.AcceptedBook.{one_word_shaped, fitted_accepted}
use Rattle.words.proofs.Answers.{after_accepted}
use Rattle.converting.specs.Converting.{convert_answer}
use Rattle.ledger.specs.Calls.{Open, Convert, convert_effect}
use Rattle.order.specs.Order.{Order, Moved, SameTotals, EveryListing, EveryStart, origin, Exchanges}
use Rattle.order.proofs.Moved.{same_sum}

pub same_totals : SameTotals
same_totals n o x y e line lt = same_sum o (line_at line x) (line_at line y) (λ m less. ap payload (rw (zero-add (line_words * m), zero-add (line_words * o.from m)) at (e.block m less line lt)))

-- ---- a listing, and an old book

-- n words of a list, from place k on
words_at : List ℕ → ℕ → ℕ → List ℕ
words_at l k zero = []
words_at l k (suc n) = get_or l k 0 ∷ words_at l (k + 1) n

words_length : (l : List ℕ) (k n : ℕ) → length (words_at l k n) ≡ n
unfolding words_at
words_length l k zero = refl
words_length l k (suc n) = ap suc (words_length l (k + 1) n)

word_at : (l : List ℕ) (k n j : ℕ) → j < n → get_or (words_at l k n) j 0 ≡ get_or l (k + j) 0
unfolding words_at
word_at l k zero j lt = absurd (omega arith)
word_at l k (suc n) zero lt = let z : k ≡ k + zero = omega arith in rw (← z)
word_at l k (suc n) (suc j) lt = let z : k + 1 + j ≡ k + suc j = omega arith in word_at l (k + 1) n j (omega arith) ∙ rw z

-- x with its n blocks in that order
module _ {n : ℕ} (o : Order n) (size at : ℕ) (x : List ℕ) (capacity : at + size * n ≤ length x) where
  block : ℕ → List ℕ
  block m = words_at x (at + size * o.from m) size

  sized : (m : ℕ) → length (block m) ≡ size
  unfolding block
  sized m = words_length x (at + size * o.from m) size

  in_order : List ℕ
  in_order = filled size x at block n

  same_length : length in_order ≡ length x
  unfolding in_order
  same_length = length_filled size x at block sized (omega arith) n capacity

  same_before : (k : ℕ) → k < at → get_or in_order k 0 ≡ get_or x k 0
  unfolding in_order
  same_before = filled_before size x at block sized (omega arith) n

  same_behind : (k : ℕ) → at + size * n ≤ k → get_or in_order k 0 ≡ get_or x k 0
  unfolding in_order
  same_behind = filled_behind size x at block sized (omega arith) n

  in_order_moved : Moved o size at x in_order
  unfolding in_order block
  in_order_moved =
      record {
        before = λ k lt. rw zero-add (same_before k lt);
        block = λ m lt k less. filled_word size x at block sized (omega arith) n m k lt less ∙ word_at x (at + size * o.from m) size k less;
      }

pub every_listing : EveryListing
every_listing n o l count valid =
    let long = (accepted l valid).long in
    let parts = (accepted l valid).parts in
    let at : ℕ = (offsets l).cells in
    let capacity : at + cell_words * n ≤ length l = omega arith in
    record {
      listing = in_order o cell_words at l capacity;
      is = record {
        count = count;
        head_is = same_head _ _ (λ k le. same_before o cell_words at l capacity k (omega (arith, head_before l (accepted l valid))));
        length_is = same_length o cell_words at l capacity;
        cells_moved = in_order_moved o cell_words at l capacity;
        terms_same = λ k le. same_behind o cell_words at l capacity k (omega arith);
      };
    }

pub every_start : EveryStart
unfolding convert_effect convert_answer
every_start n o l (Open b) count done = record { old_book = []; is = tt }
every_start n o l (Convert old new) count done =
    let s = issued_in_one_word in
    let enough : s.head + s.entry * n ≤ length old = rw count at (fitted_accepted s l old one_word_shaped (after_accepted _ _ done).0).capacity in
    record { old_book = in_order o s.entry s.head old enough; is = (in_order_moved o s.entry s.head old enough, same_length o s.entry s.head old enough) }

-- ---- two cells

module _ (i j : ℕ) where
  -- the three cases
  origin_is : (P : ℕ → Type 0) (m : ℕ) → (m ≡ i → P j) → (m ≡ j → P i) → ((m ≡ i → ⊥) → (m ≡ j → ⊥) → P m) → P (origin i j m)
  unfolding origin
  origin_is P m first second other =
      by_test P (eqb m i) j _ (λ e. first (eqb-true m i e))
      (λ e. by_test P (eqb m j) i m (λ f. second (eqb-true m j f)) (λ f. other (eqb-false m i e) (eqb-false m j f)))

  -- beyond n cells it is itself
  origin_beyond : (n m : ℕ) → i < n → j < n → n ≤ m → origin i j m ≡ m
  origin_beyond n m p q le = origin_is (λ k. k ≡ m) m (λ e. absurd (omega arith)) (λ e. absurd (omega arith)) (λ e f. refl)

  -- two exchanges are none
  origin_twice : (m : ℕ) → origin i j (origin i j m) ≡ m
  origin_twice m =
      origin_is (λ k. origin i j k ≡ m) m
      (λ e. origin_is (λ k. k ≡ m) j (λ f. omega arith) (λ f. omega arith) (λ f g. absurd (g refl)))
      (λ e. origin_is (λ k. k ≡ m) i (λ f. omega arith) (λ f. omega arith) (λ f g. absurd (f refl)))
      (λ e f. origin_is (λ k. k ≡ m) m (λ g. absurd (e g)) (λ g. absurd (f g)) (λ g h. refl))

pub exchanges : Exchanges
exchanges i j n p q =
    record {
      order = record { from = origin i j; to = origin i j; there = origin_twice i j; back = origin_twice i j; beyond = λ m le. origin_beyond i j n m p q le };
      from_is = λ m. refl;
    }
