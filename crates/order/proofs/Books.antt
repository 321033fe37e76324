-- A book with its cells in another order says the same, is refused alike, and stays in that order after each store that a call makes: all
-- that knows where a book's words are. Assumes nothing.
use mathlib.Core.Path.{◌≡◌, sym, ap, ap₂, ◌∙◌}
use mathlib.Core.Bool.{Bool, true, cond}
use mathlib.Core.List.{List}
use Prim.Native.Nat.{ℕ, zero-le, ◌*◌, ◌≤◌, ◌<◌}
use native.Mathlib.Nat.{zero-add, le_refl}
use native.Mathlib.Omega.{arith}
use lib.ListN.{length, get_or, set}
use lib.Seq.{ext_get_or, get_or-set_other}
use Rattle.words.proofs.Answers.{after_both, after_is}
use Rattle.listing.specs.Layout.{cells}
use Rattle.listing.specs.Check.{checked}
use Rattle.year.specs.declared.Entry.{Entry}
use Rattle.book.specs.Current.{current, with_issued, with_plan}
use Rattle.book.specs.Layout.{Shaped, book_size, line_words, year, issued, words_of, entry, plan_word, held_words}
use Rattle.book.specs.Check.{book_word_valid, capacity_checked, fitted, book_checked}
use Rattle.book.specs.Held.{new_book}
use Rattle.book.specs.AcceptedBook.{WordsValid, Fitted}
use Rattle.book.specs.declared.Shape.{Shape}
use Rattle.book.proofs.Numbers.{stored_same}
use Rattle.book.proofs.Valid.{named, placed}
use Rattle.book.proofs.AcceptedBook.{shaped, fitted_cell, words_sized}
use Rattle.book.proofs.Entries.{entry_word, year_by, issued_by, words_stored, words_put}
use Rattle.book.proofs.New.{new_words, new_head}
use Rattle.closing.specs.Closing.{book_after, lines_after}
use Rattle.closing.proofs.Closed.{line_word, after_words, after_head}
use Rattle.order.specs.Order.{SameYear, Order, Moved, ListingMoved, BookMoved, LinesMoved, ButForPlace}
use Rattle.order.proofs.Answers.{alike_same, AllValid, every_alike}
use Rattle.order.proofs.Moved.{from_within, same_cell, moved_before, moved_back}
use Rattle.order.proofs.OwnWords.{entry_same}
use Rattle.order.proofs.Listings.{cells_is, horizon_is, cell_is, listing_back, checked_alike}

-- ---- what is read from it, for every shape

module _ (s : Shape) (g : Shaped s) {n : ℕ} {o : Order n} where
  module _ {b b' : List ℕ} (e : Moved o s.entry s.head b b') where
    head_positive : 1 ≤ s.head
    head_positive = let head = g.head in omega arith

    pub year_is : year b' ≡ year b
    year_is = year_by s b' b head_positive (moved_before e)

    pub issued_is : issued s b' ≡ issued s b
    issued_is = issued_by s b' b head_positive (moved_before e)

    pub entry_is : (m : ℕ) → m < n → entry s b' m ≡ entry s b (o.from m)
    entry_is m lt = entry_same s g b' b m (o.from m) (e.block m lt)

  -- a book in that order, by the words of each cell
  words_moved : {b b' : List ℕ} → ((k : ℕ) → k < s.head → get_or b' k 0 ≡ get_or b k 0) → ((m : ℕ) → m < n → words_of s b' m ≡ words_of s b (o.from m)) → Moved o s.entry s.head b b'
  words_moved {b} {b'} before words =
      record {
        before = λ k lt. rw (zero-add k) (before k lt);
        block = λ m lt k less. sym (entry_word s b' m k less) ∙ ap (λ (ws : List ℕ). get_or ws k 0) (words m lt) ∙ entry_word s b (o.from m) k less;
      }

  module _ {l l' : List ℕ} (e : ListingMoved o l l') where
    -- a cell, and the one that it came from
    pub here : (m : ℕ) → m < n → m < cells l'
    here m lt = rw (cells_is e) lt

    pub there : (m : ℕ) → m < n → o.from m < cells l
    there m lt = rw e.count (from_within o m lt)

    -- ---- numbers 1 to 6

    module _ (b b' : List ℕ) (long : length b' ≡ length b) where
      pub capacity_alike : ButForPlace (capacity_checked s l b) (capacity_checked s l' b')
      unfolding capacity_checked
      capacity_alike = rw (cells_is e, e.count, long) (alike_same _)

      pub fitted_alike : ButForPlace (fitted s l b) (fitted s l' b')
      unfolding fitted
      fitted_alike = after_both ButForPlace _ _ _ _ (sym (checked_alike e).done_is) (checked_alike e) (λ done. capacity_alike)

      -- of a valid listing a book is refused by number 6 alone, at its length
      pub fitted_same : (checked l).done ≡ true → fitted s l' b' ≡ fitted s l b
      unfolding fitted capacity_checked
      fitted_same valid = sym (after_is _ (checked l') ((checked_alike e).done_is ∙ valid)) ∙ rw (cells_is e, long, ← e.count) (after_is _ (checked l) valid)

    -- ---- two books that fit

    module _ {b b' : List ℕ} (eb : Moved o s.entry s.head b b') (fits : Fitted s l b) (fits' : Fitted s l' b') where
      words_are : (m : ℕ) → m < n → words_of s b' m ≡ words_of s b (o.from m)
      words_are m lt =
          let size = words_sized s b (o.from m) (fitted_cell s l b fits (o.from m) (there m lt)) in
          let size' = words_sized s b' m (fitted_cell s l' b' fits' m (here m lt)) in
          ext_get_or 0 _ _ (size' ∙ sym size)
          (λ k less.
          let in_cell : k < s.entry = omega arith in
          entry_word s b' m k in_cell ∙ eb.block m lt k in_cell ∙ sym (entry_word s b (o.from m) k in_cell))

      -- number 8
      valid_moved : WordsValid s l b → WordsValid s l' b'
      valid_moved r =
          record {
            head_words = record { each = λ k lt. rw (horizon_is e, moved_before eb k lt) (r.head_words.each k lt) };
            entry_words = λ m lt.
                let less : m < n = rw (cells_is e) at lt in
                rw (cell_is e m less, words_are m less, e.head_is) (r.entry_words (o.from m) (there m less));
          }

      all_moved : AllValid (book_word_valid s l b) 0 (book_size s n) → AllValid (book_word_valid s l' b') 0 (book_size s n)
      all_moved all k lo hi = placed s l' b' g (valid_moved (named s l b (λ j less. all j zero-le (rw e.count at less)))) k (rw (cells_is e) hi)

    -- ---- a whole new book, over whatever was there

    module _ (b b' : List ℕ) (fits : (fitted s l b).done ≡ true) (fits' : (fitted s l' b').done ≡ true) where
      pub new_moved : (t tonnes : ℕ) (f f' : ℕ → Entry) → ((m : ℕ) → m < n → f' m ≡ f (o.from m)) → Moved o s.entry s.head (new_book s l b t tonnes f) (new_book s l' b' t tonnes f')
      new_moved t tonnes f f' same =
          words_moved
          (new_head s g l' b' fits' l b fits t tonnes f' f)
          (λ m lt.
          new_words s g l' b' fits' t tonnes f' m (here m lt)
          ∙ ap (held_words s.entry) (same m lt)
          ∙ sym (new_words s g l b fits t tonnes f (o.from m) (there m lt)))

pub book_alike : (s : Shape) → Shaped s → {n : ℕ} {o : Order n} {l l' b b' : List ℕ} → ListingMoved o l l' → Moved o s.entry s.head b b' → Fitted s l b → Fitted s l' b' →
    ButForPlace (book_checked s l b) (book_checked s l' b')
unfolding book_checked
book_alike s g e eb fits fits' =
    rw (cells_is e, e.count)
    (every_alike _ _ _ _ _ _ _ (all_moved s g e eb fits fits') (all_moved s g (listing_back e) (moved_back eb) fits' fits) (alike_same _))

-- ---- each store of the calls

module _ {n : ℕ} {o : Order n} {l l' b b' : List ℕ} (e : ListingMoved o l l') (eb : BookMoved o b b') (fits : Fitted current l b) (fits' : Fitted current l' b') where
  front : (current.head ≤ length b) × (current.head ≤ length b')
  front = let capacity = fits.capacity in let capacity' = fits'.capacity in (omega arith, omega arith)

  same_words : (m : ℕ) → m < n → words_of current b' m ≡ words_of current b (o.from m)
  same_words = words_are current shaped e eb fits fits'

  -- of a cell's mark and plan year
  pub plan_moved : (k : ℕ) (new : Entry) → BookMoved o (with_plan b k new) (with_plan b' (o.to k) new)
  plan_moved k new =
      let w = plan_word new.withdrawn new.plan in
      words_moved current shaped
      (λ j lt. get_or-set_other b' _ _ w 0 (λ h. omega arith) ∙ moved_before eb j lt ∙ sym (get_or-set_other b _ _ w 0 (λ h. omega arith)))
      (λ m lt.
      words_put current shaped b' (o.to k) w m
      ∙ ap₂ (λ (t : Bool) (ws : List ℕ). cond t (set ws 0 w) ws) (same_cell o k m) (same_words m lt)
      ∙ sym (words_put current shaped b k w (o.from m)))

  -- of the tonnes issued
  pub issued_moved : (tonnes : ℕ) → BookMoved o (with_issued b tonnes) (with_issued b' tonnes)
  issued_moved tonnes =
      words_moved current shaped
      (λ k lt. stored_same _ _ _ _ k b' b front.1 front.0 (λ beside. moved_before eb k lt))
      (λ m lt.
      words_stored current b' _ _ _ _ m (le_refl _)
      ∙ same_words m lt
      ∙ sym (words_stored current b _ _ _ _ (o.from m) (le_refl _)))

  -- of a year, where each cell's is the same
  pub closed_moved : ((m : ℕ) → m < n → SameYear l' b' m l b (o.from m)) → BookMoved o (book_after l b) (book_after l' b')
  closed_moved own =
      words_moved current shaped
      (after_head l' b' fits'.capacity l b fits.capacity (moved_before eb))
      (λ m lt.
      after_words l' b' fits'.capacity m (here current shaped e m lt)
      ∙ (own m lt).words_are
      ∙ sym (after_words l b fits.capacity (o.from m) (there current shaped e m lt)))

-- of a year's lines, over whatever was in their buffers
pub lines_moved : {n : ℕ} {o : Order n} {l l' : List ℕ} (e : ListingMoved o l l') (b b' : List ℕ) → ((m : ℕ) → m < n → SameYear l' b' m l b (o.from m)) → (x y : List ℕ) →
    LinesMoved o (lines_after l b x) (lines_after l' b' y)
lines_moved {o = o} {l = l} {l' = l'} e b b' own x y =
    record {
      before = λ k lt. absurd (omega arith);
      block = λ m lt k less.
          rw (zero-add (line_words * m), zero-add (line_words * o.from m))
          (line_word l' b' y m (here current shaped e m lt) k less
          ∙ ap (λ (ws : List ℕ). get_or ws k 0) (own m lt).lines_are
          ∙ sym (line_word l b x (o.from m) (there current shaped e m lt) k less));
    }
