-- A start on a listing with its cells in another order: an open, and a conversion of an old book with its cells in that order. Assumes nothing.
use mathlib.Core.Path.{◌≡◌, ap, sym, ◌∙◌}
use mathlib.Core.Bool.{true}
use mathlib.Core.List.{List}
use Prim.Native.Nat.{ℕ}
use native.Mathlib.Omega.{arith}
use lib.ListN.{length}
use Rattle.words.specs.Answers.{accepted}
use Rattle.words.proofs.Answers.{after_both}
use Rattle.fields.specs.declared.Cell.{Cell}
use Rattle.year.specs.Year.{opened}
use Rattle.book.specs.Current.{current}
use Rattle.book.specs.Layout.{issued_in_one_word, year, issued, entry}
use Rattle.book.specs.Check.{fitted}
use Rattle.book.proofs.Valid.{fitted_is}
use Rattle.book.proofs.AcceptedBook.{shaped, one_word_shaped, fitted_accepted}
use Rattle.converting.specs.Converting.{convert_answer}
use Rattle.converting.proofs.Convertible.{new_fitted, convert_is}
use Rattle.opening.specs.Opening.{open_entry, open_book}
use Rattle.ledger.specs.Calls.{Start, Open, Convert, open_effect, convert_effect, start_effect, start_book}
use Rattle.order.specs.Order.{Order, ListingMoved, OldBookMoved, StartMoved, BookMoved, ButForPlace, moved_start}
use Rattle.order.proofs.Listings.{cell_is}
use Rattle.order.proofs.Books.{fitted_alike, capacity_alike, book_alike, new_moved, year_is, issued_is, entry_is}
use Rattle.order.proofs.Calls.{written_moved}

module _ {n : ℕ} {o : Order n} {l l' : List ℕ} (e : ListingMoved o l l') where
  -- ---- an open

  open_moved : (b b' : List ℕ) → (fitted current l b).done ≡ true → (fitted current l' b').done ≡ true → BookMoved o (open_book l b) (open_book l' b')
  open_moved b b' fits fits' =
      new_moved current shaped e b b' fits fits' 0 0 (open_entry l) (open_entry l') (λ m lt. ap (λ (c : Cell). opened c.conversion) (cell_is e m lt))

  -- ---- a conversion

  module _ (old new old' new' : List ℕ) (eb : OldBookMoved o old old') (long : length new' ≡ length new) where
    old_fits : ButForPlace (fitted issued_in_one_word l old) (fitted issued_in_one_word l' old')
    old_fits = fitted_alike issued_in_one_word one_word_shaped e old old' eb.1

    convert_alike : ButForPlace (convert_effect l old new).answer (convert_effect l' old' new').answer
    unfolding convert_effect convert_answer
    convert_alike =
        after_both ButForPlace _ _ _ _ (sym old_fits.done_is) old_fits
        (λ done.
        let capacity = capacity_alike current shaped e new new' long in
        after_both ButForPlace _ _ _ _ (sym capacity.done_is) capacity
        (λ enough.
        book_alike issued_in_one_word one_word_shaped e eb.0 (fitted_accepted issued_in_one_word l old one_word_shaped done)
        (fitted_accepted issued_in_one_word l' old' one_word_shaped (old_fits.done_is ∙ done))))

    converted_moved : (convert_effect l old new).answer.done ≡ true → (convert_effect l' old' new').answer.done ≡ true →
        BookMoved o (convert_effect l old new).book (convert_effect l' old' new').book
    unfolding convert_effect
    converted_moved done done' =
        let fits = new_fitted issued_in_one_word current one_word_shaped shaped (omega arith) l old new done in
        let fits' = new_fitted issued_in_one_word current one_word_shaped shaped (omega arith) l' old' new' done' in
        written_moved _ _ new new' done done'
        (rw (year_is issued_in_one_word one_word_shaped eb.0, issued_is issued_in_one_word one_word_shaped eb.0)
        (new_moved current shaped e new new' fits fits' (year old) (issued issued_in_one_word old) (entry issued_in_one_word old) (entry issued_in_one_word old')
        (entry_is issued_in_one_word one_word_shaped eb.0)))

  -- ---- either

  pub start_alike : (from : Start) (old' b' : List ℕ) → StartMoved o from old' → length b' ≡ length (start_book from) →
      ButForPlace (start_effect l from).answer (start_effect l' (moved_start from old' b')).answer
  unfolding open_effect
  start_alike (Open b) old' b' eb long = fitted_alike current shaped e b b' long
  start_alike (Convert old new) old' b' eb long = convert_alike old new old' b' eb long

  module _ (from : Start) (old' b' : List ℕ) (eb : StartMoved o from old') (long : length b' ≡ length (start_book from)) (done : (start_effect l from).answer.done ≡ true) where
    pub starts : (start_effect l' (moved_start from old' b')).answer.done ≡ true
    starts = (start_alike from old' b' eb long).done_is ∙ done

-- an accepted start answers no number
pub start_is : (l : List ℕ) (from : Start) → (start_effect l from).answer.done ≡ true → (start_effect l from).answer ≡ accepted 0
unfolding open_effect convert_effect
start_is l (Open b) done = fitted_is current l b done
start_is l (Convert old new) done = convert_is issued_in_one_word current one_word_shaped shaped (omega arith) l old new done

pub start_moved : {n : ℕ} {o : Order n} {l l' : List ℕ} → ListingMoved o l l' → (from : Start) (old' b' : List ℕ) → StartMoved o from old' → length b' ≡ length (start_book from) →
    (start_effect l from).answer.done ≡ true → (start_effect l' (moved_start from old' b')).answer.done ≡ true →
    BookMoved o (start_effect l from).book (start_effect l' (moved_start from old' b')).book
unfolding open_effect
start_moved e (Open b) old' b' eb long done done' = written_moved _ _ b b' done done' (open_moved e b b' done done')
start_moved e (Convert old new) old' b' eb long done done' = converted_moved e old new old' b' eb long done done'
