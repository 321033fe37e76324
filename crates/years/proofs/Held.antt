-- The opened book, closed t times, holds the cells' own years. Assumes nothing.
use mathlib.Core.Path.{◌≡◌, refl, ap, ap₂, ◌∙◌}
use mathlib.Core.Bool.{true}
use mathlib.Core.List.{List}
use Prim.Native.Nat.{ℕ, zero, suc, ◌+◌, ◌≤◌, ◌<◌}
use native.Mathlib.Numerals.{add-one}
use native.Mathlib.Omega.{arith}
use Rattle.words.proofs.Blocks.{filled_same}
use Rattle.listing.specs.Layout.{cells, horizon}
use Rattle.year.specs.Year.{after_loss}
use Rattle.year.specs.declared.Entry.{Entry}
use Rattle.book.specs.Current.{current, held_at, new_book, fitted, Holds}
use Rattle.book.specs.Layout.{with_year, held_words}
use Rattle.book.proofs.AcceptedBook.{shaped, fitted_accepted}
use Rattle.book.proofs.New.{new_again, new_holds}
use Rattle.opening.specs.Opening.{open_book}
use Rattle.closing.specs.Closing.{cell_loss, loss, closed_words, book_after}
use Rattle.years.specs.Years.{entries_after, loss_in, after_closings, EveryYears}
use Rattle.years.proofs.After.{after_valid}

module _ (l b : List ℕ) (fits : (fitted l b).done ≡ true) where
  -- the book of year t
  abbrev held : ℕ → List ℕ
  held t = new_book l b t 0 (entries_after l t)

  module _ (t : ℕ) (in_time : t ≤ horizon l) where
    years_hold : Holds l (held t) t 0 (entries_after l t)
    years_hold = new_holds current shaped l b fits t 0 (entries_after l t) in_time (omega arith) (λ i lt. after_valid (fitted_accepted current l b shaped fits).accepted i lt t)

    held_loss : (i : ℕ) → i < cells l → loss l (held t) i ≡ loss_in l i t
    held_loss i lt = ap₂ (λ (u : ℕ) (e : Entry). cell_loss l (u + 1) i e) years_hold.year_is (years_hold.entry_is i lt)

    -- a year later
    held_next : book_after l (held t) ≡ held (suc t)
    unfolding book_after entries_after
    held_next =
        rw (years_hold.year_is, add-one)
        (ap (λ (d : List ℕ). with_year d (suc t))
        (filled_same current.entry (held t) current.head (closed_words l (held t)) (held_at (entries_after l (suc t))) (cells l)
        (λ i lt. ap₂ (λ (e : Entry) (u : ℕ). held_words current.entry (after_loss e (cell_loss l (u + 1) i e))) (years_hold.entry_is i lt) years_hold.year_is))
        ∙ new_again current shaped l b fits t 0 (entries_after l t) (suc t) (entries_after l (suc t)))

  held_closed : (t : ℕ) → t ≤ horizon l → after_closings l (open_book l b) t ≡ held t
  unfolding after_closings entries_after
  held_closed zero le = refl
  held_closed (suc t) le = let before : t ≤ horizon l = omega arith in ap (book_after l) (held_closed t before) ∙ held_next t before

pub every_years : EveryYears
every_years l b fits t le =
    let same = held_closed l b fits t le in
    record { book_is = same; holds = rw same (years_hold l b fits t le); loss_is = λ i lt. rw same (held_loss l b fits t le i lt) }
