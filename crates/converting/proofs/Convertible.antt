-- What the steps of a conversion are given, from its answers. Assumes nothing.
use mathlib.Core.Path.{◌≡◌, sym, ap, ◌∙◌}
use mathlib.Core.Bool.{true}
use mathlib.Core.List.{List}
use Prim.Native.Nat.{ℕ, ◌*◌, ◌^◌, ◌≤◌, ◌<◌}
use native.Mathlib.Omega.{arith}
use lib.Pow.{pow_mono}
use Rattle.words.specs.Answers.{Answer, accepted as answered}
use Rattle.words.proofs.Answers.{after_accepted, after_is}
use Rattle.listing.specs.Check.{checked}
use Rattle.book.specs.Layout.{Shaped, issued_words, issued}
use Rattle.book.specs.Check.{capacity_checked, fitted, book_checked}
use Rattle.book.specs.declared.Shape.{Shape}
use Rattle.book.proofs.AcceptedBook.{fitted_accepted, checked_accepted_book}
use Rattle.book.proofs.Valid.{checked_valid, valid_checked}
use Rattle.converting.specs.Converting.{convert_answer}
use Rattle.converting.specs.Convertible.{Convertible}

-- the tonnes issued of the old book fit the new one's words
pub tonnes_fit : {from to : Shape} {l old new : List ℕ} → Convertible from to l old new → issued from old < 2 ^ (28 * issued_words to)
tonnes_fit {from} {to} k =
    let no_less = k.no_less in
    omega (arith, k.accepted_book.issued, pow_mono {i = 28 * issued_words from} {j = 28 * issued_words to} (omega arith))

module _ (from to : Shape) (g : Shaped from) (g' : Shaped to) (le : from.head ≤ to.head) (l old new : List ℕ) where
  tests : (convert_answer from to l old new).done ≡ true → ((fitted from l old).done ≡ true) × ((capacity_checked to l new).done ≡ true) × ((book_checked from l old).done ≡ true)
  unfolding convert_answer
  tests h = let h₁ = after_accepted _ _ h in let h₂ = after_accepted _ _ h₁.1 in (h₁.0, h₂.0, h₂.1)

  -- the new book has space, as an open of it would say
  pub new_fitted : (convert_answer from to l old new).done ≡ true → (fitted to l new).done ≡ true
  unfolding fitted
  new_fitted h =
      let t = tests h in
      let listing = (after_accepted _ _ t.0).0 in
      ap (λ (a : Answer). a.done) (sym (after_is _ (checked l) listing)) ∙ t.1

  -- an accepted conversion answers no number
  pub convert_is : (convert_answer from to l old new).done ≡ true → convert_answer from to l old new ≡ answered 0
  unfolding convert_answer
  convert_is h =
      let t = tests h in
      sym (after_is _ (fitted from l old) t.0) ∙ sym (after_is _ (capacity_checked to l new) t.1) ∙ valid_checked from l old g (checked_valid from l old t.2)

  pub convertible : (convert_answer from to l old new).done ≡ true → Convertible from to l old new
  convertible h =
      let t = tests h in
      record {
        accepted_book = checked_accepted_book from l old g (fitted_accepted from l old g t.0) t.2;
        fitted = fitted_accepted to l new g' (new_fitted h);
        no_less = le;
      }

  -- the same by the answer
  pub convertible_by : (x : ℕ) → answered x ≡ convert_answer from to l old new → Convertible from to l old new
  convertible_by x e = convertible (ap (λ (a : Answer). a.done) (sym e))
