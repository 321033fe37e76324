-- The terms, one word at a time, and how large their sums can be. Assumes nothing.
use mathlib.Core.Path.{◌≡◌, refl, sym, ap, ap₂, ◌∙◌}
use mathlib.Core.Bool.{◌&&◌}
use mathlib.Core.List.{List, [], ◌∷◌}
use Prim.Native.Nat.{ℕ, zero, suc, ◌+◌, ◌-◌, ◌*◌, ◌^◌, ◌≤◌, ◌<◌}
use native.Mathlib.Numerals.{add-one}
use native.Mathlib.Omega.{arith}
use lib.Dec.{leb}
use lib.ListN.{length, get_or, take, drop, length-take, length-drop}
use lib.Seq.{get_or-drop}
use lib.IntN.{ℤ, pos, nat_abs, ◌+ℤ◌, +ℤ_assoc, +ℤ_idl, +ℤ_idr}
use mir.Syntax.{w64}
use mir.Val.{SFits, to_z, of_z}
use borrow.Author.Tests.{le-leb, lt-leb}
use Rattle.words.specs.Bits.{bits, at_least_0}
use Rattle.words.proofs.Fields.{field_below}
use Rattle.words.proofs.Signed.{by_test, size_add, at_least_0_add, add_fits, add_reads, Halved, signed_size, signed_most}
use Rattle.fields.specs.Fields.{year_of, term_of, tonnes_of, yearly_term_of}
use Rattle.fields.specs.Words.{most_term, most_term_tonnes, most_term_tonnes_below}
use Rattle.fields.specs.declared.YearlyTerm.{YearlyTerm}
use Rattle.fields.proofs.Valid.{term_most}
use Rattle.listing.specs.Layout.{most_term_words, offsets}
use Rattle.terms.specs.Terms.{counted, total, terms_to_date, most_term_sum, most_term_sum_below}
use Rattle.terms.specs.Split.{up_to, Split}
use Rattle.listing.specs.Accepted.{Accepted}
use Rattle.listing.proofs.Accepted.{terms_at_most, years_rise}

-- ---- one word

halved : (w : ℕ) → Halved 17 (bits w 16 0) most_term_tonnes_below
halved w = record { width_fits = omega arith; half = refl; below = field_below w 0 17 }

pub tonnes_size : (w : ℕ) → nat_abs (tonnes_of w) ≤ most_term_tonnes_below
tonnes_size w = signed_size (halved w)

-- a word adds its tonnes or nothing
counted_is : (P : ℤ → Type 0) (year last w : ℕ) → P (tonnes_of w) → P (pos 0) → P (counted year last w)
unfolding counted
counted_is P year last w p q = by_test P (leb (year_of w) year && leb (term_of w) last) (tonnes_of w) (pos 0) (λ e. p) (λ e. q)

counted_size : (year last w : ℕ) → nat_abs (counted year last w) ≤ most_term_tonnes_below
counted_size year last w = counted_is (λ z. nat_abs z ≤ most_term_tonnes_below) year last w (tonnes_size w) (omega arith)

counted_most : (year last w : ℕ) → at_least_0 (counted year last w) ≤ most_term_tonnes
unfolding at_least_0
counted_most year last w = counted_is (λ z. at_least_0 z ≤ most_term_tonnes) year last w (let h = signed_most (halved w) in omega arith) (omega arith)

pub up_to_size : (last w : ℕ) → nat_abs (up_to last w) ≤ most_term_tonnes_below
unfolding up_to
up_to_size last w = by_test (λ z. nat_abs z ≤ most_term_tonnes_below) (leb (term_of w) last) (tonnes_of w) (pos 0) (λ e. tonnes_size w) (λ e. omega arith)

-- a word of a year to date counts by its term alone, and one of a later year does not
counted_to_date : (year last w : ℕ) → year_of w ≤ year → counted year last w ≡ up_to last w
unfolding counted up_to
counted_to_date year last w h = rw (le-leb (year_of w) year h)

counted_all : (year last w : ℕ) → year_of w ≤ year → term_of w ≤ last → counted year last w ≡ tonnes_of w
unfolding counted
counted_all year last w h k = rw (le-leb (year_of w) year h, le-leb (term_of w) last k)

counted_later : (year last w : ℕ) → year < year_of w → counted year last w ≡ pos 0
unfolding counted
counted_later year last w h = rw (lt-leb (year_of w) year h)

-- ---- their sum, by a size that a sum does not exceed: nat_abs for a bound on both sides, at_least_0 for one above

total_bound : (size : ℤ → ℕ) → size (pos 0) ≡ 0 → ((x y : ℤ) → size (x +ℤ y) ≤ size x + size y) →
    (f : ℕ → ℤ) (m : ℕ) → ((w : ℕ) → size (f w) ≤ m) → (ws : List ℕ) → size (total f ws) ≤ m * length ws
unfolding total
total_bound size none add f m h [] = omega arith
total_bound size none add f m h (w ∷ ws) = omega (arith, add (f w) (total f ws), h w, total_bound size none add f m h ws)

module _ (f : ℕ → ℤ) (size : (w : ℕ) → nat_abs (f w) ≤ most_term_tonnes_below) where
  total_size : (ws : List ℕ) → length ws ≤ most_term_words → nat_abs (total f ws) ≤ most_term_sum_below
  total_size ws h = omega (arith, total_bound nat_abs refl size_add f most_term_tonnes_below size ws)

module _ (l : List ℕ) (year last : ℕ) (a : Accepted l) where
  pub terms_size : nat_abs (terms_to_date l year last) ≤ most_term_sum_below
  terms_size = total_size (counted year last) (counted_size year last) (drop (offsets l).terms l) (omega (arith, length-drop (offsets l).terms l, terms_at_most l a))

  pub terms_most : at_least_0 (terms_to_date l year last) ≤ most_term_sum
  unfolding at_least_0
  terms_most =
      omega
      (arith, total_bound at_least_0 refl at_least_0_add (counted year last) most_term_tonnes (counted_most year last) (drop (offsets l).terms l), length-drop (offsets l).terms l, terms_at_most l a)

-- ---- the terms to date come first

-- where the first n words count by g, and those after them do not count
total_first : (f g : ℕ → ℤ) (n : ℕ) (ws : List ℕ) → ((j : ℕ) → j < n → j < length ws → g (get_or ws j 0) ≡ f (get_or ws j 0)) →
    ((j : ℕ) → n ≤ j → j < length ws → pos 0 ≡ f (get_or ws j 0)) → total g (take n ws) ≡ total f ws
unfolding total
total_first f g zero [] p q = refl
total_first f g (suc n) [] p q = refl
total_first f g zero (w ∷ ws) p q = ap₂ ◌+ℤ◌ (q 0 (omega arith) (omega arith)) (total_first f g zero ws (λ j h k. absurd (omega arith)) (λ j h k. q (suc j) (omega arith) (omega arith)))
total_first f g (suc n) (w ∷ ws) p q =
    ap₂ ◌+ℤ◌ (p 0 (omega arith) (omega arith)) (total_first f g n ws (λ j h k. p (suc j) (omega arith) (omega arith)) (λ j h k. q (suc j) (omega arith) (omega arith)))

module _ (l : List ℕ) (year : ℕ) where
  abbrev start : ℕ
  start = (offsets l).terms

  pub split_none : start ≤ length l → Split l year start start (length l)
  split_none h = record { ordered = (omega arith, h, omega arith); before = λ k p q. absurd (omega arith); after = λ k p q. absurd (omega arith) }

  module _ {low high : ℕ} (s : Split l year start low high) where
    pub split_met : high ≤ low → Split l year start low low
    split_met h =
        let o = s.ordered in
        let e : high ≡ low = omega arith in
        rw e at s

    -- by the year of a word m between them; t is what `YearlyTerm::from` gave of it
    module _ (a : Accepted l) (m : ℕ) (p : low ≤ m) (q : m < high) (t : YearlyTerm) (r : t ≡ yearly_term_of (get_or l m 0)) where
      pub split_above : t.year ≤ year → Split l year start (m + 1) high
      unfolding yearly_term_of
      split_above h =
          let o = s.ordered in
          let here = rw r at h in
          let first : (k : ℕ) → start ≤ k → k < m + 1 → year_of (get_or l k 0) ≤ year = λ k u v.
          omega (arith, here, years_rise l a k m (omega arith) (omega arith) (omega arith)) in
          record { ordered = (omega arith, omega arith, omega arith); before = first; after = s.after }

      pub split_below : year < t.year → Split l year start low m
      unfolding yearly_term_of
      split_below h =
          let o = s.ordered in
          let here = rw r at h in
          let last : (k : ℕ) → m ≤ k → k < length l → year < year_of (get_or l k 0) = λ k u v.
          omega (arith, here, years_rise l a m k (omega arith) u v) in
          record { ordered = (omega arith, omega arith, omega arith); before = s.before; after = last }

  module _ (f g : ℕ → ℤ) {end : ℕ} (s : Split l year start end end) where
    first_terms : ((k : ℕ) → start ≤ k → k < length l → year_of (get_or l k 0) ≤ year → g (get_or l k 0) ≡ f (get_or l k 0)) → ((w : ℕ) → year < year_of w → pos 0 ≡ f w) →
        total g (take (end - start) (drop start l)) ≡ total f (drop start l)
    first_terms p q =
        let o = s.ordered in
        let n = length-drop start l in
        total_first f g (end - start) (drop start l)
        (λ j h k.
        ap g (get_or-drop start l j 0)
        ∙ p (start + j) (omega arith) (omega arith) (s.before (start + j) (omega arith) (omega arith))
        ∙ ap f (sym (get_or-drop start l j 0)))
        (λ j h k. q (get_or l (start + j) 0) (s.after (start + j) (omega arith) (omega arith)) ∙ ap f (sym (get_or-drop start l j 0)))

  module _ (a : Accepted l) {end : ℕ} (s : Split l year start end end) where
    pub first_all : total tonnes_of (take (end - start) (drop start l)) ≡ terms_to_date l year most_term
    first_all =
        first_terms (counted year most_term) tonnes_of s
        (λ k p q h. sym (counted_all year most_term (get_or l k 0) h (term_most (a.term_valid k (omega arith) q))))
        (λ w h. sym (counted_later year most_term w h))

    pub first_up_to : (last : ℕ) → total (up_to last) (take (end - start) (drop start l)) ≡ terms_to_date l year last
    first_up_to last =
        first_terms (counted year last) (up_to last) s
        (λ k p q h. sym (counted_to_date year last (get_or l k 0) h))
        (λ w h. sym (counted_later year last w h))

    pub first_most : length (take (end - start) (drop start l)) ≤ most_term_words
    first_most = omega (arith, length-take (end - start) (drop start l), length-drop start l, terms_at_most l a)

-- ---- the sum of the first words, and of one more
total_next : (f : ℕ → ℤ) (at : ℕ) (ws : List ℕ) → at < length ws → total f (take (suc at) ws) ≡ total f (take at ws) +ℤ f (get_or ws at 0)
unfolding total
total_next f at [] h = absurd (omega arith)
total_next f zero (w ∷ ws) h = +ℤ_idr (f w) ∙ sym (+ℤ_idl (f w))
total_next f (suc n) (w ∷ ws) h = ap (λ z. f w +ℤ z) (total_next f n ws (omega arith)) ∙ sym (+ℤ_assoc (f w) (total f (take n ws)) (f (get_or ws n 0)))

module _ (f : ℕ → ℤ) (size : (w : ℕ) → nat_abs (f w) ≤ most_term_tonnes_below) (l : List ℕ) (most : length l ≤ most_term_words) (at : ℕ) where
  fits : nat_abs (total f (take at l)) + nat_abs (f (get_or l at 0)) < 2 ^ 63
  fits = omega (arith, total_size f size (take at l) (omega (arith, length-take at l)), size (get_or l at 0))

  -- an iteration that adds y, what a call gave for word `at`, to x
  module _ {x y : ℤ} (p : x ≡ total f (take at l)) (q : y ≡ f (get_or l at 0)) where
    pub sum_fits : SFits w64 (x +ℤ y)
    sum_fits = add_fits w64 (total f (take at l)) p (f (get_or l at 0)) q fits

    pub sum_next : at < length l → to_z w64 (of_z w64 (x +ℤ y)) ≡ total f (take (at + 1) l)
    sum_next h = rw add-one (add_reads w64 (total f (take at l)) p (f (get_or l at 0)) q fits ∙ sym (total_next f at l h))
