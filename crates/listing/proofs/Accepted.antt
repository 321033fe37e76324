-- A listing that was accepted: what the check's answer says of its words. Assumes nothing.
use mathlib.Core.Path.{◌≡◌, refl, ap, ◌∙◌}
use mathlib.Core.Bool.{true}
use mathlib.Core.List.{List}
use Prim.Native.Nat.{ℕ, zero, suc, ◌+◌, ◌-◌, ◌*◌, ◌≤◌, ◌<◌}
use native.Mathlib.Nat.{mul-le-mul, lt_of_not-le}
use native.Mathlib.Omega.{arith}
use lib.ListN.{length, get_or}
use borrow.Author.Tests.{leb-true, eq-eqb, ne_eqb}
use Rattle.words.specs.Answers.{Answer}
use Rattle.words.proofs.Steps.{row_within}
use Rattle.words.proofs.Answers.{need_accepted, need_all_accepted}
use Rattle.words.proofs.Signed.{by_test}
use Rattle.fields.specs.Words.{most_strata, most_horizon, year_terms, is_size_word, is_depth_word, is_area_word, is_listed_term, is_term_word, is_above}
use Rattle.fields.specs.Valid.{SizesWithin, TermValid}
use Rattle.fields.specs.declared.Head.{Head}
use Rattle.fields.specs.Fields.{year_of}
use Rattle.fields.proofs.Valid.{sizes_within, head_valid, row_valid, cell_valid, term_valid, term_word_by, above_year, rank, rank_below, rank_above}
use Rattle.listing.specs.Layout.{least_words, site_at, cell_words, tables_at, latest_tables_at, most_term_words, head, cells, strata, horizon, offsets_of, offsets, row_at, cell_at}
use Rattle.listing.specs.Check.{is_cell_word, words_checked, later_checked, checked}
use Rattle.listing.specs.Accepted.{Contiguous, Accepted}
use Rattle.listing.specs.declared.Offsets.{Offsets}
use Rattle.listing.specs.declared.Listing.{Listing}

-- ---- the head

-- the words of the tables
pub rows_most : {h : Head} → SizesWithin h → h.strata * h.horizon ≤ most_strata * most_horizon
rows_most r = mul-le-mul {n₂ = most_strata} {m₂ = most_horizon} r.strata r.horizon

-- the tables begin at word 2 or 3
pub tables_within : (h : Head) → (least_words ≤ tables_at h) × (tables_at h ≤ latest_tables_at)
unfolding tables_at
tables_within h = by_test (λ k. (least_words ≤ k) × (k ≤ latest_tables_at)) h.has_site_word _ _ (λ e. (omega arith, omega arith)) (λ e. (omega arith, omega arith))

contiguous : {h : Head} → SizesWithin h → Contiguous h (offsets_of h)
unfolding offsets_of
contiguous {h} r = record { tables = refl; cells = refl; terms = refl; terms_at_most = omega (arith, rows_most r, tables_within h) }

-- where cells and terms begin, for any figures
pub parts_follow : (h : Head) → (least_words ≤ (offsets_of h).cells) × ((offsets_of h).terms ≡ (offsets_of h).cells + cell_words * h.cells)
unfolding offsets_of
parts_follow h = (omega (arith, tables_within h), refl)

-- of what `head` and `offsets_of` answered, h and s
pub sizes_by : (l : List ℕ) (h : Head) → h ≡ head l → is_size_word (get_or l 0 0) ≡ true → SizesWithin h
sizes_by l h e p = rw e (sizes_within (get_or l 0 0) (get_or l 1 0) (get_or l site_at 0) p)

pub contiguous_by : (h : Head) (s : Offsets) → s ≡ offsets_of h → SizesWithin h → Contiguous h s
contiguous_by h s e r = rw e (contiguous r)

pub later_by : (l : List ℕ) (h : Head) (s : Offsets) (v : Answer) → h ≡ head l → s ≡ offsets_of h → v ≡ later_checked l h s → v ≡ later_checked l (head l) (offsets l)
later_by l h s v e f g = cc

-- ---- the cells

pub offset_depth : (strata horizon offset w : ℕ) → offset ≡ 0 → is_depth_word strata horizon w ≡ is_cell_word strata horizon offset w
unfolding is_cell_word
offset_depth strata horizon offset w e = rw (eq-eqb offset 0 e)

pub not_depth : (strata horizon offset w : ℕ) → (offset ≡ 0 → ⊥) → is_area_word w ≡ is_cell_word strata horizon offset w
unfolding is_cell_word
not_depth strata horizon offset w n = rw (ne_eqb offset 0 n)

pub offset_area : (strata horizon offset w : ℕ) → offset ≡ 1 → is_area_word w ≡ is_cell_word strata horizon offset w
offset_area strata horizon offset w e = not_depth strata horizon offset w (λ z. omega arith)

-- ---- the terms

module _ (l : List ℕ) (horizon start : ℕ)
    (valid : (k : ℕ) → start ≤ k → k < length l → TermValid horizon (get_or l k 0))
    (rising : (k : ℕ) → start + 1 ≤ k → k < length l → is_above (get_or l (k - 1) 0) (get_or l k 0) ≡ true) where
  -- a term's number is at least its place among the terms, since the numbers rise
  rank_least : (j : ℕ) → start + j < length l → j ≤ rank (get_or l (start + j) 0)
  rank_least zero h = omega arith
  rank_least (suc j) h =
      let e : start + suc j - 1 ≡ start + j = omega arith in
      let before : TermValid horizon (get_or l (start + j) 0) = valid (start + j) (omega arith) (omega arith) in
      let here = valid (start + suc j) (omega arith) h in
      let up = rw e at (rising (start + suc j) (omega arith) h) in
      let least = rank_least j (omega arith) in
      let more = rank_above horizon (get_or l (start + j) 0) (get_or l (start + suc j) 0) before here up in
      omega arith

  -- and a number is below the terms of all years
  count_at_most : length l ≤ start + year_terms * horizon
  count_at_most =
      let most : length l < suc (start + year_terms * horizon) =
      lt_of_not-le
      (λ (h : suc (start + year_terms * horizon) ≤ length l).
      let least = rank_least (year_terms * horizon) h in
      let below = rank_below horizon (get_or l (start + year_terms * horizon) 0) (valid (start + year_terms * horizon) (omega arith) h) in
      omega arith) in
      omega arith

-- terms rise by year
module _ (l : List ℕ) (start : ℕ) (rising : (k : ℕ) → start + 1 ≤ k → k < length l → is_above (get_or l (k - 1) 0) (get_or l k 0) ≡ true) where
  rise_by : (j d : ℕ) → start ≤ j → j + d < length l → year_of (get_or l j 0) ≤ year_of (get_or l (j + d) 0)
  rise_by j zero low high =
      let e : j + 0 ≡ j = omega arith in
      omega (arith, ap (λ (k : ℕ). year_of (get_or l k 0)) e)
  rise_by j (suc d) low high =
      let e : j + suc d - 1 ≡ j + d = omega arith in
      let up = rw e at (rising (j + suc d) (omega arith) high) in
      omega (arith, above_year (get_or l (j + d) 0) (get_or l (j + suc d) 0) up, rise_by j d low (omega arith))

  pub rise : (j k : ℕ) → start ≤ j → j ≤ k → k < length l → year_of (get_or l j 0) ≤ year_of (get_or l k 0)
  rise j k low h high =
      let e : j + (k - j) ≡ k = omega arith in
      rw e at (rise_by j (k - j) low (omega arith))

  -- so where each is valid but for its year, and the first and the last are valid, all are
  pub valid_between : (years : ℕ) → ((k : ℕ) → start ≤ k → k < length l → is_listed_term (get_or l k 0) ≡ true) →
      is_term_word years (get_or l start 0) ≡ true → is_term_word years (get_or l (length l - 1) 0) ≡ true →
      (k : ℕ) → start ≤ k → k < length l → is_term_word years (get_or l k 0) ≡ true
  valid_between years listed first last k low high =
      let f = (term_valid years _ first).year in
      let z = (term_valid years _ last).year in
      term_word_by years (get_or l k 0) (listed k low high) (omega (arith, f, rise start k (omega arith) low high))
      (omega (arith, z, rise k (length l - 1) low (omega arith) (omega arith)))

-- ---- all of it

pub accepted : (l : List ℕ) → (checked l).done ≡ true → Accepted l
unfolding checked later_checked words_checked
accepted l h =
    let h₁ = need_accepted _ _ _ _ h in
    let h₂ = need_accepted _ _ _ _ h₁.1 in
    let h₃ = need_accepted _ _ _ _ h₂.1 in
    let h₄ = need_accepted _ _ _ _ h₃.1 in
    let h_site = need_accepted _ _ _ _ h₄.1 in
    let valid = head_valid (get_or l 0 0) (get_or l 1 0) (get_or l site_at 0) h₂.0 h₃.0 h_site.0 in
    let parts = contiguous (sizes_within (get_or l 0 0) (get_or l 1 0) (get_or l site_at 0) h₂.0) in
    let long = leb-true _ _ h₄.0 in
    let h₅ = need_all_accepted _ _ _ _ _ h_site.1 in
    let h₆ = need_all_accepted _ _ _ _ _ h₅.1 in
    let h₇ = need_all_accepted _ _ _ _ _ h₆.1 in
    let h₈ = need_all_accepted _ _ _ _ _ h₇.1 in
    let term : (k : ℕ) → (offsets l).terms ≤ k → k < length l → TermValid (horizon l) (get_or l k 0) = λ k p q. term_valid (horizon l) (get_or l k 0) (h₇.0 k p q) in
    record {
      head_valid = valid;
      parts = parts;
      long = long;
      row_valid = λ stratum age. row_valid (get_or l (row_at l stratum age) 0);
      cell_valid =
          λ i lt. cell_valid (strata l) (horizon l) _ _ (offset_depth _ _ _ _ (omega arith) ∙ h₆.0 (cell_at l i) (omega arith) (omega arith))
          (offset_area _ _ _ _ (omega arith) ∙ h₆.0 (cell_at l i + 1) (omega arith) (omega arith));
      term_valid = term;
      rising = h₈.0;
      words_at_most = count_at_most l (horizon l) (offsets l).terms term h₈.0;
    }

-- the words of the head stand before the cells
pub head_before : (l : List ℕ) → Accepted l → site_at < (offsets l).cells
head_before l a =
    let h = a.head_valid in
    let some : 1 ≤ strata l * horizon l = mul-le-mul {n₁ = 1} {m₁ = 1} h.strata.0 h.horizon.0 in
    let parts = a.parts in
    omega (arith, tables_within (head l))

-- and it is read off them alone
pub same_head : (l l' : List ℕ) → ((k : ℕ) → k ≤ site_at → get_or l' k 0 ≡ get_or l k 0) → head l' ≡ head l
same_head l l' same = rw (same 0 (omega arith), same 1 (omega arith), same site_at (omega arith))

-- of all years
pub terms_at_most : (l : List ℕ) → Accepted l → length l ≤ (offsets l).terms + most_term_words
terms_at_most l a =
    let most = a.words_at_most in
    let horizon = a.head_valid.horizon in
    omega arith

pub years_rise : (l : List ℕ) → Accepted l → (j k : ℕ) → (offsets l).terms ≤ j → j ≤ k → k < length l → year_of (get_or l j 0) ≤ year_of (get_or l k 0)
years_rise l a = rise l (offsets l).terms a.rising

-- ---- of an accepted listing, with h and s what `head` and `offsets_of` answered

pub accepted_sizes : (l : List ℕ) (h : Head) → h ≡ head l → Accepted l → SizesWithin h
accepted_sizes l h e a =
    let r = a.head_valid in
    rw e (record { cells = r.cells.1; strata = r.strata.1; horizon = r.horizon.1 })

module _ (l : List ℕ) (h : Head) (s : Offsets) (e : h ≡ head l) (f : s ≡ offsets_of h) (a : Accepted l) where
  offsets_by : s ≡ offsets l
  offsets_by = cc

  -- a row is before the cells
  pub row_by : (stratum age : ℕ) → stratum < strata l → (1 ≤ age) × (age ≤ horizon l) →
      (s.tables + stratum * h.horizon + (age - 1) ≡ row_at l stratum age) × (row_at l stratum age < (offsets l).terms)
  row_by stratum age p q =
      let parts = a.parts in
      (rw (offsets_by, e), omega (arith, row_within stratum (strata l) (horizon l) p))

  -- a cell's two words are before the terms
  pub cell_by : (i : ℕ) → i < cells l → (s.cells + cell_words * i ≡ cell_at l i) × (cell_at l i + 1 < (offsets l).terms)
  cell_by i p =
      let parts = a.parts in
      (rw offsets_by, omega arith)

-- ---- a listing as a value of the code, by its ghost fields

module _ (l : Listing) where
  pub listing_cells : l.figures.cells ≡ cells l.words.now
  listing_cells = ap (λ (h : Head). h.cells) l.is_head

  pub listing_horizon : l.figures.horizon ≡ horizon l.words.now
  listing_horizon = ap (λ (h : Head). h.horizon) l.is_head
