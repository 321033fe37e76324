-- A listing with its cells in another order says the same, and is refused alike: all that knows where a listing's words are. Assumes nothing.
use mathlib.Core.Path.{◌≡◌, sym, ap, ◌∙◌}
use mathlib.Core.List.{List}
use Prim.Native.Nat.{ℕ, ◌+◌, ◌-◌, ◌*◌, ◌/◌, ◌%◌, ◌≤◌, ◌<◌}
use native.Mathlib.Omega.{arith}
use lib.ListN.{get_or, drop, length-drop}
use lib.Seq.{ext_get_or, get_or-drop}
use Rattle.words.proofs.Steps.{row_within}
use Rattle.fields.specs.Fields.{row_of}
use Rattle.fields.specs.declared.Head.{Head}
use Rattle.listing.specs.Layout.{head, cells, strata, horizon, cell_words, offsets_of, offsets, row_at, row, cell}
use Rattle.listing.specs.Check.{table_word_valid, cell_word_valid, term_word_valid, term_above, words_checked, later_checked, checked}
use Rattle.listing.specs.Accepted.{Accepted}
use Rattle.listing.proofs.Accepted.{parts_follow}
use Rattle.terms.specs.Terms.{total, counted, terms_to_date}
use Rattle.order.specs.Order.{Order, ListingMoved, ButForPlace}
use Rattle.order.proofs.Answers.{alike_same, need_alike, AllValid, every_alike, every_tested}
use Rattle.order.proofs.Moved.{from_within, reverse, moved_before, moved_back}
use Rattle.order.proofs.OwnWords.{cell_same}

module _ {n : ℕ} {o : Order n} {l l' : List ℕ} (e : ListingMoved o l l') where
  pub cells_is : cells l' ≡ n
  cells_is = ap (λ (h : Head). h.cells) e.head_is ∙ e.count

  pub horizon_is : horizon l' ≡ horizon l
  horizon_is = ap (λ (h : Head). h.horizon) e.head_is

  pub cell_is : (m : ℕ) → m < n → cell l' m ≡ cell l (o.from m)
  cell_is m lt = cell_same l' l m (o.from m) (rw e.head_is (e.cells_moved.block m lt))

  -- a row of a table is before the cells
  pub row_is : Accepted l → (s a : ℕ) → s < strata l → (1 ≤ a) × (a ≤ horizon l) → row l' s a ≡ row l s a
  row_is valid s a lt within =
      let parts = valid.parts in
      let at : row_at l' s a ≡ row_at l s a = ap (λ (h : Head). (offsets_of h).tables + s * h.horizon + (a - 1)) e.head_is in
      ap row_of (ap (λ (k : ℕ). get_or l' k 0) at ∙ moved_before e.cells_moved (row_at l s a) (omega (arith, row_within s (strata l) (horizon l) lt)))

  -- the terms follow them
  tail_is : drop (offsets l).terms l' ≡ drop (offsets l).terms l
  tail_is =
      ext_get_or 0 _ _ (simp length-drop (rw e.length_is))
      (λ k lt. get_or-drop (offsets l).terms l' k 0 ∙ e.terms_same ((offsets l).terms + k) (omega arith) ∙ sym (get_or-drop (offsets l).terms l k 0))

  pub terms_are_lem : (t last : ℕ) → terms_to_date l' t last ≡ terms_to_date l t last
  terms_are_lem t last = ap (λ (h : Head). total (counted t last) (drop (offsets_of h).terms l')) e.head_is ∙ ap (total (counted t last)) tail_is

  -- and back again
  pub listing_back : ListingMoved (reverse o) l' l
  listing_back =
      record {
        count = cells_is;
        head_is = sym e.head_is;
        length_is = sym e.length_is;
        cells_moved = rw e.head_is (moved_back e.cells_moved);
        terms_same = rw e.head_is (λ k le. sym (e.terms_same k le));
      }

  -- a word of the cells is valid since the one that it came from is
  cells_valid_lem : (strata horizon : ℕ) → AllValid (cell_word_valid l strata horizon (offsets l).cells) (offsets l).cells (offsets l).terms →
      AllValid (cell_word_valid l' strata horizon (offsets l).cells) (offsets l).cells (offsets l).terms
  cells_valid_lem strata horizon all k lo hi =
      let behind = (parts_follow (head l)).1 in
      let start : ℕ = (offsets l).cells in
      let m : ℕ = (k - start) / cell_words in
      let r : ℕ = (k - start) % cell_words in
      let from : ℕ = start + cell_words * o.from m + r in
      let count = e.count in
      let lt : m < n = omega arith in
      let here : start + cell_words * m + r ≡ k = omega arith in
      let offset_is : (from - start) % cell_words ≡ r = omega arith in
      let word : get_or l' k 0 ≡ get_or l from 0 = rw here at (e.cells_moved.block m lt r (omega arith)) in
      rw word (rw offset_is at (all from (omega arith) (omega (arith, from_within o m lt))))

-- ---- its check

module _ {n : ℕ} {o : Order n} {l l' : List ℕ} (e : ListingMoved o l l') where
  cells_back : (strata horizon : ℕ) → AllValid (cell_word_valid l' strata horizon (offsets l).cells) (offsets l).cells (offsets l).terms →
      AllValid (cell_word_valid l strata horizon (offsets l).cells) (offsets l).cells (offsets l).terms
  cells_back strata horizon = rw e.head_is at (cells_valid_lem (listing_back e) strata horizon)

  later_alike : ButForPlace (later_checked l (head l) (offsets l)) (later_checked l' (head l) (offsets l))
  unfolding later_checked words_checked
  later_alike =
      rw e.length_is
      (need_alike _ _ _ _ _ _
      (need_alike _ _ _ _ _ _
      (every_tested _ (table_word_valid l) (table_word_valid l') _ _ _ _ (λ k lo hi. rw (moved_before e.cells_moved k hi))
      (every_alike _ _ _ _ _ _ _ (cells_valid_lem e (head l).strata (horizon l)) (cells_back (head l).strata (horizon l))
      (every_tested _ (term_word_valid l (horizon l)) (term_word_valid l' (horizon l)) _ _ _ _ (λ k lo hi. rw (e.terms_same k lo))
      (every_tested _ (term_above l) (term_above l') _ _ _ _ (λ k lo hi. rw (e.terms_same k (omega arith), e.terms_same (k - 1) (omega arith)))
      (alike_same _)))))))

  pub checked_alike : ButForPlace (checked l) (checked l')
  unfolding checked
  checked_alike =
      let first = (parts_follow (head l)).0 in
      rw (e.length_is, e.head_is, moved_before e.cells_moved 0 (omega arith), moved_before e.cells_moved 1 (omega arith))
      (need_alike _ _ _ _ _ _
      (need_alike _ _ _ _ _ _
      (need_alike _ _ _ _ _ _
      later_alike)))
