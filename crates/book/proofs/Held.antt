-- A cell's words as they are written: they give the entry and the kg back, and they are valid. Assumes nothing.
use mathlib.Core.Path.{◌≡◌, refl}
use mathlib.Core.List.{List}
use Prim.Native.Nat.{ℕ, ◌+◌, ◌-◌, ◌<◌}
use native.Mathlib.Omega.{arith}
use lib.ListN.{length, take, drop}
use borrow.Rule.Slice.PartMut.{put_mid}
use Rattle.words.proofs.Blocks.{Filling, filling_lent_length, filling_next}
use Rattle.fields.specs.Valid.{HeadValid, CellValid}
use Rattle.fields.specs.declared.Head.{Head}
use Rattle.fields.specs.declared.Cell.{Cell}
use Rattle.listing.specs.Layout.{head, cells, cell}
use Rattle.listing.specs.Accepted.{Accepted}
use Rattle.year.specs.Year.{most_loss}
use Rattle.year.specs.declared.Entry.{Entry}
use Rattle.year.proofs.Laws.{most_entered}
use Rattle.book.specs.Layout.{oxidised_kind, burned_kind, Sized, Shaped, entry_at, entry_of, held_words}
use Rattle.book.specs.Check.{entry_word_valid}
use Rattle.book.specs.Held.{held_at}
use Rattle.book.specs.AcceptedBook.{All, Storable, EntryValid}
use Rattle.book.specs.declared.Shape.{Shape}
use Rattle.book.proofs.Words.{payload_of, plan_of_lem, mark_of, plan_valid, oxidised_valid, burned_valid}
use Rattle.book.proofs.Valid.{entry_all}
use Rattle.book.proofs.AcceptedBook.{by_size}

-- they are as many as asked
pub held_sized : (n : ℕ) (e : Entry) → Sized n → length (held_words n e) ≡ n
unfolding held_words
held_sized n e g = by_size (λ (m : ℕ). length (held_words m e) ≡ m) n g refl

module _ (n : ℕ) (g : Sized n) (e : Entry) (fits : Storable e) where
  pub held_entry : entry_of (held_words n e) ≡ e
  unfolding held_words entry_of
  held_entry =
      let o = payload_of oxidised_kind e.oxidised fits.oxidised in
      let b = payload_of burned_kind e.burned fits.burned in
      let p = plan_of_lem e.withdrawn e.plan fits.plan in
      let m = mark_of e.withdrawn e.plan fits.plan in
      by_size (λ (m : ℕ). entry_of (held_words m e) ≡ e) n g (rw (m, p, o, b))

-- a valid entry of a valid cell fits its words
module _ {h : Head} {c : Cell} (head : HeadValid h) (cell : CellValid h.strata h.horizon c) (e : Entry) (valid : EntryValid h c e) where
  pub valid_storable : Storable e
  valid_storable =
      let most = cell.entered in
      let lost = valid.lost in
      let plan = valid.plan in
      let horizon = head.horizon.1 in
      record { plan = omega arith; oxidised = omega arith; burned = omega arith }

  -- and its words are valid
  pub held_valid : (n : ℕ) → Sized n → All (entry_word_valid h c (held_words n e)) n
  unfolding held_words
  held_valid n g =
      let most = cell.entered in
      let horizon = head.horizon.1 in
      let p = plan_valid h.horizon e.withdrawn e.plan valid.plan (omega arith) in
      let o = oxidised_valid e.oxidised valid_storable.oxidised in
      let b = burned_valid (most_loss h c) e.oxidised e.burned valid.most (omega (arith, most_entered h c)) in
      by_size (λ (m : ℕ). All (entry_word_valid h c (held_words m e)) m) n g (entry_all 3 h c (held_words 3 e) p o b)

-- ---- all cells of an accepted listing, with valid entries e

module _ (s : Shape) (g : Shaped s) (e : ℕ → Entry) where
  pub held_at_sized : (i : ℕ) → length (held_at s e i) ≡ s.entry
  held_at_sized i = held_sized s.entry (e i) g.entry

  module _ (l : List ℕ) (a : Accepted l) (valid : (i : ℕ) → i < cells l → EntryValid (head l) (cell l i) (e i)) where
    pub held_at_valid : (i : ℕ) → i < cells l → All (entry_word_valid (head l) (cell l i) (held_at s e i)) s.entry
    held_at_valid i lt = held_valid a.head_valid (a.cell_valid i lt) (e i) (valid i lt) s.entry g.entry

    pub held_at_entry : (i : ℕ) → i < cells l → entry_of (held_at s e i) ≡ e i
    held_at_entry i lt = held_entry s.entry g.entry (e i) (valid_storable a.head_valid (a.cell_valid i lt) (e i) (valid i lt))

-- ---- a walk that writes the cells of a book one after the other: in the iteration of cell i, y is the book as it is now, and the cell's words
-- begin at a

module _ {s : Shape} (g : Shaped s) (e : ℕ → Entry) {b : List ℕ} {n i : ℕ} {y : List ℕ} (r : Filling s.entry b s.head (held_at s e) n i y) (lt : i < n) {a : ℕ} (here : a ≡ entry_at s i) where
  lent_sized : length (take (a + s.entry - a) (drop a y)) ≡ s.entry
  lent_sized = filling_lent_length r lt a here

  -- x is the entry that is written
  module _ {x : Entry} (x_is : x ≡ e i) where
    pub put_allowed : Storable (e i) → Sized (length (take (a + s.entry - a) (drop a y))) × Storable x
    put_allowed fits = (rw lent_sized g.entry, rw x_is fits)

    pub put_next : {ws : List ℕ} → ws ≡ held_words (length (take (a + s.entry - a) (drop a y))) x → Filling s.entry b s.head (held_at s e) n (i + 1) (put_mid a (a + s.entry - a) y ws)
    put_next ws_is = filling_next r lt a here (rw (lent_sized, x_is) at ws_is)
