-- What is read from a book after each store that a call makes: a word of the head, a cell's plan word, and all cells' words. Assumes nothing.
use mathlib.Core.Path.{◌≡◌, refl, ap, ◌∙◌}
use mathlib.Core.Bool.{Bool, true, false, cond}
use mathlib.Core.List.{List}
use Prim.Native.Nat.{ℕ, ◌+◌, ◌-◌, ◌*◌, ◌^◌, ◌≤◌, ◌<◌}
use native.Mathlib.Omega.{arith}
use lib.Dec.{ltb, eqb}
use lib.ListN.{length, get_or, set, take, drop}
use lib.Seq.{get_or-take, get_or-drop, get_or-set_same, get_or-set_other, drop-set-lt, drop-set-add, take-set-le, take-set-lt}
use borrow.Author.Tests.{ltb-true, ltb-false, eqb-true, eqb-false}
use Rattle.words.specs.Bits.{word_of}
use Rattle.words.specs.Blocks.{filled}
use Rattle.words.proofs.Blocks.{filled_before, filled_block}
use Rattle.words.proofs.Signed.{by_test}
use Rattle.fields.specs.declared.Head.{Head}
use Rattle.fields.specs.declared.Cell.{Cell}
use Rattle.year.specs.declared.Entry.{Entry}
use Rattle.book.specs.Layout.{year_kind, issued_kind, Shaped, entry_at, year_at, issued_at, issued_words, year, issued, entry_of, words_of, entry}
use Rattle.book.specs.Layout.{stored, with_year, with_issued, plan_word, with_plan}
use Rattle.book.specs.Check.{entry_word_valid}
use Rattle.book.specs.AcceptedBook.{CellInBook, All}
use Rattle.book.specs.declared.Shape.{Shape}
use Rattle.book.proofs.Places.{entry_before}
use Rattle.book.proofs.Words.{plan_of_lem, mark_of, plan_valid}
use Rattle.book.proofs.Numbers.{joined_same, joined_beside, joined_stored, stored_keeps}
use Rattle.book.proofs.Valid.{entry_rest}
use Rattle.book.proofs.AcceptedBook.{words_long}

-- the word at offset j of cell i, by its place in the book
pub entry_word : (s : Shape) (b : List ℕ) (i j : ℕ) → j < s.entry → get_or (words_of s b i) j 0 ≡ get_or b (entry_at s i + j) 0
entry_word s b i j h = rw (get_or-take, get_or-drop)

-- an entry depends on its words
pub entry_by : (w v : List ℕ) → ((k : ℕ) → k < 3 → get_or w k 0 ≡ get_or v k 0) → entry_of w ≡ entry_of v
unfolding entry_of
entry_by w v same = rw (same 0 (omega arith), same 1 (omega arith), same 2 (omega arith))

-- the year and the tonnes issued depend on the words of the head
module _ (s : Shape) (x y : List ℕ) (head_positive : 1 ≤ s.head) (same : (k : ℕ) → k < s.head → get_or x k 0 ≡ get_or y k 0) where
  pub year_by : year x ≡ year y
  unfolding year
  year_by = joined_same x y year_at 1 (λ j lt. same (year_at + j) (omega arith))

  pub issued_by : issued s x ≡ issued s y
  unfolding issued
  issued_by = joined_same x y issued_at (issued_words s) (λ j lt. same (issued_at + j) (omega arith))

-- ---- a store to the head

pub year_put : (b : List ℕ) (t : ℕ) → 0 < length b → t < 2 ^ 28 → year (with_year b t) ≡ t
unfolding year
year_put b t capacity h = joined_stored year_kind year_at 1 t b (omega arith) (omega arith)

module _ (s : Shape) where
  pub issued_put : (b : List ℕ) (n : ℕ) → s.head ≤ length b → 1 ≤ s.head → n < 2 ^ (28 * issued_words s) → issued s (with_issued s b n) ≡ n
  unfolding issued
  issued_put b n capacity head_positive h = joined_stored issued_kind issued_at (issued_words s) n b (omega arith) h

  pub year_issued : (b : List ℕ) (n : ℕ) → year (with_issued s b n) ≡ year b
  unfolding year
  year_issued b n = joined_beside issued_kind issued_at (issued_words s) n b year_at 1 (λ lt. omega arith)

  pub issued_year : (b : List ℕ) (t : ℕ) → issued s (with_year b t) ≡ issued s b
  unfolding issued
  issued_year b t = joined_beside year_kind year_at 1 t b issued_at (issued_words s) (λ lt. absurd (omega arith))

  -- a store before the words of a cell, and one behind them
  pub before_words : (b : List ℕ) (k w i : ℕ) → k < entry_at s i → words_of s (set b k w) i ≡ words_of s b i
  before_words b k w i h = ap (take s.entry) (drop-set-lt (entry_at s i) b k w h)

  behind_words : (b : List ℕ) (k w i : ℕ) → entry_at s i + s.entry ≤ k → words_of s (set b k w) i ≡ words_of s b i
  behind_words b k w i h =
      let e : k ≡ entry_at s i + (k - entry_at s i) = omega arith in
      ap (λ (m : ℕ). words_of s (set b m w) i) e
      ∙ ap (take s.entry) (drop-set-add (entry_at s i) b (k - entry_at s i) w)
      ∙ take-set-le s.entry (drop (entry_at s i) b) (k - entry_at s i) w (omega arith)

  -- a number stored in the head
  pub words_stored : (b : List ℕ) (kind from n x i : ℕ) → from + n ≤ s.head → words_of s (stored kind b from n x) i ≡ words_of s b i
  words_stored b kind from n x i capacity =
      stored_keeps (λ (d : List ℕ). words_of s d i ≡ words_of s b i) kind from n x b (λ d k w h lt small e. before_words d k (word_of kind w) i (omega arith) ∙ e) refl

  pub entry_stored : (b : List ℕ) (kind from n x i : ℕ) → from + n ≤ s.head → entry s (stored kind b from n x) i ≡ entry s b i
  entry_stored b kind from n x i capacity = ap entry_of (words_stored b kind from n x i capacity)

-- ---- a store to a plan word

-- an entry with another mark and plan year
abbrev pub replaced : Entry → Bool → ℕ → Entry
replaced e f y = record { withdrawn = f; plan = y; oxidised = e.oxidised; burned = e.burned }

module _ (w : List ℕ) (long : 3 ≤ length w) (f : Bool) (y : ℕ) where
  first : get_or (set w 0 (plan_word f y)) 0 0 ≡ plan_word f y
  first = get_or-set_same w 0 (plan_word f y) 0 (omega arith)

  other : (k : ℕ) → 0 < k → get_or (set w 0 (plan_word f y)) k 0 ≡ get_or w k 0
  other k h = get_or-set_other w 0 k (plan_word f y) 0 (λ q. omega arith)

  entry_first : y < 2 ^ 8 → entry_of (set w 0 (plan_word f y)) ≡ replaced (entry_of w) f y
  unfolding entry_of
  entry_first h = rw (first, other 1 (omega arith), other 2 (omega arith), plan_of_lem f y h, mark_of f y h)

  valid_first : (n : ℕ) (h : Head) (c : Cell) → y ≤ h.horizon → h.horizon < 2 ^ 8 → All (entry_word_valid h c w) n → All (entry_word_valid h c (set w 0 (plan_word f y))) n
  unfolding entry_word_valid
  valid_first n h c p q r =
      record {
        each =
            λ j lt.
            by_test (λ (t : Bool). entry_word_valid h c (set w 0 (plan_word f y)) j ≡ true) (eqb j 0) true true
            (λ e. rw (e, first) (plan_valid h.horizon f y p q))
            (λ e. entry_rest h c (set w 0 (plan_word f y)) w other j e ∙ r.each j lt);
      }

module _ (s : Shape) (g : Shaped s) (b : List ℕ) (i : ℕ) (w : ℕ) (j : ℕ) where
  first_word : words_of s (set b (entry_at s j) w) j ≡ set (words_of s b j) 0 w
  first_word =
      let e : entry_at s j ≡ entry_at s j + 0 = omega arith in
      let three = g.entry in
      ap (λ (m : ℕ). words_of s (set b m w) j) e
      ∙ ap (take s.entry) (drop-set-add (entry_at s j) b 0 w)
      ∙ take-set-lt s.entry (drop (entry_at s j) b) 0 w (omega arith)

  other_word : (i ≡ j → ⊥) → words_of s (set b (entry_at s i) w) j ≡ words_of s b j
  other_word n =
      let three = g.entry in
      by_test (λ (t : Bool). words_of s (set b (entry_at s i) w) j ≡ words_of s b j) (ltb i j) true false
      (λ e. before_words s b (entry_at s i) w j (omega (arith, entry_before s i j (ltb-true i j e))))
      (λ e.
      let le = ltb-false i j e in
      let lt : j < i = omega arith in
      behind_words s b (entry_at s i) w j (entry_before s j i lt))

  -- a store to the first word of cell i: the words of cell j
  pub words_put : words_of s (set b (entry_at s i) w) j ≡ cond (eqb i j) (set (words_of s b j) 0 w) (words_of s b j)
  words_put =
      by_test (λ (x : List ℕ). words_of s (set b (entry_at s i) w) j ≡ x) (eqb i j) (set (words_of s b j) 0 w) (words_of s b j)
      (λ e. rw (eqb-true i j e) first_word)
      (λ e. other_word (eqb-false i j e))

module _ (s : Shape) (b : List ℕ) (i : ℕ) (new : Entry) (j : ℕ) (capacity : CellInBook s b j) where
  abbrev word : ℕ
  word = plan_word new.withdrawn new.plan

  pub entry_put : new.plan < 2 ^ 8 → entry s (with_plan s b i new) j ≡ cond (eqb i j) (replaced (entry s b j) new.withdrawn new.plan) (entry s b j)
  entry_put h = ap entry_of (words_put s capacity.shaped b i word j) ∙ case (eqb i j)
    where
      case : (t : Bool) → entry_of (cond t (set (words_of s b j) 0 word) (words_of s b j)) ≡ cond t (replaced (entry s b j) new.withdrawn new.plan) (entry s b j)
      case true = entry_first (words_of s b j) (words_long s b j capacity) new.withdrawn new.plan h
      case false = refl

  pub valid_put : (n : ℕ) (h : Head) (c : Cell) → new.plan ≤ h.horizon → h.horizon < 2 ^ 8 → All (entry_word_valid h c (words_of s b j)) n →
      All (entry_word_valid h c (words_of s (with_plan s b i new) j)) n
  valid_put n h c p q r =
      rw (words_put s capacity.shaped b i word j)
      (by_test (λ (w : List ℕ). All (entry_word_valid h c w) n) (eqb i j) (set (words_of s b j) 0 word) (words_of s b j)
      (λ e. valid_first (words_of s b j) (words_long s b j capacity) new.withdrawn new.plan n h c p q r)
      (λ e. r))

-- ---- the words of n cells, all stored

module _ (s : Shape) (b : List ℕ) (f : ℕ → List ℕ) (sized : (i : ℕ) → length (f i) ≡ s.entry) (capacity : s.head ≤ length b) (n : ℕ) where
  pub head_filled : (k : ℕ) → k < s.head → get_or (filled s.entry b s.head f n) k 0 ≡ get_or b k 0
  head_filled k h = filled_before s.entry b s.head f sized capacity n k h

  pub year_filled : 1 ≤ s.head → year (filled s.entry b s.head f n) ≡ year b
  year_filled head_positive = year_by s _ b head_positive head_filled

  pub issued_filled : 1 ≤ s.head → issued s (filled s.entry b s.head f n) ≡ issued s b
  issued_filled head_positive = issued_by s _ b head_positive head_filled

  pub words_filled : (i : ℕ) → i < n → words_of s (filled s.entry b s.head f n) i ≡ f i
  words_filled i h = filled_block s.entry b s.head f sized capacity n i h

  pub entry_filled : (i : ℕ) → i < n → entry s (filled s.entry b s.head f n) i ≡ entry_of (f i)
  entry_filled i h = ap entry_of (words_filled i h)
