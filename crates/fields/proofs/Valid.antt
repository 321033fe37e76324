-- What the tests of words say of their fields. Assumes nothing.
use mathlib.Core.Path.{◌≡◌, refl, ap}
use mathlib.Core.Logic.{◌⊎◌, inl, inr, ⊎_elim}
use mathlib.Core.Bool.{Bool, true, false, ◌&&◌, ◌||◌}
use Prim.Native.Nat.{ℕ, ◌+◌, ◌-◌, ◌*◌, ◌≤◌, ◌<◌}
use native.Mathlib.Omega.{arith}
use lib.Dec.{eqb, ltb}
use borrow.Author.Tests.{ltb-true, leb-true, eqb-true, lt-ltb, le-ltb, le-leb, eq-eqb, ne_eqb}
use Rattle.std.specs.Coded.{×_prop, le_prop}
use Rattle.std.proofs.Math.Nat.{ℕ_set}
use Rattle.words.specs.Bits.{within}
use Rattle.words.proofs.Fields.{field_below, field_most}
use Rattle.words.proofs.Signed.{by_less, by_equal}
use Rattle.words.proofs.Answers.{and_left, and_right, within_least, within_most}
use Rattle.fields.specs.Fields.{cells_of, strata_of, horizon_of, buffer_of, warming_of, methane_of, stratum_of, conversion_of, entered_of, area_of, density_of}
use Rattle.fields.specs.Fields.{term_of, year_of, head_of, row_of, cell_of}
use Rattle.fields.specs.Words.{most_cells, most_strata, most_horizon, most_buffer, most_warming, most_methane, most_depth, most_area, most_density, most_term, year_terms}
use Rattle.fields.specs.Words.{is_size_word, is_figure_word, is_site_valid, is_depth_word, is_area_word, is_listed_term, is_term_word, is_above}
use Rattle.fields.specs.Valid.{SizesWithin, HeadValid, RowValid, CellValid, Listed, TermValid, term_order}

pub sizes_within : (w v x : ℕ) → is_size_word w ≡ true → SizesWithin (head_of w v x)
unfolding is_size_word head_of
sizes_within w v x p =
    let cells : within 1 most_cells (cells_of w) ≡ true = search (and_left, and_right) in
    let strata : within 1 most_strata (strata_of w) ≡ true = search (and_left, and_right) in
    let horizon : within 1 most_horizon (horizon_of w) ≡ true = search (and_left, and_right) in
    record { cells = within_most _ _ _ cells; strata = within_most _ _ _ strata; horizon = within_most _ _ _ horizon }

pub head_valid : (w v x : ℕ) → is_size_word w ≡ true → is_figure_word v ≡ true → is_site_valid (head_of w v x) ≡ true → HeadValid (head_of w v x)
unfolding is_size_word is_figure_word is_site_valid head_of
head_valid w v x p q r =
    let cells : within 1 most_cells (cells_of w) ≡ true = search (and_left, and_right) in
    let strata : within 1 most_strata (strata_of w) ≡ true = search (and_left, and_right) in
    let horizon : within 1 most_horizon (horizon_of w) ≡ true = search (and_left, and_right) in
    let buffer : within 0 most_buffer (buffer_of v) ≡ true = search (and_left, and_right) in
    let warming : within 1 most_warming (warming_of v) ≡ true = search (and_left, and_right) in
    let methane : within 0 most_methane (methane_of v) ≡ true = search (and_left, and_right) in
    record {
      cells = (within_least _ _ _ cells, within_most _ _ _ cells);
      strata = (within_least _ _ _ strata, within_most _ _ _ strata);
      horizon = (within_least _ _ _ horizon, within_most _ _ _ horizon);
      char = omega (arith, field_most v 23 5);
      buffer = within_most _ _ _ buffer;
      warming = (within_least _ _ _ warming, within_most _ _ _ warming);
      methane = within_most _ _ _ methane;
      guard = leb-true _ _ (and_left _ _ r);
      thickness = leb-true _ _ (and_right _ _ r);
    }

-- every word of a table is valid, by the width of its fields
pub row_valid : (w : ℕ) → RowValid (row_of w)
unfolding row_of
row_valid w = record { drainage = field_most w 20 8; oxidation = field_most w 10 10; burning = field_most w 0 10 }

pub cell_valid : (strata horizon w v : ℕ) → is_depth_word strata horizon w ≡ true → is_area_word v ≡ true → CellValid strata horizon (cell_of w v)
unfolding is_depth_word is_area_word cell_of
cell_valid strata horizon w v p q =
    let stratum : ltb (stratum_of w) strata ≡ true = search (and_left, and_right) in
    let conversion : within 0 horizon (conversion_of w) ≡ true = search (and_left, and_right) in
    let entered : within 0 most_depth (entered_of w) ≡ true = search (and_left, and_right) in
    let area : within 1 most_area (area_of v) ≡ true = search (and_left, and_right) in
    let density : within 1 most_density (density_of v) ≡ true = search (and_left, and_right) in
    record {
      stratum = ltb-true _ _ stratum;
      conversion = within_most _ _ _ conversion;
      entered = within_most _ _ _ entered;
      area = (within_least _ _ _ area, within_most _ _ _ area);
      density = (within_least _ _ _ density, within_most _ _ _ density);
    }

either : (a b : Bool) → (a || b) ≡ true → (a ≡ true) ⊎ (b ≡ true)
either true b h = inl refl
either false b h = inr h

-- the order of terms is that of a number
by_order : (y z s t : ℕ) → s < 16 → t < 16 → ltb (y * 16 + s) (z * 16 + t) ≡ (ltb y z || (eqb y z && ltb s t))
by_order y z s t p q =
    by_less y z
    (λ h. rw (lt-ltb y z h, lt-ltb (y * 16 + s) (z * 16 + t) (omega arith)))
    (λ h.
    by_equal y z
    (λ e.
    by_less s t
    (λ k. rw (le-ltb y z h, eq-eqb y z e, lt-ltb s t k, lt-ltb (y * 16 + s) (z * 16 + t) (omega arith)))
    (λ k. rw (le-ltb y z h, eq-eqb y z e, le-ltb s t k, le-ltb (y * 16 + s) (z * 16 + t) (omega arith))))
    (λ n. rw (le-ltb y z h, ne_eqb y z n, le-ltb (y * 16 + s) (z * 16 + t) (omega arith))))

pub above_order : (before w : ℕ) → ltb (term_order before) (term_order w) ≡ is_above before w
unfolding term_order is_above
above_order before w = by_order (year_of before) (year_of w) (term_of before) (term_of w) (field_below before 24 4) (field_below w 24 4)

pub term_valid : (horizon w : ℕ) → is_term_word horizon w ≡ true → TermValid horizon w
unfolding is_term_word is_listed_term
term_valid horizon w h =
    let term : (eqb (term_of w) 1 || within 3 most_term (term_of w)) ≡ true = search (and_left, and_right) in
    let year : within 1 horizon (year_of w) ≡ true = search (and_left, and_right) in
    record {
      term = ⊎_elim (λ e. inl (eqb-true _ _ e)) (λ e. inr (within_least _ _ _ e, within_most _ _ _ e)) (either _ _ term);
      year = (within_least _ _ _ year, within_most _ _ _ year);
    }

-- a valid term is valid but for its year, and the other way round where its year is in range
pub listed_of : (horizon w : ℕ) → is_term_word horizon w ≡ true → is_listed_term w ≡ true
unfolding is_term_word
listed_of horizon w h = and_left _ _ h

pub term_word_by : (horizon w : ℕ) → is_listed_term w ≡ true → 1 ≤ year_of w → year_of w ≤ horizon → is_term_word horizon w ≡ true
unfolding is_term_word within
term_word_by horizon w h least most = rw (h, le-leb 1 (year_of w) least, le-leb (year_of w) horizon most) refl

pub term_most : {horizon w : ℕ} → TermValid horizon w → term_of w ≤ most_term
term_most {w} r = ⊎_elim (λ (e : term_of w ≡ 1). omega arith) (λ (e : (3 ≤ term_of w) × (term_of w ≤ most_term)). e.1) r.term

-- terms rise by year
pub above_year : (before w : ℕ) → is_above before w ≡ true → year_of before ≤ year_of w
unfolding is_above
above_year before w h =
    let y = year_of before in
    let z = year_of w in
    ⊎_elim
    (λ (e : ltb y z ≡ true). omega (arith, ltb-true y z e))
    (λ (e : (eqb y z && ltb (term_of before) (term_of w)) ≡ true). omega (arith, eqb-true y z (and_left (eqb y z) (ltb (term_of before) (term_of w)) e)))
    (either (ltb y z) (eqb y z && ltb (term_of before) (term_of w)) h)

-- a term's number, counted through: of a year's, term 1 is the first and term 8 the last
abbrev rank_of : ℕ → ℕ → ℕ
rank_of year term = year_terms * (year - 1) + (term - 2)

one_of_seven : (term : ℕ) → Listed term → term - 2 < year_terms
one_of_seven term l = ⊎_elim (λ (e : term ≡ 1). omega arith) (λ (e : (3 ≤ term) × (term ≤ most_term)). omega arith) l

higher_term : (year s t : ℕ) → Listed s → Listed t → s < t → rank_of year s < rank_of year t
higher_term year s t p q h =
    ⊎_elim
    (λ (f : t ≡ 1). ⊎_elim (λ (e : s ≡ 1). absurd (omega arith)) (λ (e : (3 ≤ s) × (s ≤ most_term)). absurd (omega arith)) p)
    (λ (f : (3 ≤ t) × (t ≤ most_term)). ⊎_elim (λ (e : s ≡ 1). omega arith) (λ (e : (3 ≤ s) × (s ≤ most_term)). omega arith) p)
    q

unfoldable pub rank : ℕ → ℕ
rank w = rank_of (year_of w) (term_of w)

pub rank_below : (horizon w : ℕ) → TermValid horizon w → rank w < year_terms * horizon
unfolding rank
rank_below horizon w r =
    let year = r.year in
    omega (arith, one_of_seven (term_of w) r.term)

-- it rises where the terms do
pub rank_above : (horizon before w : ℕ) → TermValid horizon before → TermValid horizon w → is_above before w ≡ true → rank before < rank w
unfolding rank is_above
rank_above horizon before w p q h =
    let y = year_of before in
    let z = year_of w in
    let s = term_of before in
    let t = term_of w in
    ⊎_elim
    (λ (e : ltb y z ≡ true).
    let first = p.year.0 in
    omega (arith, ltb-true y z e, one_of_seven s p.term))
    (λ (e : (eqb y z && ltb s t) ≡ true).
    rw (eqb-true y z (and_left (eqb y z) (ltb s t) e)) (higher_term z s t p.term q.term (ltb-true s t (and_right (eqb y z) (ltb s t) e))))
    (either (ltb y z) (eqb y z && ltb s t) h)

-- that a term may be listed has one proof: the two cases exclude each other
pub listed_prop : (term : ℕ) → IsProp (Listed term)
listed_prop term (inl p) (inl q) = ap inl (ℕ_set _ _ p q)
listed_prop term (inl p) (inr q) = absurd (omega arith)
listed_prop term (inr p) (inl q) = absurd (omega arith)
listed_prop term (inr p) (inr q) = ap inr (×_prop le_prop le_prop p q)
