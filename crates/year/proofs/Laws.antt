-- A cell's year: its products fit, an emission grows with what is lost, no more is lost than there is, and which figures it depends on.
-- Assumes nothing.
use mathlib.Core.Path.{◌≡◌, refl, sym, ap, ap₂, ◌∙◌}
use mathlib.Core.Logic.{⊎_elim}
use mathlib.Core.Bool.{true, false}
use Prim.Native.Nat.{ℕ, ◌+◌, ◌-◌, ◌*◌, ◌≤◌, ◌<◌}
use native.Mathlib.Nat.{add-zero, mul-le-mul, sub_self}
use native.Mathlib.Omega.{arith}
use lib.Dec.{ltb, eqb}
use borrow.Author.Tests.{ltb-false, eqb-false}
use Rattle.std.proofs.lemmas.Bool.{or_parts}
use Rattle.words.proofs.Signed.{by_test}
use Rattle.fields.specs.Valid.{HeadValid, RowValid, CellValid}
use Rattle.fields.specs.declared.Head.{Head}
use Rattle.fields.specs.declared.Row.{Row}
use Rattle.fields.specs.declared.Cell.{Cell}
use Rattle.year.specs.Year.{unconverted, inactive, age, drainage_level, drained, remaining, burned_by, oxidised_by, burned_mm, mm_of, no_mm, year_mm, kg_of, loss_of, year_loss}
use Rattle.year.specs.Year.{EveryReach, burned_weight, emission_divisor, emission, EveryEmission, no_loss, most_line, most_emission, most_loss, after_loss}
use Rattle.year.specs.Limits.{WithinLimits, SameFigures}
use Rattle.year.specs.declared.Entry.{Entry}
use Rattle.year.specs.declared.LostMm.{LostMm}
use Rattle.year.specs.declared.Loss.{Loss}

-- ---- the products of an emission

-- what is divided by 3,000,000,000
abbrev pub dividend : Head → Cell → ℕ → ℕ → ℕ
dividend h c o b = c.area * c.density * (1100000 * o + burned_weight h * b)

module _ {h : Head} (head : HeadValid h) where
  pub ratio_most : 400 * h.warming * h.methane ≤ 4000000
  ratio_most = mul-le-mul {n₂ = 40000} {m₂ = 100} (let most = head.warming in omega arith) head.methane

  burned_weight_least : 759000 ≤ burned_weight h
  unfolding burned_weight
  burned_weight_least = let most = head.char in omega arith

  pub burned_weight_most : burned_weight h ≤ 5100000
  unfolding burned_weight
  burned_weight_most = omega (arith, ratio_most)

-- by the limits of a valid listing, with at most m mm lost and at most n mm of it burned
module _ {h : Head} {c : Cell} (head : HeadValid h) (cell : CellValid h.strata h.horizon c) where
  pub area_most : c.area * c.density ≤ 24000000
  area_most = mul-le-mul {n₂ = 10000} {m₂ = 2400} cell.area.1 cell.density.1

  burning_most : (b : ℕ) → burned_weight h * b ≤ 5100000 * b
  burning_most b = mul-le-mul {n₂ = 5100000} (burned_weight_most head) (omega arith)

  dividend_most : (o b : ℕ) {m n : ℕ} → o + b ≤ m → b ≤ n → dividend h c o b ≤ 24000000 * (1100000 * m + 4000000 * n)
  dividend_most o b {m} {n} p q = mul-le-mul {n₂ = 24000000} {m₂ = 1100000 * m + 4000000 * n} area_most (omega (arith, burning_most b))

-- 20,000 mm
module _ {h : Head} {c : Cell} {o b : ℕ} (fit : WithinLimits h c o b) where
  pub lost_most : o + b ≤ 20000
  lost_most = let most = fit.cell_valid.entered in let lost = fit.lost in omega arith

  burned_most : b ≤ 20000
  burned_most = omega (arith, lost_most)

  pub fit_dividend : dividend h c o b ≤ 2448000000000000000
  fit_dividend = dividend_most fit.head_valid fit.cell_valid o b lost_most burned_most

  pub emission_most : emission h c o b ≤ most_emission
  unfolding emission
  emission_most = omega (arith, fit_dividend)

-- nothing lost leaves an entry as it was
pub after_loss_none : (e : Entry) → after_loss e no_loss ≡ e
after_loss_none e = rw (add-zero e.oxidised, add-zero e.burned)

-- nothing lost is nothing emitted
pub emission_none : (h : Head) (c : Cell) → emission h c 0 0 ≡ 0
unfolding emission
emission_none h c = omega arith

-- ---- more lost: no less emitted, and at most as much more as the difference alone emits
sums : (k w o b o' b' : ℕ) → k * (1100000 * (o + o') + w * (b + b')) ≡ k * (1100000 * o + w * b) + k * (1100000 * o' + w * b')
sums k w o b o' b' = omega arith

module _ (h : Head) (c : Cell) (o b o' b' : ℕ) where
  more : dividend h c (o + o') (b + b') ≡ dividend h c o b + dividend h c o' b'
  more = sums (c.area * c.density) (burned_weight h) o b o' b'

  emission_more : (m : ℕ) → dividend h c o' b' ≤ emission_divisor * m → emission h c (o + o') (b + b') ≤ emission h c o b + m
  unfolding emission
  emission_more m p = omega (arith, more)

  pub emission_grows : emission h c o b ≤ emission h c (o + o') (b + b')
  unfolding emission
  emission_grows = omega (arith, more)

-- ---- every emission
grows : (h : Head) (c : Cell) (o b o' b' : ℕ) → o ≤ o' → b ≤ b' → emission h c o b ≤ emission h c o' b'
grows h c o b o' b' p q =
    let oxidised : o + (o' - o) ≡ o' = omega arith in
    let burned : b + (b' - b) ≡ b' = omega arith in
    rw (← oxidised, ← burned) (emission_grows h c o b (o' - o) (b' - b))

burned_weight_falls : (h h' : Head) → h.char ≤ h'.char → h.warming ≡ h'.warming → h.methane ≡ h'.methane → burned_weight h' ≤ burned_weight h
unfolding burned_weight
burned_weight_falls h h' p q r = rw (q, r) (omega arith)

falls : (h h' : Head) (c : Cell) (o b : ℕ) → h.char ≤ h'.char → h.warming ≡ h'.warming → h.methane ≡ h'.methane → emission h' c o b ≤ emission h c o b
unfolding emission
falls h h' c o b p q r =
    let burning : burned_weight h' * b ≤ burned_weight h * b = mul-le-mul (burned_weight_falls h h' p q r) (omega arith) in
    let less : dividend h' c o b ≤ dividend h c o b = mul-le-mul (omega arith) (omega (arith, burning)) in
    omega (arith, less)

pub every_emission : EveryEmission
unfolding emission burned_weight
every_emission =
    record {
      hundredths = λ h. omega arith;
      weight = λ h head. (omega (arith, burned_weight_least head), omega (arith, burned_weight_most head));
      grows = λ h c o b o' b' p q. grows h c o b o' b' (omega arith) (omega arith);
      falls = λ h h' c o b p q r. falls h h' c o b (omega arith) q r;
      unchanged = λ h c o b p. ⊎_elim (λ q. rw q (omega arith)) (λ q. rw q (omega arith)) p;
    }

-- ---- a year's two losses, by the figures of a row
module _ (guard d b R : ℕ) where
  pub burned_least : (burned_by guard d b R ≤ b) × (burned_by guard d b R ≤ R) × (burned_by guard d b R ≤ d - guard)
  unfolding burned_by
  burned_least = (omega arith, omega arith, omega arith)

module _ (d o R burned : ℕ) where
  oxidised_least : (oxidised_by d o R burned ≤ o) × (oxidised_by d o R burned ≤ R - burned) × (oxidised_by d o R burned ≤ d - burned)
  unfolding oxidised_by
  oxidised_least = (omega arith, omega arith, omega arith)

module _ (h : Head) (c : Cell) (r : Row) (e : Entry) where
  mm_least :
      ((mm_of h c r e).burned ≤ r.burning) × ((mm_of h c r e).burned ≤ remaining c e) × ((mm_of h c r e).burned ≤ drained r e.oxidised e.burned - h.guard)
      × ((mm_of h c r e).oxidised ≤ r.oxidation) × ((mm_of h c r e).oxidised ≤ remaining c e - (mm_of h c r e).burned)
      × ((mm_of h c r e).oxidised ≤ drained r e.oxidised e.burned - (mm_of h c r e).burned)
  unfolding mm_of
  mm_least =
      let b = burned_least h.guard (drained r e.oxidised e.burned) r.burning (remaining c e) in
      let o = oxidised_least (drained r e.oxidised e.burned) r.oxidation (remaining c e) (burned_mm h c r e) in
      (b.0, b.1, b.2, o.0, o.1, o.2)

  -- no more is lost than was entered, after the year too
  pub lost_within : e.oxidised + e.burned ≤ c.entered → (e.oxidised + (mm_of h c r e).oxidised) + (e.burned + (mm_of h c r e).burned) ≤ c.entered
  lost_within p = let m = mm_least in omega arith

  -- what is lost in all, by its three figures; the kg of a year are the difference of two emissions
  pub loss_by : (m : LostMm) (before then : ℕ) → m ≡ mm_of h c r e → before ≡ kg_of h c e → then ≡ emission h c (e.oxidised + m.oxidised) (e.burned + m.burned) →
      ◌≡◌ {A = Loss} (record { oxidised = m.oxidised; burned = m.burned; kg = then - before }) (loss_of h c r e)
  unfolding loss_of
  loss_by m before then p u v = rw (v, u, p)

pub every_reach : EveryReach
unfolding mm_of burned_by oxidised_by
every_reach = record { burned = λ h c r e p q. omega (arith, p, q); oxidised = λ h c r e p q. omega (arith, p, q) }

-- ---- the most that can be lost
module _ (h : Head) (c : Cell) where
  pub most_entered : most_loss h c ≤ c.entered
  unfolding most_loss
  most_entered = by_test (λ n. n ≤ c.entered) (ltb c.entered h.thickness) 0 c.entered (λ e. omega arith) (λ e. omega arith)

  most_peat_lem : ltb c.entered h.thickness ≡ false → most_loss h c ≡ c.entered
  unfolding most_loss
  most_peat_lem e = rw e

-- ---- which cells are inactive

-- a plan year that is neither 0 nor above t is from 1 to t
pub converted : (plan t : ℕ) → unconverted plan t ≡ false → (1 ≤ plan) × (plan ≤ t)
unfolding unconverted
converted plan t q =
    let h = or_parts (eqb plan 0) (ltb t plan) q in
    let nonzero : plan ≡ 0 → ⊥ = eqb-false plan 0 h.0 in
    let le = ltb-false t plan h.1 in
    (omega arith, le)

module _ (h : Head) (c : Cell) (e : Entry) (t : ℕ) where
  -- an active cell is converted, and is peat
  pub active : inactive h c e t ≡ false → (unconverted e.plan t ≡ false) × (ltb c.entered h.thickness ≡ false)
  unfolding inactive
  active q = or_parts (unconverted e.plan t) _ (or_parts e.withdrawn _ q).1

-- ---- the year, whether the cell is active or not
module _ (h : Head) (rows : ℕ → ℕ → Row) (c : Cell) (e : Entry) (t : ℕ) where
  abbrev row : Row
  row = rows c.stratum (age e.plan t)

  pub mm_inactive : inactive h c e t ≡ true → year_mm h rows c e t ≡ no_mm
  unfolding year_mm
  mm_inactive q = rw q

  pub mm_active : inactive h c e t ≡ false → year_mm h rows c e t ≡ mm_of h c row e
  unfolding year_mm
  mm_active q = rw q

  -- no mm are no loss
  loss_none : year_mm h rows c e t ≡ no_mm → year_loss h rows c e t ≡ no_loss
  unfolding year_loss
  loss_none q = rw (q, add-zero e.oxidised, add-zero e.burned, sub_self (kg_of h c e))

  pub loss_inactive : inactive h c e t ≡ true → year_loss h rows c e t ≡ no_loss
  loss_inactive q = loss_none (mm_inactive q)

  pub loss_active : inactive h c e t ≡ false → year_loss h rows c e t ≡ loss_of h c row e
  unfolding year_loss loss_of
  loss_active q = rw (mm_active q)

  -- by the two cases
  mm_is : (P : LostMm → Type 0) → (inactive h c e t ≡ true → P no_mm) → (inactive h c e t ≡ false → P (mm_of h c row e)) → P (year_mm h rows c e t)
  unfolding year_mm
  mm_is P p q = by_test P (inactive h c e t) no_mm (mm_of h c row e) p q

  -- no more is lost after the year than can be
  pub year_most : e.oxidised + e.burned ≤ most_loss h c → (e.oxidised + (year_loss h rows c e t).oxidised) + (e.burned + (year_loss h rows c e t).burned) ≤ most_loss h c
  unfolding year_loss
  year_most p =
      mm_is (λ (m : LostMm). (e.oxidised + m.oxidised) + (e.burned + m.burned) ≤ most_loss h c) (λ q. omega arith)
      (λ q. let peat = most_peat_lem h c (active h c e t q).1 in omega (arith, lost_within h c row e (omega arith)))

  -- the kg line is earned by the mm
  pub year_kg_lem : kg_of h c e + (year_loss h rows c e t).kg ≡ emission h c (e.oxidised + (year_loss h rows c e t).oxidised) (e.burned + (year_loss h rows c e t).burned)
  unfolding year_loss
  year_kg_lem = omega (arith, emission_grows h c e.oxidised e.burned (year_mm h rows c e t).oxidised (year_mm h rows c e t).burned)

  -- an active cell's mm are those of its row, with d by what was lost before
  pub mm_by_d : inactive h c e t ≡ false →
      ((year_loss h rows c e t).burned ≡ burned_by h.guard (drained row e.oxidised e.burned) row.burning (remaining c e))
      × ((year_loss h rows c e t).oxidised ≡ oxidised_by (drained row e.oxidised e.burned) row.oxidation (remaining c e) (year_loss h rows c e t).burned)
  unfolding year_loss mm_of
  mm_by_d q = rw (mm_active q) (refl, refl)

  -- a fire leaves the guard dry
  pub year_dry : 0 < (year_loss h rows c e t).burned → (unconverted e.plan t ≡ false) × (h.guard + (year_loss h rows c e t).burned ≤ drained row e.oxidised e.burned)
  unfolding year_loss
  year_dry =
      mm_is (λ (m : LostMm). 0 < m.burned → (unconverted e.plan t ≡ false) × (h.guard + m.burned ≤ drained row e.oxidised e.burned))
      (λ q z. absurd (omega arith))
      (λ q z. ((active h c e t q).0, let m = mm_least h c row e in omega arith))

  -- where m mm are at least what was lost before, and the drainage level if the cell is converted, they are at least what is lost after the year
  module _ (m : ℕ) (level : unconverted e.plan t ≡ false → drainage_level row ≤ m) (before : e.oxidised + e.burned ≤ m) where
    mm_level : (e.oxidised + (year_mm h rows c e t).oxidised) + (e.burned + (year_mm h rows c e t).burned) ≤ m
    mm_level =
        mm_is (λ (x : LostMm). (e.oxidised + x.oxidised) + (e.burned + x.burned) ≤ m) (λ q. omega (arith, before))
        (λ q. omega (arith, mm_least h c row e, level (active h c e t q).0, before))

    pub year_level : (e.oxidised + (year_loss h rows c e t).oxidised) + (e.burned + (year_loss h rows c e t).burned) ≤ m
    unfolding year_loss
    year_level = mm_level

  -- so nothing is lost in a year whose drainage level is no deeper than what was lost before
  pub year_undrained : (unconverted e.plan t ≡ false → drainage_level row ≤ e.oxidised + e.burned) → year_loss h rows c e t ≡ no_loss
  year_undrained p =
      let most = mm_level (e.oxidised + e.burned) p (omega arith) in
      loss_none (ap₂ (λ (o b : ℕ). record { oxidised = o; burned = b }) (omega (arith, most)) (omega (arith, most)))

  -- by the limits of a valid listing: no more than 2,046 mm are lost, no more than 1,023 mm of them burned
  module _ (head : HeadValid h) (cell : CellValid h.strata h.horizon c) (valid : (s a : ℕ) → RowValid (rows s a)) where
    mm_most : ((year_mm h rows c e t).oxidised + (year_mm h rows c e t).burned ≤ 2046) × ((year_mm h rows c e t).burned ≤ 1023)
    mm_most =
        mm_is (λ (m : LostMm). (m.oxidised + m.burned ≤ 2046) × (m.burned ≤ 1023)) (λ q. (omega arith, omega arith))
        (λ q. let m = mm_least h c row e in let r = valid c.stratum (age e.plan t) in (omega arith, omega arith))

    pub year_kg_most : (year_loss h rows c e t).kg ≤ most_line
    unfolding year_loss
    year_kg_most =
        let m = year_mm h rows c e t in
        omega (arith, emission_more h c e.oxidised e.burned m.oxidised m.burned most_line (dividend_most head cell m.oxidised m.burned mm_most.0 mm_most.1))

-- ---- the year depends on five figures of the head, the cell, its entry and its own row
pub same_figures : {h h' : Head} → h ≡ h' → SameFigures h h'
same_figures p = rw p (record { guard = refl; thickness = refl; char = refl; warming = refl; methane = refl })

module _ {h h' : Head} (figures : SameFigures h h') (c : Cell) (e : Entry) where
  inactive_same : (t : ℕ) → inactive h c e t ≡ inactive h' c e t
  unfolding inactive
  inactive_same t = rw figures.thickness

  mm_same : (r : Row) → mm_of h c r e ≡ mm_of h' c r e
  unfolding mm_of
  mm_same r = rw figures.guard

  pub emission_same : (o b : ℕ) → emission h c o b ≡ emission h' c o b
  unfolding emission burned_weight
  emission_same o b = rw (figures.char, figures.warming, figures.methane)

  module _ (rows rows' : ℕ → ℕ → Row) (t : ℕ) (same : unconverted e.plan t ≡ false → rows c.stratum (age e.plan t) ≡ rows' c.stratum (age e.plan t)) where
    pub mm_by_figures : year_mm h rows c e t ≡ year_mm h' rows' c e t
    mm_by_figures =
        mm_is h rows c e t (λ (m : LostMm). m ≡ year_mm h' rows' c e t)
        (λ q. sym (mm_inactive h' rows' c e t (sym (inactive_same t) ∙ q)))
        (λ q. mm_same _ ∙ ap (λ (r : Row). mm_of h' c r e) (same (active h c e t q).0) ∙ sym (mm_active h' rows' c e t (sym (inactive_same t) ∙ q)))

    pub loss_by_figures : year_loss h rows c e t ≡ year_loss h' rows' c e t
    unfolding year_loss
    loss_by_figures =
        let m = year_mm h' rows' c e t in
        rw (mm_by_figures, emission_same (e.oxidised + m.oxidised) (e.burned + m.burned), emission_same e.oxidised e.burned)
