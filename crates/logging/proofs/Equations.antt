-- That the definitions are EQ34 and EQ48, by year and stratum, and that their test needs no quotient. Assumes nothing.
use mathlib.Core.Path.{◌≡◌, sym, ap, ap₂, ◌∙◌}
use mathlib.Core.Bool.{Bool}
use mathlib.Core.List.{List, map}
use Rattle.std.proofs.lemmas.List.{length-map, get_or-map}
use Prim.Native.Nat.{ℕ, ◌+◌, ◌-◌, ◌*◌, ◌/◌, ◌<◌}
use native.Mathlib.Nat.{mul_comm}
use native.Mathlib.Omega.{arith}
use lib.Dec.{leb}
use lib.ListN.{length, get_or, length-drop}
use lib.Seq.{get_or-drop}
use borrow.Author.Tests.{le-leb, lt-leb}
use Rattle.words.specs.Sums.{sum_below}
use Rattle.words.proofs.Signed.{by_less}
use Rattle.words.proofs.Steps.{row_within}
use Rattle.words.proofs.Sums.{sum_same}
use Rattle.sums.specs.Sums.{weighted, products, sum}
use Rattle.sums.proofs.Tables.{weighted_by_one, weighted_rows, length_products, product_at}
use Rattle.logging.specs.declared.LoggedFigures.{LoggedFigures}
use Rattle.logging.specs.Logging.{each_year, average, from_year_1, left_side, right_side, at_least, figures_of, density, area, discount, EveryEquation}
use Rattle.logging.specs.Bounds.{Sizes}
use Rattle.logging.proofs.Bounds.{sizes, length_each_year, each_year_at}

-- a comparison times 10,000
leb_times : (x y : ℕ) → leb (x * 10000) (y * 10000) ≡ leb x y
leb_times x y =
    by_less y x
    (λ lt. lt-leb (x * 10000) (y * 10000) (omega arith) ∙ sym (lt-leb x y lt))
    (λ le. le-leb (x * 10000) (y * 10000) (omega arith) ∙ sym (le-leb x y le))

-- the right side: the average's part of all areas
pub right_is : (T : ℕ) (densities areas discounts : List ℕ) → (right_side areas (average T densities discounts)).numerator ≡ sum areas * (average T densities discounts).numerator
right_is T densities areas discounts = weighted_by_one (average T densities discounts).numerator areas

-- both sides times 10,000 and T
pub exactly : (T : ℕ) (densities areas discounts : List ℕ) →
    at_least (left_side T densities areas discounts) (right_side areas (average T densities discounts))
    ≡ leb (sum areas * (average T densities discounts).numerator) (T * (left_side T densities areas discounts).numerator)
exactly T densities areas discounts =
    let stock = (average T densities discounts).numerator in
    let left = (left_side T densities areas discounts).numerator in
    let e : left * (10000 * T) ≡ T * left * 10000 = omega (arith, mul_comm T left) in
    ap (λ (x : ℕ). leb (x * 10000) (left * (10000 * T))) (right_is T densities areas discounts)
    ∙ ap (leb (sum areas * stock * 10000)) e
    ∙ leb_times (sum areas * stock) (T * left)

-- so the figures by the sums are those of the equations
pub figures_by : (T : ℕ) (densities areas discounts : List ℕ) (stock area left : ℕ) (figures : LoggedFigures) → stock ≡ (average T densities discounts).numerator → area ≡ sum areas →
    left ≡ (left_side T densities areas discounts).numerator → figures.average ≡ stock / (10000 * T) → figures.holds ≡ leb (area * stock) (T * left) → figures ≡ figures_of T densities areas discounts
unfolding figures_of
figures_by T densities areas discounts stock area left figures e₁ e₂ e₃ a h =
    ap₂ (λ (n : ℕ) (b : Bool). record { average = n; holds = b }) (rw e₁ at a) (rw (e₁, e₂, e₃) at h ∙ sym (exactly T densities areas discounts))

-- ---- by year and stratum

module _ (T strata : ℕ) (densities areas discounts : List ℕ) (s : Sizes T strata (length densities) (length areas) (length discounts)) where
  -- an index lies within its table
  inside : (rows t i : ℕ) → t < rows → i < strata → t * strata + i < rows * strata
  inside rows t i h k = omega (arith, row_within t rows strata h)

  each_length : (years : ℕ) → length (each_year years discounts) ≡ years * strata
  each_length years = length_each_year years discounts ∙ ap (λ (n : ℕ). years * n) s.discounts_length

  -- u(i)
  at : (years t i : ℕ) → t < years → i < strata → get_or (each_year years discounts) (t * strata + i) 0 ≡ discount discounts i
  at years t i h k =
      ap (λ (n : ℕ). get_or (each_year years discounts) (t * n + i) 0) (sym s.discounts_length) ∙ each_year_at years discounts t i h (omega (arith, s.discounts_length))

  stock_by_year : (average T densities discounts).numerator ≡ sum_below (λ t. sum_below (λ i. density strata densities t i * discount discounts i) strata) (T + 1)
  stock_by_year =
      weighted_rows strata (T + 1) (each_year (T + 1) discounts) densities (each_length (T + 1)) s.densities_length
      ∙ sum_same _ _ (T + 1) (λ t h. sum_same _ _ strata (λ i k. ap (λ (u : ℕ). u * density strata densities t i) (at (T + 1) t i h k) ∙ mul_comm (discount discounts i) _))

  -- the densities of years 1 to T
  later_length : length (from_year_1 (length discounts) densities) ≡ T * strata
  later_length = let split : (T + 1) * strata ≡ T * strata + strata = omega arith in rw length-drop (omega (arith, s.densities_length, s.discounts_length, split))

  later_at : (t i : ℕ) → get_or (from_year_1 (length discounts) densities) (t * strata + i) 0 ≡ density strata densities (t + 1) i
  later_at t i =
      let e : length discounts + (t * strata + i) ≡ (t + 1) * strata + i = omega (arith, s.discounts_length) in
      get_or-drop (length discounts) densities (t * strata + i) 0 ∙ ap (λ (k : ℕ). get_or densities k 0) e

  discounted_by_year : (t i : ℕ) → t < T → i < strata →
      get_or (products (each_year T discounts) (from_year_1 (length discounts) densities)) (t * strata + i) 0 ≡ density strata densities (t + 1) i * discount discounts i
  discounted_by_year t i h k =
      let lt = inside T t i h k in
      product_at (each_year T discounts) (from_year_1 (length discounts) densities) (t * strata + i) (omega (arith, lt, each_length T)) (omega (arith, lt, later_length))
      ∙ ap₂ (λ (u c : ℕ). u * c) (at T t i h k) (later_at t i)
      ∙ mul_comm (discount discounts i) _

  -- area(t, i), and beside it a value for each year and stratum
  area_at : (t i : ℕ) → get_or areas (t * strata + i) 0 ≡ area strata areas (t + 1) i
  area_at t i = let e : t ≡ t + 1 - 1 = omega arith in ap (λ (n : ℕ). get_or areas (n * strata + i) 0) e

  by_year : (values : List ℕ) (f : ℕ → ℕ → ℕ) → length values ≡ T * strata → ((t i : ℕ) → t < T → i < strata → get_or values (t * strata + i) 0 ≡ f t i) →
      weighted areas values ≡ sum_below (λ t. sum_below (λ i. area strata areas (t + 1) i * f t i) strata) T
  by_year values f sized value =
      weighted_rows strata T areas values s.areas_length sized ∙ sum_same _ _ T (λ t h. sum_same _ _ strata (λ i k. ap₂ (λ (x y : ℕ). x * y) (area_at t i) (value t i h k)))

  left_by_year :
      (left_side T densities areas discounts).numerator
      ≡ sum_below (λ t. sum_below (λ i. area strata areas (t + 1) i * (density strata densities (t + 1) i * discount discounts i)) strata) T
  left_by_year = by_year _ _ (length_products (each_year T discounts) (from_year_1 (length discounts) densities) (each_length T ∙ sym later_length) ∙ later_length) discounted_by_year

  right_by_year : (p : ℕ) → weighted areas (map (λ area. p) areas) ≡ sum_below (λ t. sum_below (λ i. area strata areas (t + 1) i * p) strata) T
  right_by_year p = by_year _ (λ t i. p) (length-map areas _ ∙ s.areas_length) (λ t i h k. get_or-map (λ area. p) areas (t * strata + i) 0 0 (omega (arith, inside T t i h k, s.areas_length)))

pub every_equation : EveryEquation
unfolding figures_of
every_equation T strata densities areas discounts h =
    let s = sizes _ _ _ _ _ h in
    record {
      stock = stock_by_year T strata densities areas discounts s;
      answered = ap (λ (x : ℕ). x / (10000 * T)) (stock_by_year T strata densities areas discounts s);
      left = left_by_year T strata densities areas discounts s;
      right = right_by_year T strata densities areas discounts s (average T densities discounts).numerator;
      exactly = exactly T densities areas discounts;
    }

-- the figures of two sets of tables of T years, where the three sums are the same
pub same_figures : (T : ℕ) (densities areas discounts densities' areas' discounts' : List ℕ) →
    (average T densities' discounts').numerator ≡ (average T densities discounts).numerator →
    (left_side T densities' areas' discounts').numerator ≡ (left_side T densities areas discounts).numerator →
    (right_side areas' (average T densities' discounts')).numerator ≡ (right_side areas (average T densities discounts)).numerator →
    figures_of T densities' areas' discounts' ≡ figures_of T densities areas discounts
unfolding figures_of
same_figures T densities areas discounts densities' areas' discounts' stock left right =
    ap₂ (λ (n : ℕ) (b : Bool). record { average = n; holds = b }) (ap (λ (x : ℕ). x / (10000 * T)) stock) (ap₂ (λ (x y : ℕ). leb (x * 10000) (y * (10000 * T))) right left)
