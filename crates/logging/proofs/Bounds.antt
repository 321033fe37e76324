-- The tables of the test, where none is refused: their lengths, their values by index, and what their sums are at most. Assumes nothing.
use mathlib.Core.Path.{◌≡◌, refl, sym, ap, subst, subst⁻¹, ◌∙◌}
use mathlib.Core.Bool.{true}
use mathlib.Core.List.{List, ◌++◌, append_assoc, append-nil}
use Prim.Native.Nat.{ℕ, zero, suc, ◌+◌, ◌-◌, ◌*◌, ◌/◌, ◌%◌, ◌<◌, ◌≤◌}
use native.Mathlib.Nat.{div-lt_iff_lt-mul, mod-lt, mul_comm, mul-le-mul, mul-le-mul_right}
use native.Mathlib.Omega.{arith}
use Rattle.std.proofs.lemmas.List.{take_all}
use Rattle.std.proofs.lemmas.Nat.{div-add-mod'}
use mir.Val.{Fits}
use mir.Syntax.{w32, w64}
use lib.ListN.{length, get_or, take, drop, replicate, length-drop}
use lib.Seq.{drop_at}
use native.Mathlib.Numerals.{add-one}
use Rattle.std.proofs.lemmas.Bool.Decides.{nat_tests}
use Rattle.words.specs.Bits.{within}
use Rattle.words.proofs.Answers.{need_accepted}
use Rattle.words.proofs.Blocks.{length_blocks, block_word}
use Rattle.sums.specs.Sums.{weighted, products, sum, all_at_most}
use Rattle.sums.proofs.Meaning.{weighted_ones, weighted_le, sum_le, all_at, all_by}
use Rattle.sums.proofs.Tables.{length_products, product_at, drop_products, take_at_most, drop_at_most, sum_products}
use Rattle.logging.specs.Logging.{each_year, average, from_year_1, left_side, most_years, most_value, values_valid, sizes_valid, tables_checked}
use Rattle.logging.specs.Bounds.{Sizes, Accepted, Discounted, most_densities, most_areas, most_stock, most_area, most_left}

-- ---- sizes and values that are not refused

pub sizes : (T strata densities areas discounts : ℕ) → sizes_valid T strata densities areas discounts ≡ true → Sizes T strata densities areas discounts
unfolding sizes_valid within
sizes T strata densities areas discounts h =
    record {
      years_from = grind (arith, nat_tests);
      years_to = grind (arith, nat_tests);
      strata_from = grind (arith, nat_tests);
      strata_to = grind (arith, nat_tests);
      densities_length = grind (arith, nat_tests);
      areas_length = grind (arith, nat_tests);
      discounts_length = grind (arith, nat_tests);
    }

-- and with it tables that pass every test
pub accepted_by : (T strata : ℕ) (densities areas discounts : List ℕ) → (tables_checked T strata densities areas discounts).done ≡ true → Accepted T densities areas discounts
unfolding tables_checked
accepted_by T strata densities areas discounts h =
    let first = need_accepted _ _ _ _ h in
    let second = need_accepted _ _ _ _ first.1 in
    let third = need_accepted _ _ _ _ second.1 in
    let s = sizes _ _ _ _ _ first.0 in
    record {
      sizes = subst (λ (n : ℕ). Sizes T n (length densities) (length areas) (length discounts)) (sym s.discounts_length) s;
      densities_valid = second.0;
      areas_valid = third.0;
      discounts_valid = (need_accepted _ _ _ _ third.1).0;
    }

-- ---- sums

-- a plain sum is the weighted one by as many ones, and more
pub weighted_by_ones : (v : List ℕ) → length v ≤ most_densities → weighted (replicate most_densities 1) v ≡ sum v
weighted_by_ones v h = weighted_ones most_densities v h

-- it fits, whatever the 32-bit values are
pub ones_fit : (v : List ℕ) → length v ≤ most_densities → ((i : ℕ) → Fits w32 (get_or v i 0)) → Fits w64 (weighted (replicate most_densities 1) v)
ones_fit v h fits = rw (weighted_by_ones v h) (omega (arith, sum_le 4294967295 v (all_by 4294967295 v (λ i lt. let f = fits i in omega arith))))

-- what sums over the values of tables are at most
pub stock_le : (v : List ℕ) → all_at_most (most_value * most_value) v ≡ true → length v ≤ most_densities → sum v ≤ most_stock
stock_le v h l = omega (arith, sum_le (most_value * most_value) v h, mul-le-mul_right (most_value * most_value) l)

pub area_le : (v : List ℕ) → values_valid v ≡ true → length v ≤ most_areas → sum v ≤ most_area
area_le v h l = omega (arith, sum_le most_value v h)

pub left_le : (w v : List ℕ) → values_valid w ≡ true → all_at_most (most_value * most_value) v ≡ true → length v ≤ length w → length w ≤ most_areas → weighted w v ≤ most_left
left_le w v hw hv l m = omega (arith, weighted_le most_value (most_value * most_value) w v hw hv)

-- what is left of a list from index k on
pub rest_all : (k : ℕ) (v : List ℕ) → take (length v - k) (drop k v) ≡ drop k v
rest_all k v = take_all _ _ (rw length-drop (omega arith))

-- ---- the discounts of each year

pub length_each_year : (years : ℕ) (u : List ℕ) → length (each_year years u) ≡ years * length u
length_each_year years u = length_blocks (length u) (λ t. u) (λ i. refl) years ∙ mul_comm (length u) years

-- that of stratum i in year t
pub each_year_at : (years : ℕ) (u : List ℕ) (t i : ℕ) → t < years → i < length u → get_or (each_year years u) (t * length u + i) 0 ≡ get_or u i 0
each_year_at years u t i h k =
    let e : t * length u + i ≡ length u * t + i = omega (arith, mul_comm t (length u)) in
    ap (λ (n : ℕ). get_or (each_year years u) n 0) e ∙ block_word (length u) (λ n. u) (λ n. refl) years t i h k

-- the same with stratum after stratum and year after year in one index
pub each_year_by : (years : ℕ) (u : List ℕ) (k : ℕ) → 1 ≤ length u → k < years * length u → get_or (each_year years u) k 0 ≡ get_or u (k % length u) 0
each_year_by years u k low h =
    let year : k / length u < years = (div-lt_iff_lt-mul low).1 h in
    let e : k ≡ k / length u * length u + k % length u = sym (div-add-mod' k (length u)) in
    ap (λ (n : ℕ). get_or (each_year years u) n 0) e ∙ each_year_at years u (k / length u) (k % length u) year (mod-lt k low)

-- without those of the first year
each_year_later : (years : ℕ) (u : List ℕ) → drop (length u) (each_year (years + 1) u) ≡ each_year years u
each_year_later years u = rw (add-one years) (ap (drop (length u)) (first years) ∙ drop_at u _ (length u) refl)
  where
    first : (n : ℕ) → each_year (suc n) u ≡ u ++ each_year n u
    first zero = sym (append-nil u)
    first (suc n) = ap (λ (x : List ℕ). x ++ u) (first n) ∙ append_assoc u (each_year n u) u

-- ---- the discounted densities of tables that are not refused

module _ {T : ℕ} {densities areas discounts : List ℕ} (a : Accepted T densities areas discounts) where
  abbrev pub discounted : List ℕ
  discounted = products (each_year (T + 1) discounts) densities

  lengths : length (each_year (T + 1) discounts) ≡ length densities
  lengths = length_each_year (T + 1) discounts ∙ sym a.sizes.densities_length

  pub length_discounted : length discounted ≡ length densities
  length_discounted = length_products _ densities lengths

  -- the one at k
  pub discounted_at : (k : ℕ) → k < length densities → get_or densities k 0 * get_or discounts (k % length discounts) 0 ≡ get_or discounted k 0
  discounted_at k h =
      let e = each_year_by (T + 1) discounts k a.sizes.strata_from (rw a.sizes.densities_length at h) in
      mul_comm (get_or densities k 0) _ ∙ ap (λ (x : ℕ). x * get_or densities k 0) (sym e) ∙ sym (product_at (each_year (T + 1) discounts) densities k (rw lengths h) h)

  -- any density times any discount
  product_le : (k i : ℕ) → get_or densities k 0 * get_or discounts i 0 ≤ most_value * most_value
  product_le k i = mul-le-mul (all_at most_value densities k a.densities_valid) (all_at most_value discounts i a.discounts_valid)

  pub discounted_fits : (k i : ℕ) → Fits w32 (get_or densities k 0 * get_or discounts i 0)
  discounted_fits k i = omega (arith, product_le k i)

  discounted_valid : all_at_most (most_value * most_value) discounted ≡ true
  discounted_valid = all_by (most_value * most_value) discounted (λ k lt. rw (← discounted_at k (rw length_discounted at lt)) (product_le k (k % length discounts)))

  pub densities_le : length densities ≤ most_densities
  densities_le =
      let years = a.sizes.years_to in
      let up : T + 1 ≤ most_years + 1 = omega arith in
      omega (arith, mul-le-mul up a.sizes.strata_to, a.sizes.densities_length)

  pub areas_le : length areas ≤ most_areas
  areas_le = let most : T * length discounts ≤ most_areas = mul-le-mul a.sizes.years_to a.sizes.strata_to in omega (arith, most, a.sizes.areas_length)

  pub stock_is : sum discounted ≡ (average T densities discounts).numerator
  stock_is = sum_products (each_year (T + 1) discounts) densities

  -- those of years 1 to T
  pub left_is : weighted areas (drop (length discounts) discounted) ≡ (left_side T densities areas discounts).numerator
  left_is =
      ap (weighted areas)
      (drop_products (length discounts) (each_year (T + 1) discounts) densities
      ∙ ap (λ (w : List ℕ). products w (from_year_1 (length discounts) densities)) (each_year_later T discounts))

  pub discounted_by : (v : List ℕ) → v ≡ discounted → Discounted T densities discounts v
  discounted_by v e = subst⁻¹ (Discounted T densities discounts) e (record { products_are = refl; length_is = length_discounted; at_most = discounted_valid })

-- what the needs of the sums are found from
pub ruleset bounds = (take_at_most, drop_at_most, densities_le, areas_le, stock_le, area_le, left_le)
