-- What the contracts of private functions cite, and no contract of the call: tables that are not refused, and what their sums are at most.
use Rattle.std.specs.Prelude.{ℕ, ◌+◌, ◌*◌, ◌≤◌, ◌≡◌, true, List, length}
use Rattle.sums.specs.Sums.{products, all_at_most}
use Rattle.logging.specs.Logging.{each_year, most_years, most_strata, most_value, values_valid}

-- sizes that are not refused: T, the number of strata, and the lengths of the three tables
pub record Sizes (T strata densities areas discounts : ℕ) : Type 0 where
  pub years_from : 1 ≤ T
  pub years_to : T ≤ most_years
  pub strata_from : 1 ≤ strata
  pub strata_to : strata ≤ most_strata
  pub densities_length : densities ≡ (T + 1) * strata
  pub areas_length : areas ≡ T * strata
  pub discounts_length : discounts ≡ strata

-- tables that are not refused; as many strata as there are discounts
pub record Accepted (T : ℕ) (densities areas discounts : List ℕ) : Type 0 where
  pub sizes : Sizes T (length discounts) (length densities) (length areas) (length discounts)
  pub densities_valid : values_valid densities ≡ true
  pub areas_valid : values_valid areas ≡ true
  pub discounts_valid : values_valid discounts ≡ true

-- the most densities and areas
abbrev pub most_densities : ℕ
most_densities = (most_years + 1) * most_strata

abbrev pub most_areas : ℕ
most_areas = most_years * most_strata

-- what the sum of discounted densities, that of areas and that of areas by discounted densities are at most
abbrev pub most_stock : ℕ
most_stock = most_densities * (most_value * most_value)

abbrev pub most_area : ℕ
most_area = most_areas * most_value

abbrev pub most_left : ℕ
most_left = most_areas * (most_value * (most_value * most_value))

-- the discounted densities of such tables, of years 0 to T
pub record Discounted (T : ℕ) (densities discounts discounted : List ℕ) : Type 0 where
  pub products_are : discounted ≡ products (each_year (T + 1) discounts) densities
  pub length_is : length discounted ≡ length densities
  pub at_most : all_at_most (most_value * most_value) discounted ≡ true
