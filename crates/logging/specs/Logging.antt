-- Document 02, "Logged blocks": the long-term average carbon stock of EQ34, exact, and the test of EQ48, by which it limits term 4. Densities
-- and the average are "in tenths of t C per ha", areas "in ha", discounts "in ten-thousandths"; T is the number of years.
use Rattle.std.specs.Prelude.{ℕ, ◌+◌, ◌-◌, ◌*◌, ◌/◌, ◌≡◌, Bool, true, false, ◌&&◌, List, map, leb, eqb, length, drop, get_or}
use Rattle.words.specs.Bits.{within}
use Rattle.words.specs.Blocks.{blocks}
use Rattle.words.specs.Sums.{sum_below}
use Rattle.words.specs.Answers.{Answer, AnswerWith, accepted, need, with_figures}
use Rattle.words.specs.Refusals.{logged_sizes, logged_value_too_large}
use Rattle.sums.specs.Sums.{weighted, products, sum, all_at_most}
use Rattle.logging.specs.declared.LoggedFigures.{LoggedFigures}

-- an exact fraction; its denominator is above 0 wherever T is
pub record Fraction : Type 0 where
  pub numerator : ℕ
  pub denominator : ℕ

-- p ≥ q
abbrev pub at_least : Fraction → Fraction → Bool
at_least p q = leb (q.numerator * p.denominator) (p.numerator * q.denominator)

abbrev pub rounded_down : Fraction → ℕ
rounded_down p = p.numerator / p.denominator

-- "a discount for each stratum", once for each of so many years
abbrev pub each_year : ℕ → List ℕ → List ℕ
each_year years discounts = blocks (λ t. discounts) years

-- EQ34: "the sum over years 0 to T and all strata of density × discount, divided by 10,000 × T"
abbrev pub average : ℕ → List ℕ → List ℕ → Fraction
average T densities discounts = record { numerator = weighted (each_year (T + 1) discounts) densities; denominator = 10000 * T }

-- the densities of years 1 to T: those of year 0, one for each stratum, stand before them
abbrev pub from_year_1 : ℕ → List ℕ → List ℕ
from_year_1 strata densities = drop strata densities

-- EQ48 has 44/12 on both sides, which is left out, and sums over the crediting period, which is years 1 to T; its average is the same for each
-- stratum. The left side: "over years 1 to T and all strata, area × discounted density", density × discount / 10,000
abbrev pub left_side : ℕ → List ℕ → List ℕ → List ℕ → Fraction
left_side T densities areas discounts =
    record { numerator = weighted areas (products (each_year T discounts) (from_year_1 (length discounts) densities)); denominator = 10000 }

-- the right side: "area × that one average"
abbrev pub right_side : List ℕ → Fraction → Fraction
right_side areas p = record { numerator = weighted areas (map (λ area. p.numerator) areas); denominator = p.denominator }

-- the average "rounded down in the answer", and "whether its left side is at least its right", by the exact average
unfoldable pub figures_of : ℕ → List ℕ → List ℕ → List ℕ → LoggedFigures
figures_of T densities areas discounts =
    record {
      average = rounded_down (average T densities discounts);
      holds = at_least (left_side T densities areas discounts) (right_side areas (average T densities discounts));
    }

-- ---- the call

-- refusal 21: "T (1 to 100), 1 to 8 strata, carbon densities .. for years 0 to T, areas .. for years 1 to T, and a discount for each stratum"
abbrev pub most_years : ℕ
most_years = 100

abbrev pub most_strata : ℕ
most_strata = 8

unfoldable pub sizes_valid : ℕ → ℕ → ℕ → ℕ → ℕ → Bool
sizes_valid T strata densities areas discounts =
    within 1 most_years T && within 1 most_strata strata && eqb densities ((T + 1) * strata) && eqb areas (T * strata) && eqb discounts strata

-- refusal 22: "Each value is at most 10,000"
abbrev pub most_value : ℕ
most_value = 10000

abbrev pub values_valid : List ℕ → Bool
values_valid values = all_at_most most_value values

-- 21 before 22; lists 0 to 2 are tested one after the other
unfoldable pub tables_checked : ℕ → ℕ → List ℕ → List ℕ → List ℕ → Answer
tables_checked T strata densities areas discounts =
    need (sizes_valid T strata (length densities) (length areas) (length discounts)) logged_sizes 0
    (need (values_valid densities) logged_value_too_large 0
    (need (values_valid areas) logged_value_too_large 1
    (need (values_valid discounts) logged_value_too_large 2
    (accepted 0))))

-- where it is refused, `average` is 0 and `holds` is false
abbrev pub no_figures : LoggedFigures
no_figures = record { average = 0; holds = false }

-- what it answers for any T, number of strata and lists
unfoldable pub logged : ℕ → ℕ → List ℕ → List ℕ → List ℕ → AnswerWith LoggedFigures
logged T strata densities areas discounts = with_figures no_figures (tables_checked T strata densities areas discounts) (figures_of T densities areas discounts)

-- ---- that these are the equations, by year and stratum

-- C(t, i), year t from 0: "Densities and areas stand year after year, in each year stratum after stratum."
abbrev pub density : ℕ → List ℕ → ℕ → ℕ → ℕ
density strata densities t i = get_or densities (t * strata + i) 0

-- area(t, i), year t from 1
abbrev pub area : ℕ → List ℕ → ℕ → ℕ → ℕ
area strata areas t i = get_or areas ((t - 1) * strata + i) 0

-- u(i)
abbrev pub discount : List ℕ → ℕ → ℕ
discount discounts i = get_or discounts i 0

-- EQ34, over years 0 to T, and the two sides of EQ48, over years 1 to T, each over all strata; and the test of EQ48 without a quotient
pub record Equations (T strata : ℕ) (densities areas discounts : List ℕ) : Type 0 where
  pub stock : (average T densities discounts).numerator ≡ sum_below (λ t. sum_below (λ i. density strata densities t i * discount discounts i) strata) (T + 1)
  pub answered :
      (figures_of T densities areas discounts).average
      ≡ sum_below (λ t. sum_below (λ i. density strata densities t i * discount discounts i) strata) (T + 1) / (10000 * T)
  pub left :
      (left_side T densities areas discounts).numerator
      ≡ sum_below (λ t. sum_below (λ i. area strata areas (t + 1) i * (density strata densities (t + 1) i * discount discounts i)) strata) T
  pub right :
      (right_side areas (average T densities discounts)).numerator
      ≡ sum_below (λ t. sum_below (λ i. area strata areas (t + 1) i * (average T densities discounts).numerator) strata) T
  pub exactly :
      (figures_of T densities areas discounts).holds
      ≡ leb (sum areas * (average T densities discounts).numerator) (T * (left_side T densities areas discounts).numerator)

-- of tables that are not refused by 21; proofs/Equations.antt proves it
abbrev pub EveryEquation : Type 0
EveryEquation =
    (T strata : ℕ) (densities areas discounts : List ℕ) → sizes_valid T strata (length densities) (length areas) (length discounts) ≡ true →
    Equations T strata densities areas discounts
