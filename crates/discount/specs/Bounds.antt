-- What the contracts of private functions cite, and no contract of the call: lists that are not refused, and what their sums are at most.
use Rattle.std.specs.Prelude.{ℕ, ◌*◌, ◌≤◌, ◌≡◌, Bool, true, false, ◌&&◌, List, leb, length}
use Rattle.sums.specs.Sums.{sum}
use Rattle.discount.specs.Discount.{square, values_valid, most_pools, most_value}

-- a list that is not refused
pub record Bounded (values : List ℕ) : Type 0 where
  pub length_at_most : length values ≤ most_pools
  pub values_at_most : values_valid values ≡ true

-- what the sum of such a list, and of its squares, is at most
abbrev pub most_stock : ℕ
most_stock = most_pools * most_value

abbrev pub most_squares : ℕ
most_squares = most_pools * square most_value

-- what a root is taken of is below 10,000 squared
abbrev pub root_limit : ℕ
root_limit = square 10000

-- the values of one pool in the four lists
unfoldable pub pool_valid : ℕ → ℕ → ℕ → ℕ → Bool
pool_valid a b c d = leb a most_value && leb b most_value && leb c most_value && leb d most_value

-- four lists of which one is refused by its values: the last, unless one before it is
pub record TooLarge (a b c d : List ℕ) : Type 0 where
  pub last : values_valid a ≡ true → values_valid b ≡ true → values_valid c ≡ true → values_valid d ≡ false

-- four lists of which none is refused, with the sums of the last two
pub record StockSums (a b c d : List ℕ) (first second : ℕ) : Type 0 where
  pub first_widths : Bounded a
  pub second_widths : Bounded b
  pub first_stocks : Bounded c
  pub second_stocks : Bounded d
  pub first_is : first ≡ sum c
  pub second_is : second ≡ sum d
