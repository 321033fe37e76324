-- Of logged blocks: the answer does not depend on the order of the strata. `EveryTable` and `EveryStrataOrder` are proved in proofs/Strata.antt.
use Rattle.std.specs.Prelude.{◌≡◌, List, ℕ, ◌+◌, ◌*◌, ◌<◌, length, get_or}
use Rattle.logging.specs.Logging.{logged}
use Rattle.order.specs.Order.{Order}

-- y has the strata of table x in that order: a row is a year, n values, one for each stratum
pub record TableMoved {n : ℕ} (o : Order n) (rows : ℕ) (x y : List ℕ) : Type 0 where
  pub length_is : length y ≡ length x
  pub value : (t m : ℕ) → t < rows → m < n → get_or y (t * n + m) 0 ≡ get_or x (t * n + o.from m) 0

-- each table has one in that order
pub record InOrder {n : ℕ} (o : Order n) (rows : ℕ) (x : List ℕ) : Type 0 where
  pub table : List ℕ
  pub moved : TableMoved o rows x table

abbrev pub EveryTable : Type 0
EveryTable = (n : ℕ) (o : Order n) (rows : ℕ) (x : List ℕ) → length x ≡ rows * n → InOrder o rows x

-- with the strata in another order in all three tables the call answers the same, where it is refused too
abbrev pub EveryStrataOrder : Type 0
EveryStrataOrder =
    (T n : ℕ) (o : Order n) (densities areas discounts densities' areas' discounts' : List ℕ) → TableMoved o (T + 1) densities densities' → TableMoved o T areas areas' →
    TableMoved o 1 discounts discounts' → logged T n densities' areas' discounts' ≡ logged T n densities areas discounts
