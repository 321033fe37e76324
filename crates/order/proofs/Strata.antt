-- The test of logged blocks answers the same in any order of the strata. Assumes nothing.
use mathlib.Core.Path.{◌≡◌, refl, sym, ap, ap₂, ◌∙◌}
use mathlib.Core.Bool.{Bool, true, false}
use mathlib.Core.List.{List, [], ◌∷◌}
use Prim.Native.Nat.{ℕ, ◌+◌, ◌-◌, ◌*◌, ◌/◌, ◌%◌, ◌<◌, ◌≤◌}
use native.Mathlib.Nat.{div-lt_iff_lt-mul, mod-lt, mul_comm}
use native.Mathlib.Omega.{arith}
use Rattle.std.proofs.lemmas.Nat.{div-add-mod'}
use lib.ListN.{length, get_or}
use Rattle.words.specs.Answers.{Answer}
use Rattle.words.specs.Blocks.{blocks}
use Rattle.words.proofs.Blocks.{length_blocks, block_word}
use Rattle.words.proofs.Answers.{cond_both, need_both, need_accepted}
use Rattle.words.proofs.Sums.{sum_same}
use Rattle.sums.specs.Sums.{all_at_most}
use Rattle.sums.proofs.Meaning.{all_at, all_by}
use Rattle.logging.specs.declared.LoggedFigures.{LoggedFigures}
use Rattle.logging.specs.Logging.{average, left_side, right_side, density, area, discount, figures_of, sizes_valid, values_valid, most_value, tables_checked, logged, Equations}
use Rattle.logging.proofs.Bounds.{sizes}
use Rattle.logging.proofs.Equations.{every_equation, same_figures}
use Rattle.order.specs.Order.{Order}
use Rattle.order.specs.Strata.{TableMoved, EveryTable, EveryStrataOrder}
use Rattle.order.proofs.Moved.{from_within, to_within, same_sum}

-- two tests that hold together
both_or_neither : (b c : Bool) → (b ≡ true → c ≡ true) → (c ≡ true → b ≡ true) → b ≡ c
both_or_neither true c f g = sym (f refl)
both_or_neither false true f g = g refl
both_or_neither false false f g = refl

-- ---- one table

-- what bounds a table's values bounds those of another that has them in another place of the same row
bounded : (most n rows : ℕ) (x y : List ℕ) (from : ℕ → ℕ) → ((m : ℕ) → m < n → from m < n) → ((t m : ℕ) → t < rows → m < n → get_or y (t * n + m) 0 ≡ get_or x (t * n + from m) 0) →
    1 ≤ n → length x ≡ rows * n → length y ≡ rows * n → all_at_most most x ≡ true → all_at_most most y ≡ true
bounded most n rows x y from within value low sized sized' h =
    all_by most y
    (λ k lt.
    let year : k / n < rows = (div-lt_iff_lt-mul low).1 (omega arith) in
    let stratum : k % n < n = mod-lt k low in
    let same = ap (λ (i : ℕ). get_or y i 0) (sym (div-add-mod' k n)) ∙ value (k / n) (k % n) year stratum in
    omega (arith, same, all_at most x (k / n * n + from (k % n)) h))

same_valid : {n : ℕ} {o : Order n} {rows : ℕ} {x y : List ℕ} → TableMoved o rows x y → 1 ≤ n → length x ≡ rows * n → values_valid y ≡ values_valid x
same_valid {n} {o} {rows} {x} {y} e low sized =
    let sized' = e.length_is ∙ sized in
    let back : (t m : ℕ) → t < rows → m < n → get_or x (t * n + m) 0 ≡ get_or y (t * n + o.to m) 0 = λ t m h k.
    ap (λ (i : ℕ). get_or x (t * n + i) 0) (sym (o.back m)) ∙ sym (e.value t (o.to m) h (to_within o m k)) in
    both_or_neither _ _ (bounded most_value n rows y x o.to (to_within o) back low sized' sized) (bounded most_value n rows x y o.from (from_within o) e.value low sized sized')

-- one made row by row
pub every_table : EveryTable
every_table n o rows x sized =
    let row : ℕ → List ℕ = λ t. blocks (λ m. get_or x (t * n + o.from m) 0 ∷ []) n in
    let long : (t : ℕ) → length (row t) ≡ n = λ t. length_blocks 1 (λ m. get_or x (t * n + o.from m) 0 ∷ []) (λ m. refl) n ∙ (omega arith) in
    record {
      table = blocks row rows;
      moved =
          record {
            length_is = length_blocks n row long rows ∙ mul_comm n rows ∙ sym sized;
            value = λ t m h k.
                let e : t * n + m ≡ n * t + m = omega (arith, mul_comm t n) in
                let e' : m ≡ 1 * m + 0 = omega arith in
                ap (λ (i : ℕ). get_or (blocks row rows) i 0) e
                ∙ block_word n row long rows t m h k
                ∙ ap (λ (i : ℕ). get_or (row t) i 0) e'
                ∙ block_word 1 (λ i. get_or x (t * n + o.from i) 0 ∷ []) (λ i. refl) n m 0 k (omega arith);
          };
    }

-- ---- the three tables

module _ {T n : ℕ} {o : Order n} {densities areas discounts densities' areas' discounts' : List ℕ}
    (c : TableMoved o (T + 1) densities densities') (a : TableMoved o T areas areas') (u : TableMoved o 1 discounts discounts') where
  sized : sizes_valid T n (length densities') (length areas') (length discounts') ≡ sizes_valid T n (length densities) (length areas) (length discounts)
  sized = rw (c.length_is, a.length_is, u.length_is)

  -- u(i), and C(t, i) × u(i)
  same_discount : (m : ℕ) → m < n → discount discounts' m ≡ discount discounts (o.from m)
  same_discount m h =
      let e : 0 * n + m ≡ m = omega arith in
      let e' : 0 * n + o.from m ≡ o.from m = omega arith in
      ap (λ (i : ℕ). get_or discounts' i 0) (sym e) ∙ u.value 0 m (omega arith) h ∙ ap (λ (i : ℕ). get_or discounts i 0) e'

  same_discounted : (t m : ℕ) → t < T + 1 → m < n → density n densities' t m * discount discounts' m ≡ density n densities t (o.from m) * discount discounts (o.from m)
  same_discounted t m h k = ap₂ (λ (x y : ℕ). x * y) (c.value t m h k) (same_discount m k)

  same_area : (t m : ℕ) → t < T → m < n → area n areas' (t + 1) m ≡ area n areas (t + 1) (o.from m)
  same_area t m h k =
      let e : t + 1 - 1 ≡ t = omega arith in
      ap (λ (y : ℕ). get_or areas' (y * n + m) 0) e ∙ a.value t m h k ∙ ap (λ (y : ℕ). get_or areas (y * n + o.from m) 0) (sym e)

  module _ (s : sizes_valid T n (length densities) (length areas) (length discounts) ≡ true) where
    was : Equations T n densities areas discounts
    was = every_equation T n densities areas discounts s

    now : Equations T n densities' areas' discounts'
    now = every_equation T n densities' areas' discounts' (sized ∙ s)

    same_stock : (average T densities' discounts').numerator ≡ (average T densities discounts).numerator
    same_stock = now.stock ∙ sum_same _ _ (T + 1) (λ t h. same_sum o _ _ (λ m k. same_discounted t m h k)) ∙ sym was.stock

    same_left : (left_side T densities' areas' discounts').numerator ≡ (left_side T densities areas discounts).numerator
    same_left =
        now.left
        ∙ sum_same _ _ T (λ t h. same_sum o _ _ (λ m k. ap₂ (λ (x y : ℕ). x * y) (same_area t m h k) (same_discounted (t + 1) m (omega arith) k)))
        ∙ sym was.left

    same_right : (right_side areas' (average T densities' discounts')).numerator ≡ (right_side areas (average T densities discounts)).numerator
    same_right = now.right ∙ sum_same _ _ T (λ t h. same_sum o _ _ (λ m k. ap₂ (λ (x y : ℕ). x * y) (same_area t m h k) same_stock)) ∙ sym was.right

    same : figures_of T densities' areas' discounts' ≡ figures_of T densities areas discounts
    same = same_figures T densities areas discounts densities' areas' discounts' same_stock same_left same_right

-- ---- the call

pub every_strata_order : EveryStrataOrder
unfolding tables_checked logged
every_strata_order T n o densities areas discounts densities' areas' discounts' c a u =
    ap₂ (λ (x : Answer) (y : LoggedFigures). record { answer = x; figures = y }) checked
    (cond_both (λ x y. x ≡ y) _ _ _ _ _ _ (ap (λ (x : Answer). x.done) checked) (λ e. same c a u (need_accepted _ _ _ _ (sym (ap (λ (x : Answer). x.done) checked) ∙ e)).0) (λ e. refl))
  where
    checked : tables_checked T n densities' areas' discounts' ≡ tables_checked T n densities areas discounts
    checked =
        need_both (λ x y. x ≡ y) _ _ _ _ _ _ _ (sized c a u) refl
        (λ e.
        let s = sizes T n _ _ _ (sym (sized c a u) ∙ e) in
        need_both (λ x y. x ≡ y) _ _ _ _ _ _ _ (same_valid c s.strata_from s.densities_length) refl
        (λ e₁. need_both (λ x y. x ≡ y) _ _ _ _ _ _ _ (same_valid a s.strata_from s.areas_length) refl
        (λ e₂. need_both (λ x y. x ≡ y) _ _ _ _ _ _ _ (same_valid u s.strata_from (omega (arith, s.discounts_length))) refl
        (λ e₃. refl))))
