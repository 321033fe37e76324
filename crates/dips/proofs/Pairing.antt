-- The numbers that two rising lists share, by the first of each, and how many there are. Assumes nothing.
use mathlib.Core.Path.{◌≡◌, refl, sym, ap, ap₂, ◌∙◌}
use mathlib.Core.Bool.{Bool, true, false, cond}
use mathlib.Core.List.{List, [], ◌∷◌}
use Prim.Native.Nat.{ℕ, zero, suc, ◌+◌, ◌<◌, ◌≤◌}
use native.Mathlib.Nat.{zero-add}
use native.Mathlib.Omega.{arith}
use lib.Dec.{eqb}
use lib.ListN.{length, drop, get_or}
use borrow.Author.Tests.{ne_eqb, eq-eqb}
use Rattle.std.specs.List.{list_any, filter}
use Rattle.words.specs.Sums.{sum_below}
use Rattle.words.proofs.Sums.{sum_same, sum_split}
use Rattle.words.proofs.Signed.{by_less, by_equal}

-- each number of the list is above d
abbrev pub Above : ℕ → List ℕ → Type 0
Above d [] = d ≤ d
Above d (x ∷ xs) = (d < x) × Above d xs

abbrev pub Rising : List ℕ → Type 0
Rising [] = 0 ≤ 0
Rising (x ∷ xs) = Above x xs × Rising xs

above_less : (c d : ℕ) → c < d → (xs : List ℕ) → Above d xs → Above c xs
above_less c d h [] a = omega arith
above_less c d h (x ∷ xs) a = (omega (arith, a.0), above_less c d h xs a.1)

pub rising_drop : (i : ℕ) (xs : List ℕ) → Rising xs → Rising (drop i xs)
rising_drop zero xs r = r
rising_drop (suc i) [] r = r
rising_drop (suc i) (x ∷ xs) r = rising_drop i xs r.1

-- a list that rises from each place to the next
pub by_places : (xs : List ℕ) → ((k : ℕ) → suc k < length xs → get_or xs k 0 < get_or xs (suc k) 0) → Rising xs
by_places [] h = omega arith
by_places (x ∷ []) h = (omega arith, omega arith)
by_places (x ∷ y ∷ ys) h =
    let rest : Rising (y ∷ ys) = by_places (y ∷ ys) (λ k lt. h (suc k) (omega arith)) in
    let less : x < y = h 0 (omega arith) in
    ((less, above_less x y less ys rest.0), rest)

-- ---- the numbers of xs that are in ys
abbrev pub has : List ℕ → ℕ → Bool
has ys d = list_any (eqb d) ys

abbrev pub both : List ℕ → List ℕ → List ℕ
both xs ys = filter (has ys) xs

above_has : (d : ℕ) (ys : List ℕ) → Above d ys → has ys d ≡ false
above_has d [] a = refl
above_has d (y ∷ ys) a = rw (ne_eqb d y (λ e. omega (arith, a.0)), above_has d ys a.1)

above_both : (y : ℕ) (xs ys : List ℕ) → Above y xs → both xs (y ∷ ys) ≡ both xs ys
above_both y [] ys a = refl
above_both y (x ∷ xs) ys a = rw (ne_eqb x y (λ e. omega (arith, a.0)), above_both y xs ys a.1)

-- ---- by their first numbers
module _ (x y : ℕ) (xs ys : List ℕ) where
  pub first_lower : Rising (y ∷ ys) → x < y → both (x ∷ xs) (y ∷ ys) ≡ both xs (y ∷ ys)
  first_lower r lt = rw (above_has x (y ∷ ys) (lt, above_less x y lt ys r.0))

  pub second_lower : Rising (x ∷ xs) → y < x → both (x ∷ xs) (y ∷ ys) ≡ both (x ∷ xs) ys
  second_lower r lt = above_both y (x ∷ xs) ys (lt, above_less y x lt xs r.0)

  pub same_first : Rising (x ∷ xs) → x ≡ y → both (x ∷ xs) (y ∷ ys) ≡ x ∷ both xs ys
  same_first r e = rw (eq-eqb x y e, above_both y xs ys (rw e at r.0))

pub none_both : (xs : List ℕ) → both xs [] ≡ []
none_both [] = refl
none_both (x ∷ xs) = none_both xs

-- in rising lists they are the numbers of ys that are in xs
pub both_same : (xs ys : List ℕ) → Rising xs → Rising ys → both xs ys ≡ both ys xs
both_same [] ys r s = sym (none_both ys)
both_same (x ∷ xs) ys r s = go (λ ys s. both_same xs ys r.1 s) ys s
  where
    go : ((ys : List ℕ) → Rising ys → both xs ys ≡ both ys xs) → (ys : List ℕ) → Rising ys → both (x ∷ xs) ys ≡ both ys (x ∷ xs)
    go rest [] s = none_both (x ∷ xs)
    go rest (y ∷ ys) s =
        by_less x y (λ lt. first_lower x y xs ys s lt ∙ rest (y ∷ ys) s ∙ sym (second_lower y x ys xs s lt))
        (λ le. by_less y x (λ lt. second_lower x y xs ys r lt ∙ go rest ys s.1 ∙ sym (first_lower y x ys xs r lt))
        (λ le2. let e : x ≡ y = omega arith in same_first x y xs ys r e ∙ ap₂ ◌∷◌ e (rest ys s.1) ∙ sym (same_first y x ys xs s (sym e))))

-- ---- how many there are

sum_cons : (g : ℕ → ℕ) (x : ℕ) (xs : List ℕ) → sum_below (λ i. g (get_or (x ∷ xs) i 0)) (length (x ∷ xs)) ≡ g x + sum_below (λ i. g (get_or xs i 0)) (length xs)
unfolding sum_below
sum_cons g x xs =
    let f = λ (i : ℕ). g (get_or (x ∷ xs) i 0) in
    let n = length xs in
    let more : suc n ≡ 1 + n = omega arith in
    let first : sum_below f 1 ≡ g x = zero-add (g x) in
    let rest : sum_below (λ i. f (1 + i)) n ≡ sum_below (λ i. g (get_or xs i 0)) n =
    sum_same (λ i. f (1 + i)) (λ i. g (get_or xs i 0)) n (λ i lt. let next : 1 + i ≡ suc i = omega arith in ap f next) in
    ap (sum_below f) more ∙ sum_split f 1 n ∙ ap₂ ◌+◌ first rest

-- by the places that pass a test
counted : (p : ℕ → Bool) (xs : List ℕ) → sum_below (λ i. cond (p (get_or xs i 0)) 1 0) (length xs) ≡ length (filter p xs)
unfolding sum_below
counted p [] = refl
counted p (x ∷ xs) = sum_cons (λ d. cond (p d) 1 0) x xs ∙ go (p x) (counted p xs)
  where
    go : (b : Bool) → sum_below (λ i. cond (p (get_or xs i 0)) 1 0) (length xs) ≡ length (filter p xs) →
        cond b 1 0 + sum_below (λ i. cond (p (get_or xs i 0)) 1 0) (length xs) ≡ length (cond b (x ∷ filter p xs) (filter p xs))
    go true e = omega (arith, e)
    go false e = omega (arith, e)

-- of a number in a rising list there is one
one_place : (d : ℕ) (ys : List ℕ) → Rising ys → sum_below (λ j. cond (eqb d (get_or ys j 0)) 1 0) (length ys) ≡ cond (has ys d) 1 0
unfolding sum_below
one_place d [] r = refl
one_place d (y ∷ ys) r =
    sum_cons (λ e. cond (eqb d e) 1 0) y ys
    ∙ by_equal d y (λ same. rw (eq-eqb d y same, one_place d ys r.1, above_has d ys (rw (← same) at r.0)))
    (λ other. rw (ne_eqb d y other, one_place d ys r.1) (zero-add (cond (has ys d) 1 0)))

-- the numbers in both, by their places
pub places_counted : (xs ys : List ℕ) → Rising ys →
    sum_below (λ i. sum_below (λ j. cond (eqb (get_or xs i 0) (get_or ys j 0)) 1 0) (length ys)) (length xs) ≡ length (both xs ys)
places_counted xs ys r = sum_same _ (λ i. cond (has ys (get_or xs i 0)) 1 0) (length xs) (λ i lt. one_place (get_or xs i 0) ys r) ∙ counted (has ys) xs
