-- The walk through two rising lists, at places i and j: what was found before them and what is ahead make the whole. Assumes nothing.
use mathlib.Core.Path.{◌≡◌, refl, sym, ap, ap₂, ◌∙◌, subst}
use mathlib.Core.Bool.{Bool, true, false, cond}
use mathlib.Core.List.{List, [], ◌∷◌}
use Prim.Native.Nat.{ℕ, suc, ◌+◌, ◌<◌, ◌≤◌}
use native.Mathlib.Nat.{zero-add}
use native.Mathlib.Omega.{arith}
use lib.ListN.{length, drop, get_or, drop_of_length-le}
use lib.Seq.{drop-cons}
use Rattle.std.specs.Prelude.{Option, None, Some}
use Rattle.std.specs.List.{find}
use Rattle.std.specs.Option.{option_or}
use Rattle.dips.proofs.Pairing.{Rising, both, rising_drop, first_lower, second_lower, same_first, none_both}

or_none : (found : Option ℕ) → option_or found None ≡ found
or_none None = refl
or_none (Some d) = refl

-- the first of what was found before, this number, and what is found after it
or_find : (found : Option ℕ) (passes : Bool) (d : ℕ) (rest : Option ℕ) → option_or (option_or found (cond passes (Some d) None)) rest ≡ option_or found (cond passes (Some d) rest)
or_find None true d rest = refl
or_find None false d rest = refl
or_find (Some c) passes d rest = refl

-- the numbers in both lists from these places on
abbrev ahead : List ℕ → List ℕ → ℕ → ℕ → List ℕ
ahead xs ys i j = both (drop i xs) (drop j ys)

-- how many there are before these places, and the first of them that passes the test
pub record Walked (xs ys : List ℕ) (p : ℕ → Bool) (i j paired : ℕ) (found : Option ℕ) : Type 0 where
  first_rising : Rising xs
  second_rising : Rising ys
  pub first_to : i ≤ length xs
  pub second_to : j ≤ length ys
  pub first_counted : paired ≤ i
  pub second_counted : paired ≤ j
  counted : paired + length (ahead xs ys i j) ≡ length (both xs ys)
  found_is : option_or found (find p (ahead xs ys i j)) ≡ find p (both xs ys)

module _ (xs ys : List ℕ) (p : ℕ → Bool) where
  pub walked_none : Rising xs → Rising ys → Walked xs ys p 0 0 0 None
  walked_none r s =
      record {
        first_rising = r;
        second_rising = s;
        first_to = omega arith;
        second_to = omega arith;
        first_counted = omega arith;
        second_counted = omega arith;
        counted = zero-add (length (ahead xs ys 0 0));
        found_is = refl;
      }

  module _ (i j paired : ℕ) (found : Option ℕ) (w : Walked xs ys p i j paired found) where
    -- by one place more in the list that has the lower number, what is ahead stays
    moved : (i' j' : ℕ) → i ≤ i' → j ≤ j' → i' ≤ length xs → j' ≤ length ys → ahead xs ys i j ≡ ahead xs ys i' j' → Walked xs ys p i' j' paired found
    moved i' j' on over first_to second_to same =
        record {
          first_rising = w.first_rising;
          second_rising = w.second_rising;
          first_to = first_to;
          second_to = second_to;
          first_counted = omega (arith, w.first_counted);
          second_counted = omega (arith, w.second_counted);
          counted = ap (λ (ds : List ℕ). paired + length ds) (sym same) ∙ w.counted;
          found_is = ap (λ (ds : List ℕ). option_or found (find p ds)) (sym same) ∙ w.found_is;
        }

    module _ (lt : i < length xs) (more : j < length ys) where
      first_ahead : drop i xs ≡ get_or xs i 0 ∷ drop (suc i) xs
      first_ahead = drop-cons xs i 0 lt

      second_ahead : drop j ys ≡ get_or ys j 0 ∷ drop (suc j) ys
      second_ahead = drop-cons ys j 0 more

      both_ahead : ahead xs ys i j ≡ both (get_or xs i 0 ∷ drop (suc i) xs) (get_or ys j 0 ∷ drop (suc j) ys)
      both_ahead = ap₂ both first_ahead second_ahead

      first_rises : Rising (get_or xs i 0 ∷ drop (suc i) xs)
      first_rises = subst Rising first_ahead (rising_drop i xs w.first_rising)

      second_rises : Rising (get_or ys j 0 ∷ drop (suc j) ys)
      second_rises = subst Rising second_ahead (rising_drop j ys w.second_rising)

      pub walked_first : get_or xs i 0 < get_or ys j 0 → Walked xs ys p (i + 1) j paired found
      walked_first less =
          let next : suc i ≡ i + 1 = omega arith in
          moved (i + 1) j (omega arith) (omega arith) (omega arith) (omega arith)
          (both_ahead ∙ first_lower _ _ _ _ second_rises less ∙ ap₂ (λ (k : ℕ) (ds : List ℕ). both (drop k xs) ds) next (sym second_ahead))

      pub walked_second : get_or ys j 0 < get_or xs i 0 → Walked xs ys p i (j + 1) paired found
      walked_second less =
          let next : suc j ≡ j + 1 = omega arith in
          moved i (j + 1) (omega arith) (omega arith) (omega arith) (omega arith)
          (both_ahead ∙ second_lower _ _ _ _ first_rises less ∙ ap₂ (λ (k : ℕ) (ds : List ℕ). both ds (drop k ys)) next (sym first_ahead))

      -- a number in both
      module _ (same : get_or xs i 0 ≡ get_or ys j 0) where
        found_ahead : ahead xs ys i j ≡ get_or xs i 0 ∷ ahead xs ys (suc i) (suc j)
        found_ahead = both_ahead ∙ same_first _ _ _ _ first_rises same

        pub walked_both : (now : Option ℕ) → now ≡ option_or found (cond (p (get_or xs i 0)) (Some (get_or xs i 0)) None) → Walked xs ys p (i + 1) (j + 1) (paired + 1) now
        walked_both now q =
            let d = get_or xs i 0 in
            let one : suc i ≡ i + 1 = omega arith in
            let other : suc j ≡ j + 1 = omega arith in
            let onward : ahead xs ys (i + 1) (j + 1) ≡ ahead xs ys (suc i) (suc j) = ap₂ (ahead xs ys) (sym one) (sym other) in
            record {
              first_rising = w.first_rising;
              second_rising = w.second_rising;
              first_to = omega arith;
              second_to = omega arith;
              first_counted = omega (arith, w.first_counted);
              second_counted = omega (arith, w.second_counted);
              counted = omega (arith, w.counted, ap (λ (ds : List ℕ). length ds) found_ahead, ap (λ (ds : List ℕ). length ds) onward);
              found_is =
                  ap₂ (λ (o : Option ℕ) (ds : List ℕ). option_or o (find p ds)) q onward
                  ∙ or_find found (p d) d (find p (ahead xs ys (suc i) (suc j)))
                  ∙ ap (λ (ds : List ℕ). option_or found (find p ds)) (sym found_ahead)
                  ∙ w.found_is;
            }

    -- at the end of one list nothing is ahead
    all_found : ahead xs ys i j ≡ [] → (paired ≡ length (both xs ys)) × (found ≡ find p (both xs ys))
    all_found none =
        let counted : paired + 0 ≡ length (both xs ys) = ap (λ (ds : List ℕ). paired + length ds) (sym none) ∙ w.counted in
        (omega arith, sym (or_none found) ∙ ap (λ (ds : List ℕ). option_or found (find p ds)) (sym none) ∙ w.found_is)

    pub first_all : length xs ≤ i → (paired ≡ length (both xs ys)) × (found ≡ find p (both xs ys))
    first_all h = all_found (ap (λ (ds : List ℕ). both ds (drop j ys)) (drop_of_length-le xs h))

    pub second_all : length ys ≤ j → (paired ≡ length (both xs ys)) × (found ≡ find p (both xs ys))
    second_all h = all_found (ap (both (drop i xs)) (drop_of_length-le ys h) ∙ none_both (drop i xs))
