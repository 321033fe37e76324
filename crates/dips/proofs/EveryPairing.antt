-- What two recordings that are not refused answer, by the places of their days, and with the two exchanged. Assumes nothing.
use mathlib.Core.Path.{◌≡◌, refl, sym, ap, ap₂, ◌∙◌, subst}
use mathlib.Core.Bool.{Bool, true, false, cond, ◌&&◌, ◌||◌, false≢true}
use mathlib.Core.List.{List, [], ◌∷◌}
use Prim.Native.Nat.{ℕ, zero, suc, ◌+◌, ◌<◌, ◌≤◌}
use native.Mathlib.Omega.{arith}
use lib.Dec.{eqb, ltb}
use lib.ListN.{length, get_or}
use borrow.Author.Tests.{eqb-true, eq-eqb}
use Rattle.std.specs.Prelude.{Option, None, Some}
use Rattle.std.specs.Option.{is_none, unwrap_or}
use Rattle.std.specs.Int.{abs_diff}
use Rattle.std.specs.List.{list_any, filter, find}
use Rattle.std.proofs.lemmas.List.Folds.{list_any_at}
use Rattle.words.specs.Answers.{Answer, accepted}
use Rattle.words.proofs.Signed.{by_less, by_equal}
use Rattle.words.proofs.Answers.{and_left}
use Rattle.dips.specs.Dips.{Recorded, day, dip, mm_of, differ, dip_of_day, has_day, day_differs, paired_days, figures_of, dips_checked, dips}
use Rattle.dips.specs.Pairing.{Accepted, Paired, FirstDiffering, Pairing, Exchanged, EveryPairing}
use Rattle.dips.specs.declared.Dip.{Dip}
use Rattle.dips.proofs.Pairing.{places_counted}
use Rattle.dips.proofs.Days.{accepted_by, passed_by, rising, days_rise, day_differs_is, counts, counts_second, paired_same}

-- ---- the first number of a list that passes a test
record Found (r : ℕ → Bool) (xs : List ℕ) (d : ℕ) : Type 0 where
  at : ℕ
  inside : at < length xs
  is : get_or xs at 0 ≡ d
  passes : r d ≡ true
  before : (k : ℕ) → k < at → r (get_or xs k 0) ≡ false

module _ (r : ℕ → Bool) where
  none_by : (xs : List ℕ) → find r xs ≡ None → (i : ℕ) → i < length xs → r (get_or xs i 0) ≡ false
  none_by [] e i lt = absurd (omega arith)
  none_by (x ∷ xs) e i lt = go (r x) refl e (none_by xs) i lt
    where
      go : (b : Bool) → r x ≡ b → cond b (Some x) (find r xs) ≡ None → (find r xs ≡ None → (k : ℕ) → k < length xs → r (get_or xs k 0) ≡ false) →
          (k : ℕ) → k < length (x ∷ xs) → r (get_or (x ∷ xs) k 0) ≡ false
      go true s e rest k lt = absurd (false≢true (ap is_none e))
      go false s e rest zero lt = s
      go false s e rest (suc k) lt = rest e k (omega arith)

  found_by : (xs : List ℕ) (d : ℕ) → find r xs ≡ Some d → Found r xs d
  found_by [] d e = absurd (false≢true (sym (ap is_none e)))
  found_by (x ∷ xs) d e = go (r x) refl e (found_by xs d)
    where
      go : (b : Bool) → r x ≡ b → cond b (Some x) (find r xs) ≡ Some d → (find r xs ≡ Some d → Found r xs d) → Found r (x ∷ xs) d
      go true s e rest =
          let is : x ≡ d = ap (λ (o : Option ℕ). unwrap_or o 0) e in
          record { at = 0; inside = omega arith; is = is; passes = subst (λ (n : ℕ). r n ≡ true) is s; before = λ k lt. absurd (omega arith) }
      go false s e rest =
          let f = rest e in
          record { at = suc f.at; inside = omega (arith, f.inside); is = f.is; passes = f.passes; before = earlier f }
        where
          earlier : (f : Found r xs d) (k : ℕ) → k < suc f.at → r (get_or (x ∷ xs) k 0) ≡ false
          earlier f zero lt = s
          earlier f (suc k) lt = f.before k (omega arith)

find_filter : (p q : ℕ → Bool) (xs : List ℕ) → find p (filter q xs) ≡ find (λ d. q d && p d) xs
find_filter p q [] = refl
find_filter p q (x ∷ xs) = go (q x) (find_filter p q xs)
  where
    go : (b : Bool) → find p (filter q xs) ≡ find (λ d. q d && p d) xs → find p (cond b (x ∷ filter q xs) (filter q xs)) ≡ cond (b && p x) (Some x) (find (λ d. q d && p d) xs)
    go true e = ap (cond (p x) (Some x)) e
    go false e = e

find_same : (p p' : ℕ → Bool) → ((d : ℕ) → p d ≡ p' d) → (xs : List ℕ) → find p xs ≡ find p' xs
find_same p p' e [] = refl
find_same p p' e (x ∷ xs) = rw (e x, find_same p p' e xs)

-- a number that is in a list has a place there
record Place (xs : List ℕ) (d : ℕ) : Type 0 where
  at : ℕ
  inside : at < length xs
  is : get_or xs at 0 ≡ d

place_of : (d : ℕ) (xs : List ℕ) → list_any (eqb d) xs ≡ true → Place xs d
place_of d [] h = absurd (false≢true h)
place_of d (x ∷ xs) h = go (eqb d x) refl h (place_of d xs)
  where
    go : (b : Bool) → eqb d x ≡ b → (b || list_any (eqb d) xs) ≡ true → (list_any (eqb d) xs ≡ true → Place xs d) → Place (x ∷ xs) d
    go true e h rest = record { at = 0; inside = omega arith; is = sym (eqb-true d x e) }
    go false e h rest = let p = rest h in record { at = suc p.at; inside = omega (arith, p.inside); is = p.is }

module _ {first second : Recorded} (e : Accepted first) (f : Accepted second) where
  -- the day that both dips have passes both tests
  abbrev in_both : ℕ → Bool
  in_both d = has_day second d && day_differs first second d

  paired_has : {i j : ℕ} → Paired first second i j → has_day second (day first i) ≡ true
  paired_has {i} {j} p = list_any_at (eqb (day first i)) second.days j 0 p.in_second (eq-eqb _ _ p.same_day)

  paired_is : {i j : ℕ} → Paired first second i j → in_both (day first i) ≡ differ (dip first i) (dip second j)
  paired_is {i} {j} p = rw (paired_has p) (day_differs_is e f i j p.in_first p.in_second p.same_day)

  abbrev first_day : Option ℕ
  first_day = find (day_differs first second) (paired_days first second)

  day_none : first_day ≡ None → (i j : ℕ) → Paired first second i j → differ (dip first i) (dip second j) ≡ false
  day_none n i j p = sym (paired_is p) ∙ none_by in_both first.days (sym (find_filter (day_differs first second) (has_day second) first.days) ∙ n) i p.in_first

  day_first : (d : ℕ) → first_day ≡ Some d → FirstDiffering first second d
  day_first d s =
      let g = found_by in_both first.days d (sym (find_filter (day_differs first second) (has_day second) first.days) ∙ s) in
      let there = place_of d second.days (and_left _ _ g.passes) in
      let p : Paired first second g.at there.at = record { in_first = g.inside; in_second = there.inside; same_day = g.is ∙ sym there.is } in
      record {
        i = g.at;
        j = there.at;
        paired = p;
        day_is = g.is;
        differs = sym (paired_is p) ∙ ap in_both g.is ∙ g.passes;
        lowest = λ k m q h. lowest_lem k q.in_first g (sym (paired_is q ∙ h));
      }
    where
      lowest_lem : (k : ℕ) → k < length first.days → Found in_both first.days d → true ≡ in_both (day first k) → d ≤ day first k
      lowest_lem k inside g h =
          by_less k g.at (λ lt. absurd (false≢true (sym (h ∙ g.before k lt))))
          (λ le. by_equal g.at k (λ same. let is : day first k ≡ d = ap (day first) (sym same) ∙ g.is in omega arith)
          (λ other. let less : day first g.at < day first k = days_rise e g.at k (omega arith) inside in omega (arith, g.is)))

-- ---- the two exchanged
differ_same : (a b : Dip) → differ b a ≡ differ a b
differ_same a b =
    let together : mm_of b.tolerance + mm_of a.tolerance ≡ mm_of a.tolerance + mm_of b.tolerance = omega arith in
    let apart : abs_diff (mm_of b.depth) (mm_of a.depth) ≡ abs_diff (mm_of a.depth) (mm_of b.depth) = omega arith in
    ap₂ ltb together apart

module _ (first second : Recorded) (h : (dips_checked first second).done ≡ true) where
  both : Accepted first × Accepted second
  both = accepted_by first second h

  exchanged_day : find (day_differs second first) (paired_days second first) ≡ find (day_differs first second) (paired_days first second)
  exchanged_day =
      find_same (day_differs second first) (day_differs first second) (λ d. differ_same (dip_of_day first d) (dip_of_day second d)) (paired_days second first)
      ∙ ap (find (day_differs first second)) (sym (paired_same both.0 both.1))

  pairing : Pairing first second (figures_of first second)
  unfolding figures_of
  pairing =
      record {
        paired_are = sym (places_counted first.days second.days (rising both.1));
        all_first = counts first second;
        all_second = counts_second both.0 both.1;
        day_found = day_first both.0 both.1;
        none_found = day_none both.0 both.1;
      }

  exchanged : Exchanged (dips first second) (dips second first)
  unfolding dips figures_of
  exchanged =
      let here : accepted 0 ≡ dips_checked first second = passed_by first second both.0 both.1 in
      let there : accepted 0 ≡ dips_checked second first = passed_by second first both.1 both.0 in
      record {
        answer = sym there ∙ here;
        paired = rw (← here, ← there) (ap (λ (ds : List ℕ). length ds) (sym (paired_same both.0 both.1)));
        only_first = rw (← here, ← there) refl;
        only_second = rw (← here, ← there) refl;
        first_differing = rw (← here, ← there) exchanged_day;
      }

pub every_pairing : EveryPairing
unfolding dips
every_pairing =
    record {
      accepts = λ first second a b. ap (λ (x : Answer). x.done) (sym (passed_by first second a b));
      accepts_only = accepted_by;
      pairing = λ first second h. rw h (pairing first second h);
      exchanged = exchanged;
    }
