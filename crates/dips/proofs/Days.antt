-- Recordings that are not refused, and their days. Assumes nothing.
use mathlib.Core.Path.{◌≡◌, refl, sym, ap, ap₂, ◌∙◌, subst}
use mathlib.Core.Bool.{true, not}
use mathlib.Core.List.{List}
use Prim.Native.Nat.{ℕ, zero, suc, ◌+◌, ◌-◌, ◌<◌, ◌≤◌}
use native.Mathlib.Omega.{arith}
use lib.Dec.{eqb}
use lib.ListN.{length}
use borrow.Author.Tests.{ltb-true, lt-ltb, ne_eqb, eq-eqb, eqb-true}
use Rattle.std.specs.Prelude.{Option}
use Rattle.std.specs.List.{find}
use Rattle.std.proofs.lemmas.List.Filters.{length-filter_both}
use Rattle.std.proofs.lemmas.List.Sums.{position_or_len_is}
use Rattle.words.specs.Answers.{Answer, accepted, need_all}
use Rattle.words.specs.Refusals.{day_not_above}
use Rattle.words.proofs.Signed.{by_equal, by_less}
use Rattle.words.proofs.Answers.{need_accepted, need_all_accepted, need_next, need_all_is, found_none, after_accepted, after_next, and_left, and_right}
use Rattle.dips.specs.Dips.{Recorded, day, dip, dip_of_day, differ, day_differs, has_day, paired_days, unpaired_days, figures_of, same_length, above_before, all_readings_checked}
use Rattle.dips.specs.Dips.{dips_checked}
use Rattle.dips.specs.Pairing.{Accepted}
use Rattle.dips.specs.declared.DipsFigures.{DipsFigures}
use Rattle.dips.proofs.Readings.{readings_read, readings_passed}
use Rattle.dips.proofs.Pairing.{Rising, by_places, both_same}

-- ---- what passes the tests

module _ (r : Recorded) where
  accepted_lem : same_length r ≡ true → ((k : ℕ) → 1 ≤ k → k < length r.days → above_before r k ≡ true) → (all_readings_checked r).done ≡ true → Accepted r
  accepted_lem lengths above readings =
      let read = readings_read r 0 (length r.days) readings in
      record {
        depths_length = sym (eqb-true _ _ (and_left _ _ lengths));
        tolerances_length = sym (eqb-true _ _ (and_right _ _ lengths));
        rising = λ k lt.
            let here : suc k - 1 ≡ k = omega arith in
            subst (λ (n : ℕ). day r n < day r (suc k)) here (ltb-true (day r (suc k - 1)) (day r (suc k)) (above (suc k) (omega arith) lt));
        depths = λ k lt. (read k (omega arith) (omega arith)).0;
        tolerances = λ k lt. (read k (omega arith) (omega arith)).1;
      }

  module _ (a : Accepted r) where
    same_length_is : same_length r ≡ true
    same_length_is = rw (eq-eqb _ _ (sym a.depths_length), eq-eqb _ _ (sym a.tolerances_length))

    above_is : (k : ℕ) → 1 ≤ k → k < length r.days → above_before r k ≡ true
    above_is zero one lt = absurd (omega arith)
    above_is (suc k) one lt = let here : k ≡ suc k - 1 = omega arith in lt-ltb _ _ (subst (λ (n : ℕ). day r n < day r (suc k)) here (a.rising k lt))

    -- none or one day has nothing to compare
    days_passed : (next v : Answer) → v ≡ next → v ≡ need_all day_not_above (above_before r) 1 (length r.days) next
    days_passed next v e =
        by_less (length r.days) 1 (λ none. found_none day_not_above _ _ (length r.days) next v refl (omega arith) e)
        (λ some. e ∙ need_all_is day_not_above (above_before r) 1 (length r.days) next some above_is)

    readings_are : accepted 0 ≡ all_readings_checked r
    readings_are = readings_passed r 0 (length r.days) (λ k low lt. (a.depths k (omega arith), a.tolerances k (omega arith)))

pub accepted_by : (first second : Recorded) → (dips_checked first second).done ≡ true → Accepted first × Accepted second
unfolding dips_checked
accepted_by first second h =
    let one = need_accepted _ _ _ _ h in
    let other = need_accepted _ _ _ _ one.1 in
    let days = need_all_accepted _ _ _ _ _ other.1 in
    let more = need_all_accepted _ _ _ _ _ days.1 in
    let readings = after_accepted _ _ more.1 in
    (accepted_lem first one.0 days.0 readings.0, accepted_lem second other.0 more.0 readings.1)

pub passed_by : (first second : Recorded) → Accepted first → Accepted second → accepted 0 ≡ dips_checked first second
unfolding dips_checked
passed_by first second a b =
    need_next _ _ _ _ _ (same_length_is first a)
    (need_next _ _ _ _ _ (same_length_is second b)
    (days_passed first a _ _ (days_passed second b _ _ (after_next 0 _ _ _ (readings_are first a) (readings_are second b)))))

-- ---- a day by its place
module _ {r : Recorded} (a : Accepted r) where
  pub rising : Rising r.days
  rising = by_places r.days a.rising

  pub days_rise : (k i : ℕ) → k < i → i < length r.days → day r k < day r i
  days_rise k zero less lt = absurd (omega arith)
  days_rise k (suc i) less lt =
      let step = a.rising i lt in
      by_equal k i (λ same. subst (λ (n : ℕ). day r n < day r (suc i)) (sym same) step)
      (λ other. let before : day r k < day r i = days_rise k i (omega arith) (omega arith) in omega arith)

  dip_there : (i : ℕ) → i < length r.days → dip_of_day r (day r i) ≡ dip r i
  dip_there i lt =
      ap (dip r)
      (position_or_len_is (eqb (day r i)) r.days i 0 (omega arith)
      (λ k less. let below : day r k < day r i = days_rise k i less lt in ne_eqb (day r i) (day r k) (λ same. omega arith))
      (λ _. eq-eqb (day r i) (day r i) refl))

-- whether the two dips of a day differ
pub day_differs_is : {first second : Recorded} → Accepted first → Accepted second → (i j : ℕ) → i < length first.days → j < length second.days → day first i ≡ day second j →
    day_differs first second (day first i) ≡ differ (dip first i) (dip second j)
day_differs_is {first} {second} a b i j lt more same = ap₂ differ (dip_there a i lt) (ap (dip_of_day second) same ∙ dip_there b j more)

-- ---- the counts

-- of one recording's days those that are paired and the others
pub counts : (first second : Recorded) → length (paired_days first second) + length (unpaired_days first second) ≡ length first.days
counts first second = length-filter_both (has_day second) (λ d. not (has_day second d)) (λ d. refl) first.days

module _ {first second : Recorded} (a : Accepted first) (b : Accepted second) where
  pub paired_same : paired_days first second ≡ paired_days second first
  paired_same = both_same first.days second.days (rising a) (rising b)

  pub counts_second : length (paired_days first second) + length (unpaired_days second first) ≡ length second.days
  counts_second = ap (λ (ds : List ℕ). length ds + length (unpaired_days second first)) paired_same ∙ counts second first

  pub figures_by : (paired : ℕ) (found : Option ℕ) → (paired ≡ length (paired_days first second)) × (found ≡ find (day_differs first second) (paired_days first second)) →
      ◌≡◌ {A = DipsFigures} (record { paired = paired; only_first = length first.days - paired; only_second = length second.days - paired; first_differing = found }) (figures_of first second)
  unfolding figures_of
  figures_by paired found all =
      let one : length first.days - paired ≡ length (unpaired_days first second) = omega (arith, all.0, counts first second) in
      let other : length second.days - paired ≡ length (unpaired_days second first) = omega (arith, all.0, counts_second) in
      rw (one, other, all.0, all.1)
