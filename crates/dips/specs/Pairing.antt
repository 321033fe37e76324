-- Which recordings are accepted and what they answer, said by the places of their days, and that their order tells only which counts are whose.
use Rattle.std.specs.Prelude.{ℕ, suc, ◌+◌, ◌<◌, ◌≤◌, ◌≡◌, true, false, cond, None, Some, eqb, length}
use Rattle.words.specs.Sums.{sum_below}
use Rattle.words.specs.Answers.{AnswerWith}
use Rattle.reading.specs.Depth.{core}
use Rattle.dips.specs.Dips.{Recorded, day, dip, differ, dips}
use Rattle.dips.specs.declared.DipsFigures.{DipsFigures}

-- a recording that is not refused, whatever it is held against
pub record Accepted (r : Recorded) : Type 0 where
  pub depths_length : length r.depths ≡ length r.days
  pub tolerances_length : length r.tolerances ≡ length r.days
  pub rising : (k : ℕ) → suc k < length r.days → day r k < day r (suc k)
  pub depths : (k : ℕ) → k < length r.days → (core (dip r k).depth).done ≡ true
  pub tolerances : (k : ℕ) → k < length r.days → (core (dip r k).tolerance).done ≡ true

-- the dips at place i of the first and at place j of the second are of one day
pub record Paired (first second : Recorded) (i j : ℕ) : Type 0 where
  pub in_first : i < length first.days
  pub in_second : j < length second.days
  pub same_day : day first i ≡ day second j

-- how many such places there are
abbrev pub pairs : Recorded → Recorded → ℕ
pairs first second = sum_below (λ i. sum_below (λ j. cond (eqb (day first i) (day second j)) 1 0) (length second.days)) (length first.days)

-- day d is "the first paired day whose mm differ by more than the two tolerances in mm together"
pub record FirstDiffering (first second : Recorded) (d : ℕ) : Type 0 where
  pub i : ℕ
  pub j : ℕ
  pub paired : Paired first second i j
  pub day_is : day first i ≡ d
  pub differs : differ (dip first i) (dip second j) ≡ true
  pub lowest : (k m : ℕ) → Paired first second k m → differ (dip first k) (dip second m) ≡ true → d ≤ day first k

-- the figures of two recordings
pub record Pairing (first second : Recorded) (figures : DipsFigures) : Type 0 where
  pub paired_are : figures.paired ≡ pairs first second
  -- "Paired plus only-first equals the first list's length, and the same for the second."
  pub all_first : figures.paired + figures.only_first ≡ length first.days
  pub all_second : figures.paired + figures.only_second ≡ length second.days
  pub day_found : (d : ℕ) → figures.first_differing ≡ Some d → FirstDiffering first second d
  pub none_found : figures.first_differing ≡ None → (i j : ℕ) → Paired first second i j → differ (dip first i) (dip second j) ≡ false

-- with the recordings exchanged only-first and only-second are exchanged, and the rest stays
pub record Exchanged (here there : AnswerWith DipsFigures) : Type 0 where
  pub answer : there.answer ≡ here.answer
  pub paired : there.figures.paired ≡ here.figures.paired
  pub only_first : there.figures.only_first ≡ here.figures.only_second
  pub only_second : there.figures.only_second ≡ here.figures.only_first
  pub first_differing : there.figures.first_differing ≡ here.figures.first_differing

-- two recordings are accepted exactly where each is by itself, and then have these figures; proofs/EveryPairing.antt proves it
pub record EveryPairing : Type 0 where
  pub accepts : (first second : Recorded) → Accepted first → Accepted second → (dips first second).answer.done ≡ true
  pub accepts_only : (first second : Recorded) → (dips first second).answer.done ≡ true → Accepted first × Accepted second
  pub pairing : (first second : Recorded) → (dips first second).answer.done ≡ true → Pairing first second (dips first second).figures
  pub exchanged : (first second : Recorded) → (dips first second).answer.done ≡ true → Exchanged (dips first second) (dips second first)
