-- Document 02, "Hand dips held against the logger": what two recordings of a well answer, day by day.
use Rattle.std.specs.Prelude.{ℕ, zero, suc, ◌+◌, ◌-◌, Bool, not, ◌&&◌, List, None, Float, ltb, eqb, length, get_or}
use Rattle.std.specs.Int.{abs_diff}
use Rattle.std.specs.List.{list_any, filter, find, position_or_len}
use Rattle.std.specs.Float.{nan}
use Rattle.words.specs.Answers.{Answer, AnswerWith, accepted, need, need_all, after, with_figures}
use Rattle.words.specs.Refusals.{dips_lengths, day_not_above}
use Rattle.reading.specs.Depth.{core}
use Rattle.dips.specs.declared.Dip.{Dip}
use Rattle.dips.specs.declared.Recording.{Recording}
use Rattle.dips.specs.declared.DipsFigures.{DipsFigures}

-- "Each recording is a list of day numbers (32-bit), depths and tolerances (binary32 metres, both read as core depths)"; it may have no day
pub record Recorded : Type 0 where
  pub days : List ℕ
  pub depths : List Float
  pub tolerances : List Float

abbrev pub recording_of : List ℕ → List Float → List Float → Recorded
recording_of days depths tolerances = record { days = days; depths = depths; tolerances = tolerances }

-- a recording as it is lent
abbrev pub recorded : Recording → Recorded
recorded r = recording_of r.days.now r.depths.now r.tolerances.now

abbrev pub day : Recorded → ℕ → ℕ
day r k = get_or r.days k 0

-- "A dip carries its depth and its tolerance in metres": that at place k
abbrev pub dip : Recorded → ℕ → Dip
dip r k = record { depth = get_or r.depths k nan; tolerance = get_or r.tolerances k nan }

-- ---- what is answered

-- whether a day is in a recording
abbrev pub has_day : Recorded → ℕ → Bool
has_day r d = list_any (eqb d) r.days

-- "Days present in both are paired"
abbrev pub paired_days : Recorded → Recorded → List ℕ
paired_days first second = filter (has_day second) first.days

-- "days only in the first", and, with the two exchanged, "days only in the second"
abbrev pub unpaired_days : Recorded → Recorded → List ℕ
unpaired_days first second = filter (λ d. not (has_day second d)) first.days

-- a core depth's millimetres; 0 of a reading that is refused
abbrev pub mm_of : Float → ℕ
mm_of x = (core x).value

-- the "mm differ by more than the two tolerances in mm together"
abbrev pub differ : Dip → Dip → Bool
differ a b = ltb (mm_of a.tolerance + mm_of b.tolerance) (abs_diff (mm_of a.depth) (mm_of b.depth))

-- the dip of a day that is in the recording, which is at the first place with that day
abbrev pub dip_of_day : Recorded → ℕ → Dip
dip_of_day r d = dip r (position_or_len (eqb d) r.days)

abbrev pub day_differs : Recorded → Recorded → ℕ → Bool
day_differs first second d = differ (dip_of_day first d) (dip_of_day second d)

-- "the number of paired days, of days only in the first and of days only in the second, and the day number of the first paired day whose mm differ
-- by more than the two tolerances in mm together, if there is one"
unfoldable pub figures_of : Recorded → Recorded → DipsFigures
figures_of first second =
    record {
      paired = length (paired_days first second);
      only_first = length (unpaired_days first second);
      only_second = length (unpaired_days second first);
      first_differing = find (day_differs first second) (paired_days first second);
    }

-- ---- what is refused

-- "A reading that is not finite or out of range gives 16 or 17, place its index": the number that it has as a core depth
unfoldable pub reading_checked : ℕ → Float → Answer
reading_checked k x = need (core x).done (core x).number k (accepted 0)

-- "a depth before its tolerance"
unfoldable pub dip_checked : ℕ → Dip → Answer
dip_checked k d = after (reading_checked k d.depth) (reading_checked k d.tolerance)

-- "Readings are tried one after the other, .. by index": n dips from place k on
unfoldable pub readings_checked : Recorded → ℕ → ℕ → Answer
readings_checked r k zero = accepted 0
readings_checked r k (suc n) = after (dip_checked k (dip r k)) (readings_checked r (suc k) n)

abbrev pub all_readings_checked : Recorded → Answer
all_readings_checked r = readings_checked r 0 (length r.days)

-- 23: "the three lists of one recording differ in length"; no place is named, so 0
abbrev pub same_length : Recorded → Bool
same_length r = eqb (length r.days) (length r.depths) && eqb (length r.days) (length r.tolerances)

-- 24: "days not strictly rising, place the later index"; the day at place k, from 1 on, is above the one before
abbrev pub above_before : Recorded → ℕ → Bool
above_before r k = ltb (day r (k - 1)) (day r k)

-- 23, "checked first", then 24, "before any reading", then the readings; each of "the first recording before the second", so that a place is the
-- lowest of its own recording
unfoldable pub dips_checked : Recorded → Recorded → Answer
dips_checked first second =
    need (same_length first) dips_lengths 0
    (need (same_length second) dips_lengths 0
    (need_all day_not_above (above_before first) 1 (length first.days)
    (need_all day_not_above (above_before second) 1 (length second.days)
    (after (all_readings_checked first) (all_readings_checked second)))))

-- where the call is refused
abbrev pub no_figures : DipsFigures
no_figures = record { paired = 0; only_first = 0; only_second = 0; first_differing = None }

-- what it answers for any two recordings
unfoldable pub dips : Recorded → Recorded → AnswerWith DipsFigures
dips first second = with_figures no_figures (dips_checked first second) (figures_of first second)
