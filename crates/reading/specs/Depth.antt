-- What a reading answers: document 01, "Forecast, readings, discount, program", with the numbers and places of "Where a call stops".
use Rattle.std.specs.Prelude.{Bool, ◌&&◌, ℕ, ℤ, pos, ◌-ℤ◌, Float}
use Rattle.std.specs.Int.Signed.{le_z}
use Rattle.words.specs.Bits.{at_least_0}
use Rattle.words.specs.Refusals.{not_finite, out_of_range, reading_missing}
use Rattle.words.specs.Answers.{Answer, accepted, refused, need}
use Rattle.reading.specs.Metres.{is_finite, in_core, in_level, mm}
use Rattle.reading.specs.declared.Reading.{Reading}
use Rattle.reading.specs.declared.Reading.TheVariants.{Core, Levels, Missing}

-- a core depth: 16, then 17, at place 0
unfoldable pub core : Float → Answer
core x =
    need (is_finite x) not_finite 0
    (need (in_core x) out_of_range 0
    (accepted (at_least_0 (mm x))))

-- a pair's depth is "in 0 to 20,000"
abbrev pub most_depth : ℕ
most_depth = 20000

unfoldable pub in_depth : ℤ → Bool
in_depth z = le_z (pos 0) z && le_z z (pos most_depth)

-- a pair "gives surface mm − base mm, in 0 to 20,000, else 17 at place 2. For a pair 16 is tested on both before 17"
unfoldable pub levels : Float → Float → Answer
levels surface base =
    need (is_finite surface) not_finite 0
    (need (is_finite base) not_finite 1
    (need (in_level surface) out_of_range 0
    (need (in_level base) out_of_range 1
    (need (in_depth (mm surface -ℤ mm base)) out_of_range 2
    (accepted (at_least_0 (mm surface -ℤ mm base)))))))

-- a reading is "a core depth in metres, a pair of surface and base levels in metres, or missing"
abbrev pub depth : Reading → Answer
depth (Core x) = core x
depth (Levels surface base) = levels surface base
depth Missing = refused reading_missing 0
