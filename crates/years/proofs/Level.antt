-- How deep a cell's losses go. Assumes nothing.
use mathlib.Core.List.{List}
use Prim.Native.Nat.{ℕ, zero, suc, ◌+◌, ◌≤◌, ◌<◌}
use native.Mathlib.Omega.{arith}
use Rattle.listing.specs.Layout.{head, row, cell}
use Rattle.year.proofs.Laws.{year_level, year_undrained}
use Rattle.years.specs.Years.{entries_after, lost_after, OwnLevelAtMost, EveryLevel}
use Rattle.years.proofs.After.{after_plan}

module _ (l : List ℕ) (i : ℕ) where
  within : (t m : ℕ) → ((u : ℕ) → u < t → OwnLevelAtMost l m u i) → lost_after l t i ≤ m
  unfolding entries_after
  within zero m p = omega arith
  within (suc t) m p =
      let level : OwnLevelAtMost l m t i = p t (omega arith) in
      year_level (head l) (row l) (cell l i) (entries_after l t i) (t + 1) m (rw (after_plan l i t).1 level) (within t m (λ u before. p u (omega arith)))

pub every_level : EveryLevel
every_level l t i =
    record {
      within = within l i t;
      unchanged = λ level. year_undrained (head l) (row l) (cell l i) (entries_after l t i) (t + 1) (rw (after_plan l i t).1 level);
    }
