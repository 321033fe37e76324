-- What the check of a listing may answer: accepted, or refused by one of its own numbers, 1 to 5. Assumes nothing.
use mathlib.Core.List.{List}
use Prim.Native.Nat.{ℕ, ◌≤◌}
use native.Mathlib.Omega.{arith}
use Rattle.words.specs.Answers.{Answer, accepted, refused}
use Rattle.words.specs.Refusals.{too_few_words, term_not_above}
use Rattle.words.proofs.Answers.{need_either, need_none_either}
use Rattle.listing.specs.Check.{words_checked, later_checked, checked}

-- so what holds of these holds of every answer of the check
pub checked_either : (P : Answer → Type 0) → ((n k : ℕ) → too_few_words ≤ n → n ≤ term_not_above → P (refused n k)) → P (accepted 0) → (l : List ℕ) → P (checked l)
unfolding checked later_checked words_checked
checked_either P r a l =
    need_either P _ 1 _ _ (r 1 _ (omega arith) (omega arith))
    (need_either P _ 2 _ _ (r 2 _ (omega arith) (omega arith))
    (need_either P _ 2 _ _ (r 2 _ (omega arith) (omega arith))
    (need_either P _ 3 _ _ (r 3 _ (omega arith) (omega arith))
    (need_either P _ 4 _ _ (r 4 _ (omega arith) (omega arith))
    (need_none_either P 4 _ _ _ (r 4 _ (omega arith) (omega arith))
    (need_none_either P 4 _ _ _ (r 4 _ (omega arith) (omega arith))
    (need_none_either P 4 _ _ _ (r 4 _ (omega arith) (omega arith))
    (need_none_either P 5 _ _ _ (r 5 _ (omega arith) (omega arith)) a))))))))
