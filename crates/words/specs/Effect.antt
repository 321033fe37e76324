-- What a call answers, and what it leaves in the slices that it was lent.
use Rattle.std.specs.Prelude.{cond, List, [], ℕ}
use Rattle.words.specs.Answers.{Answer}

-- its answer, the book, and its output: a closing's lines, a forecast's numbers, nothing for another call
pub record Effect : Type 0 where
  pub answer : Answer
  pub book : List ℕ
  pub output : List ℕ

-- the three together
abbrev pub effect : Answer → List ℕ → List ℕ → Effect
effect a b x = record { answer = a; book = b; output = x }

-- a refusal writes no buffer: the slice holds `new` where the call is accepted, and what it held where not
unfoldable pub written : Answer → List ℕ → List ℕ → List ℕ
written a old new = cond a.done new old

-- what a call leaves that answers a and was lent a book alone, and what one with an output leaves
abbrev pub commit : Answer → List ℕ → List ℕ → Effect
commit a old new = effect a (written a old new) []

abbrev pub commit_both : Answer → List ℕ → List ℕ → List ℕ → List ℕ → Effect
commit_both a old new old_output new_output = effect a (written a old new) (written a old_output new_output)
