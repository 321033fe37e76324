-- What a call answers, in the papers' own numbers, put together from tests: the first that fails is the answer.
use Rattle.std.specs.Prelude.{ℕ, Bool, true, false, cond, ltb, Result, Ok, Err}
use Rattle.words.specs.Search.{first_invalid}
use Rattle.words.specs.Refusals.{number_of}
use Rattle.words.specs.declared.Refusal.{Refusal}

-- a call that is accepted (`done`) answers number 0 at place 0 and its value; a refused one its number and place and the value 0
pub record Answer : Type 0 where
  pub done : Bool
  pub number : ℕ
  pub place : ℕ
  pub value : ℕ

abbrev pub accepted : ℕ → Answer
accepted v = record { done = true; number = 0; place = 0; value = v }

abbrev pub refused : ℕ → ℕ → Answer
refused n k = record { done = false; number = n; place = k; value = 0 }

-- the cases of an answer whose value is worked out by `value`
abbrev pub answer_of : {A : Type 0} → (A → ℕ) → Result A Refusal → Answer
answer_of value (Ok v) = accepted (value v)
answer_of value (Err r) = refused (number_of r.reason) r.place

-- an answer whose value is not a number counts as 0
abbrev pub outcome : {A : Type 0} → Result A Refusal → Answer
outcome r = answer_of (λ _. 0) r

-- and one that is a number: tonnes, kg, mm or ten-thousandths
abbrev pub amount : Result ℕ Refusal → Answer
amount r = answer_of (λ v. v) r

-- refusal n at place k unless the test holds, and then `next`
unfoldable pub need : Bool → ℕ → ℕ → Answer → Answer
need ok n k next = cond ok next (refused n k)

-- refusal n at the place that a search found, if that is before the end of its range, and otherwise `next`
unfoldable pub need_none : ℕ → ℕ → ℕ → Answer → Answer
need_none n place end next = cond (ltb place end) (refused n place) next

-- refusal n at the first place from `from` up to but not `to` that is invalid, and `next` where all are valid
abbrev pub need_all : ℕ → (ℕ → Bool) → ℕ → ℕ → Answer → Answer
need_all n valid from to next = need_none n (first_invalid valid from to) to next

-- a refusal of the tests before, and `next` where they were passed
unfoldable pub after : Answer → Answer → Answer
after before next = cond before.done next before

-- ---- answers with figures beside them

-- of a call whose value is a struct: number and place, and the struct's figures
pub record AnswerWith (F : Type 0) : Type 0 where
  pub answer : Answer
  pub figures : F

-- the cases of such an answer, with what stands for the figures where it is refused
abbrev pub answer_with : {F : Type 0} → F → Result F Refusal → AnswerWith F
answer_with if_refused (Ok figures) = record { answer = accepted 0; figures = figures }
answer_with if_refused (Err r) = record { answer = refused (number_of r.reason) r.place; figures = if_refused }

-- the figures where the tests of a call were passed, and what stands for them where not
abbrev pub with_figures : {F : Type 0} → F → Answer → F → AnswerWith F
with_figures if_refused a figures = record { answer = a; figures = cond a.done figures if_refused }
