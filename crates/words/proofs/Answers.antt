-- An answer, one test at a time: what a function's returns cite, and what an accepted answer says of each test. Assumes nothing.
use mathlib.Core.Path.{◌≡◌, refl, sym, ap, ◌∙◌}
use mathlib.Core.Bool.{Bool, true, false, cond, ◌&&◌, false≢true}
use Prim.Native.Nat.{ℕ, ◌<◌, ◌≤◌}
use native.Mathlib.Nat.{le_refl}
use native.Mathlib.Omega.{arith}
use lib.Dec.{ltb, leb}
use borrow.Author.Tests.{lt-ltb, le-ltb, lt-leb, le-leb, ltb-true, ltb-false, leb-true}
use Rattle.words.specs.Bits.{within}
use Rattle.words.specs.Search.{first_invalid}
use Rattle.std.specs.Prelude.{Result, Err}
use Rattle.std.specs.Result.{IsErrAnd}
use Rattle.std.proofs.lemmas.Result.{err_from_is_err_and}
use Rattle.words.specs.Answers.{Answer, AnswerWith, accepted, refused, answer_of, answer_with, with_figures, need, need_none, need_all, after}
use Rattle.words.specs.Refusals.{number_of}
use Rattle.words.specs.declared.Refusal.{Refusal}
use Rattle.words.proofs.Meaning.{valid_before, first_only, none_either}
use Rattle.words.proofs.Signed.{by_test, by_less}

-- ---- forwards: v is what a function returns, as an answer

-- what `refuse` gave
pub refused_by : {A : Type 0} (value : A → ℕ) (v : Result A Refusal) {r : Refusal} → v ≡ Err r → answer_of value v ≡ refused (number_of r.reason) r.place
refused_by value v e = ap (answer_of value) e

-- and what a `?` gives on
pub refused_on : {B : Type 0} (value : B → ℕ) (v : Result B Refusal) (r : Refusal) (a : Answer) → IsErrAnd v (λ e. e ≡ r) → refused (number_of r.reason) r.place ≡ a → answer_of value v ≡ a
refused_on value v r a is q = let p = err_from_is_err_and v is in rw (p.1, p.2) q

-- a test that failed, and one that held
pub need_failed : (ok : Bool) (n k : ℕ) (next v : Answer) → ok ≡ false → v ≡ refused n k → v ≡ need ok n k next
unfolding need
need_failed ok n k next v e q = q ∙ ap (λ (b : Bool). cond b next (refused n k)) (sym e)

pub need_next : (ok : Bool) (n k : ℕ) (next v : Answer) → ok ≡ true → v ≡ next → v ≡ need ok n k next
unfolding need
need_next ok n k next v e q = q ∙ ap (λ (b : Bool). cond b next (refused n k)) (sym e)

-- what a function's flag b says of its test, where the program tests `!b`
pub flag_false : (b ok : Bool) → b ≡ ok → b ≡ false → ok ≡ false
flag_false b ok e f = sym e ∙ f

pub flag_true : (b ok : Bool) → b ≡ ok → b ≡ true → ok ≡ true
flag_true b ok e f = sym e ∙ f

-- a search that found none; `place` is what the program's search gave
pub found_none : (n place p end : ℕ) (next v : Answer) → place ≡ p → end ≤ place → v ≡ next → v ≡ need_none n p end next
unfolding need_none
found_none n place p end next v e h q =
    q ∙ ap (λ (b : Bool). cond b (refused n place) next) (sym (le-ltb place end h)) ∙ ap (λ (x : ℕ). cond (ltb x end) (refused n x) next) e

-- the tests before, whose answer is known: a refusal, which is the answer, and that they were passed
pub after_first : (n k : ℕ) (before next : Answer) → refused n k ≡ before → refused n k ≡ after before next
unfolding after
after_first n k before next e = ap (λ (a : Answer). cond a.done next a) e

pub after_next : (x : ℕ) (before next v : Answer) → accepted x ≡ before → v ≡ next → v ≡ after before next
unfolding after
after_next x before next v e q = q ∙ ap (λ (a : Answer). cond a.done next a) e

-- a test whose answer is known: a refusal, which is the answer whatever follows, and that it was passed
pub need_stops : (ok : Bool) (n k : ℕ) (next : Answer) (m j : ℕ) → refused m j ≡ need ok n k (accepted 0) → refused m j ≡ need ok n k next
unfolding need
need_stops true n k next m j e = absurd (false≢true (ap (λ (a : Answer). a.done) e))
need_stops false n k next m j e = e

pub need_passes : (ok : Bool) (n k : ℕ) (next v : Answer) (x : ℕ) → accepted x ≡ need ok n k (accepted 0) → v ≡ next → v ≡ need ok n k next
unfolding need
need_passes true n k next v x e q = q
need_passes false n k next v x e q = absurd (false≢true (ap (λ (a : Answer). a.done) (sym e)))

-- where it was passed, it held
pub need_held : (ok : Bool) (n k x : ℕ) → accepted x ≡ need ok n k (accepted 0) → ok ≡ true
unfolding need
need_held true n k x e = refl
need_held false n k x e = absurd (false≢true (ap (λ (a : Answer). a.done) (sym e)))

-- a search, where the program gives `need` the test that its place is not before the end
need_found : (n place end : ℕ) (next : Answer) → need (leb end place) n place next ≡ need_none n place end next
unfolding need need_none
need_found n place end next = by_less place end (λ lt. rw (lt-ltb place end lt, lt-leb end place lt) refl) (λ le. rw (le-ltb place end le, le-leb end place le) refl)

pub found_by : (n place p end : ℕ) (next v : Answer) → place ≡ p → v ≡ need (leb end place) n place next → v ≡ need_none n p end next
found_by n place p end next v e q = q ∙ need_found n place end next ∙ ap (λ (x : ℕ). need_none n x end next) e

-- what a return's answer is found from
pub ruleset answers = (refused_by, need_failed, need_next, flag_false, flag_true, found_none, lt-leb, le-leb, lt-ltb, le-ltb)

-- an answer with figures: what a `?` gives on, and the figures of a call whose tests were passed
pub with_refused : {F : Type 0} (if_refused figures : F) (v : Result F Refusal) (r : Refusal) (a : Answer) → IsErrAnd v (λ e. e ≡ r) →
    refused (number_of r.reason) r.place ≡ a → answer_with if_refused v ≡ with_figures if_refused a figures
with_refused if_refused figures v r a is e = let p = err_from_is_err_and v is in rw (p.1, p.2) (ap (λ (x : Answer). with_figures if_refused x figures) e)

pub with_passed : {F : Type 0} (if_refused figures f : F) (a : Answer) → accepted 0 ≡ a → f ≡ figures →
    ◌≡◌ {A = AnswerWith F} (record { answer = accepted 0; figures = f }) (with_figures if_refused a figures)
with_passed if_refused figures f a e q = rw q (ap (λ (x : Answer). with_figures if_refused x figures) e)

-- ---- backwards: an answer that is accepted failed no test

module _ (n : ℕ) (k : ℕ) (next : Answer) where
  pub need_accepted : (ok : Bool) → (need ok n k next).done ≡ true → (ok ≡ true) × (next.done ≡ true)
  unfolding need
  need_accepted true h = (refl, h)
  need_accepted false h = absurd (false≢true h)

pub need_none_accepted : (n place end : ℕ) (next : Answer) → (need_none n place end next).done ≡ true → (end ≤ place) × (next.done ≡ true)
unfolding need_none
need_none_accepted n place end next h = case (ltb place end) refl h
  where
    case : (b : Bool) → ltb place end ≡ b → (cond b (refused n place) next).done ≡ true → (end ≤ place) × (next.done ≡ true)
    case true e h = absurd (false≢true h)
    case false e h = (ltb-false place end e, h)

-- each place of a search that found nothing is valid
pub need_all_accepted : (n : ℕ) (valid : ℕ → Bool) (from to : ℕ) (next : Answer) → (need_all n valid from to next).done ≡ true →
    ((k : ℕ) → from ≤ k → k < to → valid k ≡ true) × (next.done ≡ true)
need_all_accepted n valid from to next e =
    let s = need_none_accepted n (first_invalid valid from to) to next e in
    let le = s.0 in
    ((λ k p q. valid_before valid from to k p (omega arith)), s.1)

module _ (next : Answer) where
  pub after_accepted : (before : Answer) → (after before next).done ≡ true → (before.done ≡ true) × (next.done ≡ true)
  unfolding after
  after_accepted before h =
      by_test (λ (a : Answer). a.done ≡ true → (before.done ≡ true) × (next.done ≡ true)) before.done next before (λ e h. (e, h)) (λ e h. absurd (false≢true (sym e ∙ h))) h

  pub after_is : (before : Answer) → before.done ≡ true → next ≡ after before next
  unfolding after
  after_is before e = ap (λ (b : Bool). cond b next before) (sym e)

-- and the other way round: tests that hold are passed
pub need_is : (ok : Bool) (n k : ℕ) (next : Answer) → ok ≡ true → next ≡ need ok n k next
need_is ok n k next e = need_next ok n k next next e refl

pub need_all_is : (n : ℕ) (valid : ℕ → Bool) (from to : ℕ) (next : Answer) → from ≤ to → ((k : ℕ) → from ≤ k → k < to → valid k ≡ true) → next ≡ need_all n valid from to next
need_all_is n valid from to next le h =
    found_none n to (first_invalid valid from to) to next next
    (first_only valid from to to (record { low = le; high = le_refl to; before = h; invalid = λ lt. absurd (omega arith) }))
    (le_refl to)
    refl

-- ---- a conjunction of tests

pub and_left : (a b : Bool) → (a && b) ≡ true → a ≡ true
and_left true b h = refl
and_left false b h = absurd (false≢true h)

pub and_right : (a b : Bool) → (a && b) ≡ true → b ≡ true
and_right true b h = h
and_right false b h = absurd (false≢true h)

pub within_least : (least most x : ℕ) → within least most x ≡ true → least ≤ x
unfolding within
within_least least most x h = leb-true least x (and_left _ _ h)

pub within_most : (least most x : ℕ) → within least most x ≡ true → x ≤ most
unfolding within
within_most least most x h = leb-true x most (and_right (leb least x) _ h)

-- ---- what every ending of a chain of tests has, its answer has

module _ (P : Answer → Type 0) where
  pub need_either : (ok : Bool) (n k : ℕ) (next : Answer) → P (refused n k) → P next → P (need ok n k next)
  unfolding need
  need_either ok n k next r h = by_test P ok next (refused n k) (λ _. h) (λ _. r)

  pub need_none_either : (n place end : ℕ) (next : Answer) → P (refused n place) → P next → P (need_none n place end next)
  unfolding need_none
  need_none_either n place end next r h = by_test P (ltb place end) (refused n place) next (λ _. r) (λ _. h)

  pub after_either : (before next : Answer) → P before → P next → P (after before next)
  unfolding after
  after_either before next b h = by_test P before.done next before (λ _. h) (λ _. b)

-- ---- two chains of tests that agree: what their endings have in common, their answers have

pub cond_both : {A : Type 0} (R : A → A → Type 0) (c c' : Bool) (x y x' y' : A) → c ≡ c' → (c ≡ true → R x x') → (c ≡ false → R y y') → R (cond c x y) (cond c' x' y')
cond_both R true true x y x' y' e f g = f refl
cond_both R true false x y x' y' e f g = absurd (false≢true (sym e))
cond_both R false true x y x' y' e f g = absurd (false≢true e)
cond_both R false false x y x' y' e f g = g refl

ltb_same : (x y end : ℕ) → (end ≤ y → end ≤ x) → (end ≤ x → end ≤ y) → ltb x end ≡ ltb y end
ltb_same x y end f g = case (ltb x end) (ltb y end) refl refl
  where
    case : (b c : Bool) → ltb x end ≡ b → ltb y end ≡ c → b ≡ c
    case true true p q = refl
    case true false p q = let less = ltb-true x end p in let le = f (ltb-false y end q) in absurd (omega arith)
    case false true p q = let less = ltb-true y end q in let le = g (ltb-false x end p) in absurd (omega arith)
    case false false p q = refl

module _ (R : Answer → Answer → Type 0) where
  pub need_both : (ok ok' : Bool) (n k k' : ℕ) (next next' : Answer) → ok ≡ ok' → R (refused n k) (refused n k') → (ok ≡ true → R next next') → R (need ok n k next) (need ok' n k' next')
  unfolding need
  need_both ok ok' n k k' next next' e r f = cond_both R ok ok' next _ next' _ e f (λ _. r)

  pub after_both : (before before' next next' : Answer) → before.done ≡ before'.done → R before before' → (before.done ≡ true → R next next') → R (after before next) (after before' next')
  unfolding after
  after_both before before' next next' e r f = cond_both R before.done before'.done next before next' before' e f (λ _. r)

  -- two searches of one range, where all is valid by the one test exactly if it is by the other
  pub need_all_both : (n : ℕ) (valid valid' : ℕ → Bool) (from to : ℕ) (next next' : Answer) →
      (((k : ℕ) → from ≤ k → k < to → valid k ≡ true) → (k : ℕ) → from ≤ k → k < to → valid' k ≡ true) →
      (((k : ℕ) → from ≤ k → k < to → valid' k ≡ true) → (k : ℕ) → from ≤ k → k < to → valid k ≡ true) →
      R (refused n (first_invalid valid from to)) (refused n (first_invalid valid' from to)) →
      (((k : ℕ) → from ≤ k → k < to → valid k ≡ true) → R next next') →
      R (need_all n valid from to next) (need_all n valid' from to next')
  unfolding need_none
  need_all_both n valid valid' from to next next' all back r f =
      cond_both R (ltb (first_invalid valid from to) to) (ltb (first_invalid valid' from to) to) _ next _ next'
      (ltb_same _ _ to (none_either valid' valid from to back) (none_either valid valid' from to all))
      (λ _. r)
      (λ e. f (λ k lo hi. valid_before valid from to k lo (omega (arith, ltb-false (first_invalid valid from to) to e))))
