-- What a call leaves, by the answer of its tests. Assumes nothing.
use mathlib.Core.Path.{◌≡◌, refl, sym, ap, ◌∙◌}
use mathlib.Core.Bool.{Bool, true, false, cond}
use mathlib.Core.List.{List, []}
use Prim.Native.Nat.{ℕ}
use Rattle.std.specs.Prelude.{Result}
use Rattle.std.specs.Result.{IsErrAnd}
use Rattle.words.specs.Answers.{Answer, accepted, refused, answer_of}
use Rattle.words.specs.Effect.{Effect, effect, written, commit, commit_both}
use Rattle.words.specs.Refusals.{number_of}
use Rattle.words.specs.declared.Refusal.{Refusal}
use Rattle.words.proofs.Answers.{cond_both, refused_on}

-- ---- a slice after a call that was accepted, and after one that was not

pub written_old : (a : Answer) (old new : List ℕ) → a.done ≡ false → written a old new ≡ old
unfolding written
written_old a old new e = ap (λ (t : Bool). cond t new old) e

pub written_new : (a : Answer) (old new : List ℕ) → a.done ≡ true → written a old new ≡ new
unfolding written
written_new a old new e = ap (λ (t : Bool). cond t new old) e

-- after two calls that were both accepted or both not
pub written_both : (R : List ℕ → List ℕ → Type 0) (a a' : Answer) (old new old' new' : List ℕ) → a.done ≡ a'.done → R old old' → (a.done ≡ true → R new new') →
    R (written a old new) (written a' old' new')
unfolding written
written_both R a a' old new old' new' e r f = cond_both R a.done a'.done new old new' old' e f (λ _. r)

-- what a call leaves, part by part
module _ {a : Answer} {b x : List ℕ} {m : Effect} (e : effect a b x ≡ m) where
  pub effect_answer : a ≡ m.answer
  effect_answer = ap (λ (n : Effect). n.answer) e

  pub effect_book : b ≡ m.book
  effect_book = ap (λ (n : Effect). n.book) e

  pub effect_output : x ≡ m.output
  effect_output = ap (λ (n : Effect). n.output) e

-- ---- what a call's returns are found from

pub effect_same : (a a' : Answer) (b b' x x' : List ℕ) → a ≡ a' → b ≡ b' → x ≡ x' → effect a b x ≡ effect a' b' x'
effect_same a a' b b' x x' p q r = rw (p, q, r)

-- a is the answer of the tests before
module _ (a : Answer) where
  -- they were passed: the slice holds what was written
  module _ (x : ℕ) (e : accepted x ≡ a) where
    pub passed_done : a.done ≡ true
    passed_done = ap (λ (n : Answer). n.done) (sym e)

    pub passed_written : (old new now : List ℕ) → now ≡ new → now ≡ written a old new
    passed_written old new now q = q ∙ sym (written_new a old new passed_done)

    pub commit_passed : (old new now : List ℕ) → now ≡ new → effect (accepted x) now [] ≡ commit a old new
    commit_passed old new now q = effect_same _ a _ _ [] [] e (passed_written old new now q) refl

    pub commit_both_passed : (old new now old_output new_output output : List ℕ) → now ≡ new → output ≡ new_output →
        effect (accepted x) now output ≡ commit_both a old new old_output new_output
    commit_both_passed old new now old_output new_output output p q =
        effect_same _ a _ _ _ _ e (passed_written old new now p) (passed_written old_output new_output output q)

  -- one refused, and v is what a `?` gives on: the slice holds what it held
  module _ {B : Type 0} (value : B → ℕ) (v : Result B Refusal) (r : Refusal) (is : IsErrAnd v (λ d. d ≡ r)) (e : refused (number_of r.reason) r.place ≡ a) where
    refused_done : a.done ≡ false
    refused_done = ap (λ (n : Answer). n.done) (sym e)

    pub refused_written : (old new : List ℕ) → old ≡ written a old new
    refused_written old new = sym (written_old a old new refused_done)

    pub commit_refused : (old new : List ℕ) → effect (answer_of value v) old [] ≡ commit a old new
    commit_refused old new = effect_same _ a _ _ [] [] (refused_on value v r a is e) (refused_written old new) refl

    pub commit_both_refused : (old new old_output new_output : List ℕ) → effect (answer_of value v) old old_output ≡ commit_both a old new old_output new_output
    commit_both_refused old new old_output new_output =
        effect_same _ a _ _ _ _ (refused_on value v r a is e) (refused_written old new) (refused_written old_output new_output)
