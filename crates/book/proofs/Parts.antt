-- A search that goes part by part: what a part's own search found is what the whole one finds. Assumes nothing.
use mathlib.Core.Path.{◌≡◌, refl, ◌∙◌}
use mathlib.Core.Bool.{Bool, true, false, ◌&&◌, false≢true}
use Prim.Native.Nat.{ℕ, zero, suc, zero-le, ◌+◌, ◌≤◌, ◌<◌}
use native.Mathlib.Omega.{arith}
use Rattle.words.specs.Search.{first_invalid}
use Rattle.words.proofs.Steps.{Passed, passed_more, passed_stop, ValidSoFar}
use Rattle.words.proofs.Meaning.{first_invalid_word_lem}
use Rattle.book.specs.AcceptedBook.{All}

-- n valid places on
pub over : {valid : ℕ → Bool} {from to at : ℕ} (n : ℕ) → Passed valid from to at → at + n ≤ to → ((j : ℕ) → j < n → valid (at + j) ≡ true) → Passed valid from to (at + n)
over {valid} {from} {to} {at} zero p le r = let e : at ≡ at + 0 = omega arith in rw e at p
over {valid} {from} {to} {at} (suc n) p le r =
    let e : at + n + 1 ≡ at + suc n = omega arith in
    rw e at (passed_more (over n p (omega arith) (λ j h. r j (omega arith))) (omega arith) (r n (omega arith)))

-- the part from `at` on has n places
module _ (valid : ℕ → Bool) (from to : ℕ) {at : ℕ} (part : ℕ → Bool) (n : ℕ) (le : at + n ≤ to) (same : (j : ℕ) → j < n → valid (at + j) ≡ part j) where
  -- its own search found x
  module _ (x : ℕ) (p : Passed valid from to at) (e : x ≡ first_invalid part 0 n) where
    pub part_stop : (place : ℕ) → place ≡ at + x → x < n → place ≡ first_invalid valid from to
    part_stop place here lt =
        let f = first_invalid_word_lem part 0 n zero-le in
        here ∙ passed_stop (over x p (omega arith) (λ j h. same j (omega arith) ∙ f.before j zero-le (rw e at h))) (omega arith) (same x lt ∙ rw e (f.invalid (rw e at lt)))

    pub part_more : (next : ℕ) → next ≡ at + n → n ≤ x → Passed valid from to next
    part_more next here h =
        let f = first_invalid_word_lem part 0 n zero-le in
        rw here (over n p le (λ j lt. same j lt ∙ f.before j zero-le (omega arith)))

  -- a pass without an exit tested it by b
  pub part_so_far : (so_far b : Bool) (next : ℕ) → next ≡ at + n → ValidSoFar valid from to at so_far → (b ≡ true → All part n) → ValidSoFar valid from to next (so_far && b)
  part_so_far true b next here p all = record { passed = λ t. rw here (over n (p.passed refl) le (λ j lt. same j lt ∙ (all t).each j lt)) }
  part_so_far false b next here p all = record { passed = λ t. absurd (false≢true t) }
