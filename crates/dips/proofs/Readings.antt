-- The readings of a recording, tried one after the other. Assumes nothing.
use mathlib.Core.Path.{◌≡◌, refl, sym, ap, ◌∙◌, subst}
use Prim.Native.Nat.{ℕ, zero, suc, ◌+◌, ◌-◌, ◌<◌, ◌≤◌}
use native.Mathlib.Omega.{arith}
use lib.Ieee.{Float}
use lib.ListN.{length}
use mathlib.Core.Bool.{true}
use Rattle.std.specs.Prelude.{Result, Ok, Err}
use Rattle.std.specs.Result.{result_unwrap_or}
use Rattle.words.specs.Answers.{Answer, accepted, refused, amount, need, after}
use Rattle.words.specs.declared.Refusal.{Refusal}
use Rattle.words.proofs.Signed.{by_equal}
use Rattle.words.proofs.Answers.{after_first, after_next, after_accepted, need_accepted, need_is}
use Rattle.reading.specs.Depth.{core}
use Rattle.dips.specs.declared.Dip.{Dip}
use Rattle.dips.specs.Dips.{Recorded, dip, mm_of, reading_checked, dip_checked, readings_checked, all_readings_checked}

-- ---- one reading, by what `core` answers
module _ (k : ℕ) (x : Float) where
  pub reading_passed : (v : ℕ) → accepted v ≡ core x → accepted 0 ≡ reading_checked k x
  unfolding reading_checked need
  reading_passed v e = rw (← e)

  pub reading_refused : (n place : ℕ) → refused n place ≡ core x → refused n k ≡ reading_checked k x
  unfolding reading_checked need
  reading_refused n place e = rw (← e)

-- a refused reading has the value 0
pub mm_by : (x : Float) (v : Result ℕ Refusal) → amount v ≡ core x → result_unwrap_or v 0 ≡ mm_of x
mm_by x (Ok n) e = ap (λ (a : Answer). a.value) e
mm_by x (Err r) e = ap (λ (a : Answer). a.value) e

-- ---- a recording's, when those before place k were passed
pub record PassedTo (r : Recorded) (k : ℕ) : Type 0 where
  pub low : k ≤ length r.days
  pub rest : all_readings_checked r ≡ readings_checked r k (length r.days - k)

module _ {r : Recorded} where
  pub passed_none : PassedTo r 0
  passed_none = let whole : length r.days ≡ length r.days - 0 = omega arith in record { low = omega arith; rest = ap (readings_checked r 0) whole }

  module _ {k : ℕ} (p : PassedTo r k) (lt : k < length r.days) where
    one_more : readings_checked r k (length r.days - k) ≡ after (dip_checked k (dip r k)) (readings_checked r (suc k) (length r.days - suc k))
    unfolding readings_checked
    one_more = let more : length r.days - k ≡ suc (length r.days - suc k) = omega arith in ap (readings_checked r k) more

    pub passed_next : accepted 0 ≡ dip_checked k (dip r k) → PassedTo r (k + 1)
    passed_next e =
        let next : suc k ≡ k + 1 = omega arith in
        record { low = omega arith; rest = p.rest ∙ one_more ∙ sym (after_next _ _ _ _ e refl) ∙ ap (λ (i : ℕ). readings_checked r i (length r.days - i)) next }

    pub passed_stop : (n place : ℕ) → refused n place ≡ dip_checked k (dip r k) → refused n place ≡ all_readings_checked r
    passed_stop n place e = after_first _ _ _ _ e ∙ sym one_more ∙ sym p.rest

  pub passed_all : {k : ℕ} → PassedTo r k → length r.days ≤ k → accepted 0 ≡ all_readings_checked r
  unfolding readings_checked
  passed_all {k} p h = let none : length r.days - k ≡ 0 = omega arith in sym (p.rest ∙ ap (readings_checked r k) none)

-- ---- readings that are passed

-- both of a dip
abbrev pub Read : Dip → Type 0
Read d = ((core d.depth).done ≡ true) × ((core d.tolerance).done ≡ true)

dip_read : (k : ℕ) (d : Dip) → (dip_checked k d).done ≡ true → Read d
unfolding dip_checked reading_checked
dip_read k d h =
    let both = after_accepted (reading_checked k d.tolerance) (reading_checked k d.depth) h in
    ((need_accepted (core d.depth).number k (accepted 0) (core d.depth).done both.0).0, (need_accepted (core d.tolerance).number k (accepted 0) (core d.tolerance).done both.1).0)

read_passed : (k : ℕ) (d : Dip) → Read d → accepted 0 ≡ dip_checked k d
unfolding dip_checked reading_checked
read_passed k d r = after_next 0 _ _ _ (need_is _ _ _ _ r.0) (need_is _ _ _ _ r.1)

module _ (r : Recorded) where
  pub readings_read : (k n : ℕ) → (readings_checked r k n).done ≡ true → (i : ℕ) → k ≤ i → i < k + n → Read (dip r i)
  unfolding readings_checked
  readings_read k zero h i low lt = absurd (omega arith)
  readings_read k (suc n) h i low lt =
      let both = after_accepted (readings_checked r (suc k) n) (dip_checked k (dip r k)) h in
      by_equal k i (λ same. subst (λ (m : ℕ). Read (dip r m)) same (dip_read k (dip r k) both.0))
      (λ other. readings_read (suc k) n both.1 i (omega arith) (omega arith))

  pub readings_passed : (k n : ℕ) → ((i : ℕ) → k ≤ i → i < k + n → Read (dip r i)) → accepted 0 ≡ readings_checked r k n
  unfolding readings_checked
  readings_passed k zero h = refl
  readings_passed k (suc n) h =
      after_next 0 _ _ _ (read_passed k (dip r k) (h k (omega arith) (omega arith))) (readings_passed (suc k) n (λ i low lt. h i (omega arith) (omega arith)))
