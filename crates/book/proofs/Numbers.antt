-- A number in several words: its bound, what it is read from, and what a store of it leaves. Assumes nothing.
use mathlib.Core.Path.{◌≡◌, refl, ap, ap₂, ◌∙◌}
use mathlib.Core.Bool.{true}
use mathlib.Core.Logic.{⊎_elim}
use mathlib.Core.List.{List}
use Prim.Native.Nat.{ℕ, zero, suc, ◌+◌, ◌*◌, ◌/◌, ◌%◌, ◌^◌, ◌≤◌, ◌<◌}
use native.Mathlib.Nat.{mul-suc, eq-or-lt_of_le, le_of_suc-le-suc}
use native.Mathlib.Omega.{arith}
use lib.Arith.{digits_lt}
use lib.ListN.{length, get_or, set, length-set}
use lib.Pow.{pow-add, shr_lt}
use lib.Seq.{get_or-set_same, get_or-set_other, set_comm}
use Rattle.words.specs.Bits.{word_of, is_kind}
use Rattle.words.specs.Blocks.{filled}
use Rattle.words.proofs.Blocks.{filled_set}
use Rattle.words.proofs.Fields.{field_below}
use Rattle.words.proofs.Signed.{by_equal}
use Rattle.book.specs.Layout.{payload, joined, stored}
use Rattle.book.proofs.Words.{payload_of, kind_of}

pub joined_below : (b : List ℕ) (from n : ℕ) → joined b from n < 2 ^ (28 * n)
unfolding joined
joined_below b from zero = omega arith
joined_below b from (suc n) = rw (mul-suc 28 n, pow-add 2 (28 * n) 28) (digits_lt (joined_below b from n) (field_below (get_or b (from + n) 0) 0 28))

-- one word holds less than 2 ^ 28
pub joined_one : (b : List ℕ) (from n : ℕ) → n < 2 → joined b from n < 2 ^ 28
joined_one b from zero h = omega (arith, joined_below b from 0)
joined_one b from (suc zero) h = joined_below b from 1
joined_one b from (suc (suc n)) h = absurd (omega arith)

-- it is read from its own words
pub joined_same : (x y : List ℕ) (from n : ℕ) → ((j : ℕ) → j < n → get_or x (from + j) 0 ≡ get_or y (from + j) 0) → joined x from n ≡ joined y from n
unfolding joined
joined_same x y from zero e = refl
joined_same x y from (suc n) e = ap₂ (λ (m w : ℕ). m * 2 ^ 28 + payload w) (joined_same x y from n (λ j h. e j (omega arith))) (e n (omega arith))

-- and not from a word elsewhere
pub joined_kept : (b : List ℕ) (k w from n : ℕ) → (from ≤ k → from + n ≤ k) → joined (set b k w) from n ≡ joined b from n
joined_kept b k w from n out = joined_same (set b k w) b from n (λ j h. get_or-set_other b k (from + j) w 0 (λ q. let far = out (omega arith) in omega arith))

-- a store of it keeps what each of its stores keeps
pub stored_keeps :
    (P : List ℕ → Type 0) (kind from n x : ℕ) (b : List ℕ) → ((d : List ℕ) (k w : ℕ) → from ≤ k → k < from + n → w < 2 ^ 28 → P d → P (set d k (word_of kind w))) →
    P b → P (stored kind b from n x)
unfolding stored
stored_keeps P kind from zero x b step p = p
stored_keeps P kind from (suc n) x b step p =
    stored_keeps P kind from n (x / 2 ^ 28) _ (λ d k w h lt. step d k w h (omega arith)) (step b (from + n) (x % 2 ^ 28) (omega arith) (omega arith) (omega arith) p)

pub length_stored : (kind from n x : ℕ) (b : List ℕ) → length (stored kind b from n x) ≡ length b
length_stored kind from n x b = stored_keeps (λ (d : List ℕ). length d ≡ length b) kind from n x b (λ d k w h lt small e. length-set d k (word_of kind w) ∙ e) refl

-- a number elsewhere is as it was
pub joined_beside : (kind from n x : ℕ) (b : List ℕ) (from' n' : ℕ) → (from' < from + n → from' + n' ≤ from) → joined (stored kind b from n x) from' n' ≡ joined b from' n'
joined_beside kind from n x b from' n' out =
    stored_keeps (λ (d : List ℕ). joined d from' n' ≡ joined b from' n') kind from n x b
    (λ d k w h lt small e. joined_kept d k (word_of kind w) from' n' (λ le. let near = out (omega arith) in omega arith) ∙ e)
    refl

-- a word elsewhere is as it was
pub stored_outside : (kind from n x k : ℕ) (b : List ℕ) → (from ≤ k → from + n ≤ k) → get_or (stored kind b from n x) k 0 ≡ get_or b k 0
stored_outside kind from n x k b out =
    stored_keeps (λ (d : List ℕ). get_or d k 0 ≡ get_or b k 0) kind from n x b
    (λ d m w h below small e. get_or-set_other d m k (word_of kind w) 0 (λ q. let far = out (omega arith) in omega arith) ∙ e) refl

-- and it is read back
pub joined_stored : (kind from n x : ℕ) (b : List ℕ) → from + n ≤ length b → x < 2 ^ (28 * n) → joined (stored kind b from n x) from n ≡ x
unfolding joined stored
joined_stored kind from zero x b capacity h = omega arith
joined_stored kind from (suc n) x b capacity h =
    let w = word_of kind (x % 2 ^ 28) in
    let d = set b (from + n) w in
    let high : joined (stored kind d from n (x / 2 ^ 28)) from n ≡ x / 2 ^ 28 =
    joined_stored kind from n (x / 2 ^ 28) d (omega (arith, length-set b (from + n) w)) (shr_lt (28 * n) 28 (rw mul-suc at h)) in
    let low : payload (get_or (stored kind d from n (x / 2 ^ 28)) (from + n) 0) ≡ x % 2 ^ 28 =
    ap payload (stored_outside kind from n (x / 2 ^ 28) (from + n) d (λ le. omega arith) ∙ get_or-set_same b (from + n) w 0 (omega arith)) ∙ payload_of kind (x % 2 ^ 28) (omega arith) in
    ap₂ (λ (m r : ℕ). m * 2 ^ 28 + r) high low ∙ omega arith

-- two lists that agree beside it agree everywhere once it is stored in both
pub stored_same : (kind from n x k : ℕ) (b b' : List ℕ) → from + n ≤ length b → from + n ≤ length b' → ((from ≤ k → from + n ≤ k) → get_or b k 0 ≡ get_or b' k 0) →
    get_or (stored kind b from n x) k 0 ≡ get_or (stored kind b' from n x) k 0
unfolding stored
stored_same kind from zero x k b b' capacity capacity' same = same (λ le. omega arith)
stored_same kind from (suc n) x k b b' capacity capacity' same =
    let w = word_of kind (x % 2 ^ 28) in
    stored_same kind from n (x / 2 ^ 28) k (set b (from + n) w) (set b' (from + n) w) (rw length-set (omega arith)) (rw length-set (omega arith))
    (λ beside.
    by_equal k (from + n)
    (λ here. rw (here, get_or-set_same b (from + n) w 0 (omega arith), get_or-set_same b' (from + n) w 0 (omega arith)))
    (λ other.
    rw (get_or-set_other b (from + n) k w 0 other, get_or-set_other b' (from + n) k w 0 other)
    (same (λ le. let far = beside le in omega arith))))

-- each word of it is of its kind
pub stored_kind : (kind from n x : ℕ) (b : List ℕ) → kind < 16 → from + n ≤ length b → (j : ℕ) → j < n → is_kind kind (get_or (stored kind b from n x) (from + j) 0) ≡ true
unfolding stored
stored_kind kind from zero x b small capacity j lt = absurd (omega arith)
stored_kind kind from (suc n) x b small capacity j lt =
    let w = word_of kind (x % 2 ^ 28) in
    let d = set b (from + n) w in
    ⊎_elim
    (λ (e : j ≡ n). rw (e, stored_outside kind from n (x / 2 ^ 28) (from + n) d (λ le. omega arith), get_or-set_same b (from + n) w 0 (omega arith)) (kind_of kind (x % 2 ^ 28) small (omega arith)))
    (λ (l : j < n). stored_kind kind from n (x / 2 ^ 28) d small (omega (arith, length-set b (from + n) w)) j l)
    (eq-or-lt_of_le (le_of_suc-le-suc lt))

-- it goes past a store before it, and past blocks behind it
pub stored_set : (kind from n x k w : ℕ) (b : List ℕ) → k < from → set (stored kind b from n x) k w ≡ stored kind (set b k w) from n x
unfolding stored
stored_set kind from zero x k w b h = refl
stored_set kind from (suc n) x k w b h =
    stored_set kind from n (x / 2 ^ 28) k w _ h
    ∙ ap (λ (d : List ℕ). stored kind d from n (x / 2 ^ 28)) (set_comm b (from + n) k (word_of kind (x % 2 ^ 28)) w (λ q. omega arith))

pub stored_filled : (kind from n x size at : ℕ) (b : List ℕ) (f : ℕ → List ℕ) → ((i : ℕ) → length (f i) ≡ size) → (m : ℕ) → at ≤ length b → from + n ≤ at →
    stored kind (filled size b at f m) from n x ≡ filled size (stored kind b from n x) at f m
unfolding stored
stored_filled kind from zero x size at b f sized m capacity front = refl
stored_filled kind from (suc n) x size at b f sized m capacity front =
    let w = word_of kind (x % 2 ^ 28) in
    ap (λ (d : List ℕ). stored kind d from n (x / 2 ^ 28)) (filled_set size b at f sized capacity m (from + n) w (omega arith))
    ∙ stored_filled kind from n (x / 2 ^ 28) size at (set b (from + n) w) f sized m (rw length-set capacity) (omega arith)
