-- How much peat a book can have, how large a balance can be, and what is issued after an issue. Assumes nothing.
use mathlib.Core.Path.{◌≡◌, refl}
use mathlib.Core.List.{List}
use Prim.Native.Nat.{ℕ, ◌+◌, ◌*◌, ◌^◌, ◌≤◌, ◌<◌, max}
use native.Mathlib.Nat.{mul-le-mul_right}
use native.Mathlib.Omega.{arith}
use lib.IntN.{ℤ, pos, nat_abs}
use Rattle.words.specs.Bits.{at_least_0}
use Rattle.words.specs.Sums.{sum_below}
use Rattle.words.proofs.Sums.{sum_next, sum_same, sum_most}
use Rattle.words.proofs.Signed.{size_add, size_minus, at_least_0_size, at_least_0_add, at_least_0_less}
use Rattle.fields.specs.Words.{most_buffer}
use Rattle.listing.specs.Layout.{head, cells}
use Rattle.listing.specs.Accepted.{Accepted}
use Rattle.terms.specs.Terms.{terms_to_date, most_term_sum, most_term_sum_below}
use Rattle.terms.proofs.Sums.{terms_size, terms_most}
use Rattle.year.specs.Year.{most_emission}
use Rattle.year.proofs.Laws.{emission_most}
use Rattle.book.specs.Current.{current, issued, kg_to_date, AcceptedBook}
use Rattle.book.specs.Layout.{issued_words, year}
use Rattle.balance.specs.Balance.{peat_tonnes, most_peat, to_date, withheld, balance_of, balance, most_balance, most_tonnes, due, balance_in, tonnes_due}

-- ---- peat: each cell has its most
module _ (l b : List ℕ) (accepted_book : AcceptedBook l b) where
  pub kg_most : (n : ℕ) → n ≤ cells l → sum_below (kg_to_date l b) n ≤ most_emission * n
  kg_most n h = sum_most (kg_to_date l b) most_emission n (λ i p. emission_most (accepted_book.words_valid i (omega arith)).fit)

  pub peat_most : peat_tonnes l (kg_to_date l b) ≤ most_peat
  unfolding peat_tonnes
  peat_most = let cells_most = accepted_book.fitted.accepted.head_valid.cells.1 in omega (arith, kg_most (cells l) (omega arith))

-- an iteration of the sum: kg is the sum so far, and r the kg to date of cell i; with r it is that of one cell more, and fits
pub kg_next : (l b : List ℕ) → AcceptedBook l b → {i kg r : ℕ} → i < cells l → kg ≡ sum_below (kg_to_date l b) i → r ≡ kg_to_date l b i →
    (kg + r ≡ sum_below (kg_to_date l b) (i + 1)) × (kg + r < 2 ^ 64)
kg_next l b accepted_book {i} {kg} {r} lt pk pr =
    let cells_most = accepted_book.fitted.accepted.head_valid.cells.1 in
    let adds : kg + r ≡ sum_below (kg_to_date l b) (i + 1) = sum_next (kg_to_date l b) i pk pr in
    (adds, omega (arith, kg_most l b accepted_book (i + 1) (omega arith)))

-- ---- the balance
pub held_size : (p : ℕ) (s : ℤ) → p ≤ most_buffer → withheld p s ≤ nat_abs s
unfolding withheld
held_size p s h = omega (arith, mul-le-mul_right (at_least_0 s) h, at_least_0_size s)

module _ (l : List ℕ) (t peat : ℕ) (a : Accepted l) where
  pub date_size : (last : ℕ) → nat_abs (to_date l t peat last) ≤ peat + most_term_sum_below
  date_size last = omega (arith, size_add (pos peat) (terms_to_date l t last), terms_size l t last a)

  pub balance_size : nat_abs (balance_of l t peat) ≤ 2 * (peat + most_term_sum_below)
  unfolding balance_of
  balance_size =
      let held = withheld (head l).buffer (to_date l t peat 5) in
      omega (arith, held_size (head l).buffer (to_date l t peat 5) a.head_valid.buffer, date_size 5, date_size 8, size_minus (to_date l t peat 8) (pos held))

  -- what is withheld only takes away
  pub balance_most : at_least_0 (balance_of l t peat) ≤ peat + most_term_sum
  unfolding balance_of at_least_0
  balance_most =
      omega (arith, at_least_0_less (to_date l t peat 8) (withheld (head l).buffer (to_date l t peat 5)), at_least_0_add (pos peat) (terms_to_date l t 8), terms_most l t 8 a)

-- it depends on the year, the kg of all cells, the terms and the buffer
pub balance_by : (l l' : List ℕ) (t t' : ℕ) (kg kg' : ℕ → ℕ) → t ≡ t' → sum_below kg (cells l) ≡ sum_below kg' (cells l') → (head l).buffer ≡ (head l').buffer →
    ((u last : ℕ) → terms_to_date l u last ≡ terms_to_date l' u last) → balance l t kg ≡ balance l' t' kg'
unfolding peat_tonnes balance_of
balance_by l l' t t' kg kg' p q buffer terms = rw (p, q, terms t' 8, terms t' 5, buffer)

pub balance_same : (l : List ℕ) (t u : ℕ) (f g : ℕ → ℕ) → t ≡ u → ((i : ℕ) → i < cells l → f i ≡ g i) → balance l t f ≡ balance l u g
balance_same l t u f g p q = balance_by l l t u f g p (sum_same f g (cells l) q) refl (λ v last. refl)

-- by an accepted book it fits an i64, and an issue of it a word
pub balance_fits : (l b : List ℕ) → AcceptedBook l b → (nat_abs (balance_in l b) ≤ most_tonnes) × (at_least_0 (balance_in l b) ≤ most_balance)
balance_fits l b s =
    let a = s.fitted.accepted in
    let peat = peat_tonnes l (kg_to_date l b) in
    (omega (arith, balance_size l (year b) peat a, peat_most l b s), omega (arith, balance_most l (year b) peat a, peat_most l b s))

-- ---- an issue
-- it raises the tonnes issued to the balance z
pub issue_max : (z : ℤ) (tonnes : ℕ) → tonnes + due z tonnes ≡ max (at_least_0 z) tonnes
unfolding due
issue_max z tonnes = omega (arith, at_least_0_less z tonnes)

pub issued_fits : (l b : List ℕ) → AcceptedBook l b → issued b + tonnes_due l b < 2 ^ (28 * issued_words current)
issued_fits l b s = omega (arith, s.issued, issue_max (balance_in l b) (issued b), (balance_fits l b s).1)
