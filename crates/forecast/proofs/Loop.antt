-- The forecast's loops: what an iteration is given and leaves. Assumes nothing.
use mathlib.Core.Path.{◌≡◌, refl, sym, ap, ap₂, ◌∙◌}
use mathlib.Core.Bool.{Bool, true, false}
use mathlib.Core.List.{List, [], ◌∷◌}
use Prim.Native.Nat.{ℕ, zero-le, ◌+◌, ◌-◌, ◌^◌, ◌≤◌, ◌<◌}
use native.Mathlib.Nat.{le_antisymm}
use native.Mathlib.Omega.{arith}
use lib.ListN.{length, get_or, set, length-set}
use Rattle.std.proofs.lemmas.List.{get_or-set_same, get_or-set_other, get_or_default}
use Rattle.words.specs.Sums.{sum_below}
use Rattle.words.proofs.Blocks.{Filling, filling_none, filling_stored, filling_all}
use Rattle.words.proofs.Signed.{by_equal}
use Rattle.words.proofs.Sums.{sum_none, sum_next}
use Rattle.listing.specs.Layout.{head, cells, horizon, row, cell}
use Rattle.listing.specs.Accepted.{Accepted}
use Rattle.fields.specs.Valid.{RowValid}
use Rattle.fields.specs.declared.Row.{Row}
use Rattle.fields.specs.declared.Cell.{Cell}
use Rattle.year.specs.Year.{inactive, age, mm_of, year_mm, emission, year_loss, after_loss}
use Rattle.year.specs.Limits.{WithinLimits}
use Rattle.year.specs.declared.LostMm.{LostMm}
use Rattle.year.specs.declared.Entry.{Entry}
use Rattle.year.proofs.Laws.{emission_none, mm_inactive, mm_active}
use Rattle.closing.specs.Closable.{CellYear}
use Rattle.closing.proofs.Closable.{cell_year_valid, cell_year_fit}
use Rattle.years.specs.Years.{entries_after}
use Rattle.years.proofs.After.{after_plan, after_next, after_valid}
use Rattle.forecast.specs.declared.CellToDate.{CellToDate}
use Rattle.forecast.specs.Running.{entry_to_date, cell_to_date, next_cell, cell_after, total_after, output_of, CellsAfter}
use Rattle.forecast.proofs.Running.{total_none, total_grows, total_fits}

-- ---- a list that a loop goes through, element after element: the first i of n are g's, and the others f's still
pub record Stepped {A : Type 0} (f g : ℕ → A) (n i : ℕ) (xs : List A) : Type 0 where
  pub enough : n ≤ length xs
  pub at_most : i ≤ n
  pub done : (k : ℕ) (d : A) → k < i → get_or xs k d ≡ g k
  pub left : (k : ℕ) (d : A) → i ≤ k → k < n → get_or xs k d ≡ f k

module _ {A : Type 0} {f g : ℕ → A} {n i : ℕ} {xs : List A} (s : Stepped f g n i xs) where
  -- a step: element i
  pub stepped_next : i < n → {y : A} → y ≡ g i → Stepped f g n (i + 1) (set xs i y)
  stepped_next lt {y} e =
      let enough = s.enough in
      record {
        enough = rw (length-set xs i y) enough;
        at_most = omega arith;
        done =
            λ k d before.
            by_equal k i
            (λ here. rw here (get_or-set_same xs i y d (omega arith) ∙ e))
            (λ other. get_or-set_other xs i k y d other ∙ s.done k d (omega arith));
        left = λ k d from lt. get_or-set_other xs i k y d (λ here. omega arith) ∙ s.left k d (omega arith) lt;
      }

-- ---- the cells, a year in each iteration of the outer loop, and a cell in each of the inner

-- i cells are opened, over the list that was lent
abbrev pub OpenedSoFar : List ℕ → List CellToDate → ℕ → List CellToDate → Type 0
OpenedSoFar l lent i xs = Stepped (λ k. get_or lent k (cell_after l 0 0)) (cell_after l 0) (cells l) i xs

pub opened_none : (l : List ℕ) {lent : List CellToDate} → cells l ≤ length lent → OpenedSoFar l lent 0 lent
opened_none l {lent} enough =
    record {
      enough = enough;
      at_most = zero-le;
      done = λ k d lt. absurd (omega arith);
      left = λ k d from lt. get_or_default lent k d (cell_after l 0 0) (omega arith);
    }

module _ {l : List ℕ} where
  -- the cells of year t, before the first step to year t + 1, and after the last
  year_begins : {t : ℕ} {xs : List CellToDate} → CellsAfter l t xs → Stepped (cell_after l t) (cell_after l (t + 1)) (cells l) 0 xs
  year_begins c = record { enough = c.enough; at_most = omega arith; done = λ k d lt. absurd (omega arith); left = λ k d from lt. c.each k d lt }

  pub cells_all : {f : ℕ → CellToDate} {t i : ℕ} {xs : List CellToDate} → Stepped f (cell_after l t) (cells l) i xs → cells l ≤ i → CellsAfter l t xs
  cells_all s le = record { enough = s.enough; each = λ k d lt. s.done k d (omega arith) }

-- ---- one cell: it was opened, or a year is added

pub opened_is : (l : List ℕ) (i : ℕ) {c : Cell} → c ≡ cell l i → record { cell = c; lost = record { oxidised = 0; burned = 0 }; kg = 0 } ≡ cell_after l 0 i
unfolding entries_after
opened_is l i c_is =
    rw c_is (ap (λ (k : ℕ). record { cell = cell l i; lost = record { oxidised = 0; burned = 0 }; kg = k }) (sym (emission_none (head l) (cell l i))))

-- its entry is that of the cell's own years
entry_after : (l : List ℕ) (t i : ℕ) → entry_to_date (cell_after l t i) ≡ entries_after l t i
entry_after l t i =
    let own = after_plan l i t in
    ap₂ (λ (w : Bool) (p : ℕ). record { withdrawn = w; plan = p; oxidised = (entries_after l t i).oxidised; burned = (entries_after l t i).burned }) (sym own.0) (sym own.1)

-- b is a cell before the year t
module _ (l : List ℕ) (b : CellToDate) (t : ℕ) where
  -- m are the mm of that year
  module _ {m : LostMm} (m_is : m ≡ year_mm (head l) (row l) b.cell (entry_to_date b) t) where
    then_is : record { withdrawn = false; plan = b.cell.conversion; oxidised = b.lost.oxidised + m.oxidised; burned = b.lost.burned + m.burned }
        ≡ after_loss (entry_to_date b) (year_loss (head l) (row l) b.cell (entry_to_date b) t)
    unfolding year_loss
    then_is = rw m_is refl

    pub then_fit : Accepted l → CellYear l b.cell (entry_to_date b) t → WithinLimits (head l) b.cell (b.lost.oxidised + m.oxidised) (b.lost.burned + m.burned)
    then_fit a g =
        let lost = (cell_year_valid a g).lost in
        record { head_valid = a.head_valid; cell_valid = g.cell_valid; lost = omega (arith, ap (λ (e : Entry). e.oxidised + e.burned) then_is, lost) }

    -- nothing was lost: the cell stays as it was
    pub nothing_is : b ≡ cell_to_date (head l) b.cell (entry_to_date b) → m.oxidised + m.burned ≡ 0 → b ≡ next_cell l b t
    nothing_is b_is none =
        let o : b.lost.oxidised ≡ b.lost.oxidised + m.oxidised = omega (arith, none) in
        let u : b.lost.burned ≡ b.lost.burned + m.burned = omega (arith, none) in
        b_is
        ∙ ap (cell_to_date (head l) b.cell)
        (ap₂ (λ (x y : ℕ). record { withdrawn = false; plan = b.cell.conversion; oxidised = x; burned = y }) o u ∙ then_is)

    -- something was: its kg to date are the emission of its mm to date then
    pub lost_is : {kg : ℕ} → kg ≡ emission (head l) b.cell (b.lost.oxidised + m.oxidised) (b.lost.burned + m.burned) →
        record { cell = b.cell; lost = record { oxidised = b.lost.oxidised + m.oxidised; burned = b.lost.burned + m.burned }; kg = kg } ≡ next_cell l b t
    lost_is kg_is = rw kg_is (ap (cell_to_date (head l) b.cell) then_is)

  -- inactive
  pub inactive_is : b ≡ cell_to_date (head l) b.cell (entry_to_date b) → inactive (head l) b.cell (entry_to_date b) t ≡ true → b ≡ next_cell l b t
  inactive_is b_is q = nothing_is (sym (mm_inactive (head l) (row l) b.cell (entry_to_date b) t q)) b_is refl

  -- active: r is the row that was read
  module _ (a : Accepted l) (g : CellYear l b.cell (entry_to_date b) t) {r : Row} (r_is : r ≡ row l b.cell.stratum (age b.cell.conversion t)) where
    pub active_fit : WithinLimits (head l) b.cell (entry_to_date b).oxidised (entry_to_date b).burned × RowValid r
    active_fit = (cell_year_fit a g, rw r_is (a.row_valid b.cell.stratum (age b.cell.conversion t)))

    pub active_is : inactive (head l) b.cell (entry_to_date b) t ≡ false → {m : LostMm} → m ≡ mm_of (head l) b.cell r (entry_to_date b) →
        m ≡ year_mm (head l) (row l) b.cell (entry_to_date b) t
    active_is q m_is = (rw r_is at m_is) ∙ sym (mm_active (head l) (row l) b.cell (entry_to_date b) t q)

-- ---- a year: i cells are worked out, and `total` is what they come to

pub record YearSoFar (l : List ℕ) (t i total : ℕ) (xs : List CellToDate) : Type 0 where
  pub stepped : Stepped (cell_after l t) (cell_after l (t + 1)) (cells l) i xs
  pub total_is : total ≡ sum_below (λ k. (cell_after l (t + 1) k).kg) i

module _ {l : List ℕ} (a : Accepted l) {t : ℕ} (in_time : t < horizon l) where
  pub year_none : {xs : List CellToDate} → CellsAfter l t xs → YearSoFar l t 0 0 xs
  year_none c = record { stepped = year_begins c; total_is = sum_none (λ k. (cell_after l (t + 1) k).kg) }

  -- the iteration of cell i: b is what was read, and c what was answered
  module _ {i total : ℕ} {xs : List CellToDate} (r : YearSoFar l t i total xs) (lt : i < cells l) where
    pub iteration_within : i < length xs
    iteration_within = omega (arith, lt, r.stepped.enough)

    module _ {b : CellToDate} (b_is : b ≡ cell_after l t i) where
      pub iteration_cell : CellYear l b.cell (entry_to_date b) (t + 1) × (b ≡ cell_to_date (head l) b.cell (entry_to_date b))
      iteration_cell =
          rw (b_is, entry_after l t i) (record { cell_valid = a.cell_valid i lt; entry_valid = after_valid a i lt t; in_time = (omega arith, omega (arith, in_time)) }, refl)

      module _ {c : CellToDate} (c_is : c ≡ next_cell l b (t + 1)) where
        answered : c ≡ cell_after l (t + 1) i
        answered = (rw (b_is, entry_after l t i) at c_is) ∙ ap (cell_to_date (head l) (cell l i)) (after_next l i t)

        total_then : total + c.kg ≡ sum_below (λ k. (cell_after l (t + 1) k).kg) (i + 1)
        total_then = sum_next (λ k. (cell_after l (t + 1) k).kg) i r.total_is (ap (λ (x : CellToDate). x.kg) answered)

        pub iteration_fits : total + c.kg < 2 ^ 64
        iteration_fits = omega (arith, total_then, total_fits a (t + 1) (i + 1) (omega arith))

        pub year_step : YearSoFar l t (i + 1) (total + c.kg) (set xs i c)
        year_step = record { stepped = stepped_next r.stepped lt answered; total_is = total_then }

pub year_all : {l : List ℕ} {t i total : ℕ} {xs : List CellToDate} → YearSoFar l t i total xs → cells l ≤ i → (total ≡ total_after l (t + 1)) × CellsAfter l (t + 1) xs
unfolding total_after
year_all r le = let all = le_antisymm r.stepped.at_most le in (rw all at r.total_is, cells_all r.stepped le)

-- ---- all years: t are closed, and `total` is the running total; d is the output at the start, and x as it is now

pub record YearsSoFar (l d : List ℕ) (t total : ℕ) (xs : List CellToDate) (x : List ℕ) : Type 0 where
  pub after : CellsAfter l t xs
  pub total_is : total ≡ total_after l t
  pub output : Filling 1 d 0 (λ t. (total_after l (t + 1) - total_after l t) ∷ []) (horizon l) t x

module _ {l d : List ℕ} where
  pub years_none : {xs : List CellToDate} → CellsAfter l 0 xs → horizon l ≤ length d → YearsSoFar l d 0 0 xs d
  years_none c enough = record { after = c; total_is = total_none l; output = filling_none (λ k. refl) (omega arith) }

  -- the iteration of the year t + 1
  module _ {t total : ℕ} {xs : List CellToDate} {x : List ℕ} (r : YearsSoFar l d t total xs x) (lt : t < horizon l) where
    module _ {now : ℕ} (now_is : now ≡ total_after l (t + 1)) where
      pub years_difference : total ≤ now
      years_difference = omega (arith, r.total_is, now_is, total_grows l t)

      pub years_next : {xs' : List CellToDate} → CellsAfter l (t + 1) xs' → YearsSoFar l d (t + 1) now xs' (set x t (now - total))
      years_next c =
          record {
            after = c;
            total_is = now_is;
            output = filling_stored r.output lt t (omega arith) (now - total) (rw (now_is, r.total_is) refl);
          }

pub years_all : {l d : List ℕ} {t total : ℕ} {xs : List CellToDate} {x : List ℕ} → YearsSoFar l d t total xs x → horizon l ≤ t →
    (total ≡ total_after l (horizon l)) × CellsAfter l (horizon l) xs × (x ≡ output_of l d)
unfolding output_of
years_all r le = let all = le_antisymm r.output.at_most le in (rw all at r.total_is, rw all at r.after, filling_all r.output le)

-- ---- the book, written once

-- the entry that is written of cell i: c is the cell that was read
pub held_entry : (l : List ℕ) (i : ℕ) {c : CellToDate} → c ≡ cell_after l (horizon l) i → {e : Entry} → e ≡ entry_to_date c → e ≡ entries_after l (horizon l) i
held_entry l i c_is e_is = (rw c_is at e_is) ∙ entry_after l (horizon l) i
