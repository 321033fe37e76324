-- Document 01, "Lists of calls", with the drainage and the converted books of document 02: what holds after every list of calls on one listing l and its
-- book. The figures of the claims are read off the listing, off what a converted book brings, and off what the calls gave, and not off the book.
-- `EveryList`, towards the end, is the theorem; proofs/EveryList.antt proves it.
use Rattle.std.specs.Prelude.{◌≡◌, true, cond, List, [], ◌∷◌, ℕ, suc, ◌+◌, ◌-◌, ◌≤◌, ◌<◌, max, eqb, false, ℤ}
use Rattle.words.specs.Bits.{at_least_0}
use Rattle.words.specs.Effect.{Effect}
use Rattle.fields.specs.declared.Row.{Row}
use Rattle.listing.specs.Layout.{head, cells, guard, row, cell}
use Rattle.year.specs.Year.{unconverted, inactive, age, drainage_level, drained, burned_by, oxidised_by, emission}
use Rattle.book.specs.Current.{issued, entry, admitted}
use Rattle.book.specs.Layout as layout
use Rattle.book.specs.Layout.{issued_in_one_word, year, oxidised_line, burned_line, kg_line}
use Rattle.balance.specs.Balance.{balance}
use Rattle.ledger.specs.Calls.{close_effect, statement_answer, Start, Open, Convert, start_effect, Call, Close, Replan, Withdraw, Issue, call_effect}

-- ---- a list of calls

-- what a call gave: the lines of an accepted closing, the new plan year of an accepted replan, the tonnes of an accepted issue;
-- a refused call gives nothing, and a withdrawal nothing that is counted
pub data Event : Type 0 where
  Lines : List ℕ → Event
  Replanned : ℕ → ℕ → Event
  Issued : ℕ → Event
  Nothing : Event

-- the book after a call, and what it gave, by the definitions that the contracts cite
pub record Step : Type 0 where
  pub book : List ℕ
  pub event : Event

-- a call whose effect is m gives this where it was accepted
abbrev pub event_of : Call → Effect → Event
event_of (Close x) m = Lines m.output
event_of (Replan i y) m = Replanned i y
event_of (Withdraw i) m = Nothing
event_of Issue m = Issued m.answer.value

abbrev pub step : List ℕ → List ℕ → Call → Step
step l b c = let m = call_effect l b c in record { book = m.book; event = cond m.answer.done (event_of c m) Nothing }

-- the newest first
abbrev pub History : Type 0
History = List Event

-- the book, and what was given, after a list of calls
pub record State : Type 0 where
  pub book : List ℕ
  pub history : History

abbrev pub next : List ℕ → State → Call → State
next l s c = let m = step l s.book c in record { book = m.book; history = m.event ∷ s.history }

unfoldable pub run : List ℕ → State → List Call → State
run l s [] = s
run l s (c ∷ calls) = run l (next l s c) calls

-- ---- what is counted as given before the list

-- closings, tonnes issued, and for each cell a plan year, mm oxidised, mm burned and kg
pub record BroughtForward : Type 0 where
  pub year : ℕ
  pub issued : ℕ
  pub plan : ℕ → ℕ
  pub oxidised : ℕ → ℕ
  pub burned : ℕ → ℕ
  pub kg : ℕ → ℕ

-- by an open nothing, and the plan years are the listing's
abbrev pub brought_forward_by_open : List ℕ → BroughtForward
brought_forward_by_open l = record { year = 0; issued = 0; plan = λ i. (cell l i).conversion; oxidised = λ i. 0; burned = λ i. 0; kg = λ i. 0 }

-- by a conversion what the old book says: its O, B and their emission as lines, its tonnes as an issue, its year as that many accepted closings;
-- its plan years stand in for the listing's
abbrev pub brought_forward_by_conversion : List ℕ → List ℕ → BroughtForward
brought_forward_by_conversion l old =
    let entry = layout.entry issued_in_one_word old in
    record {
      year = year old;
      issued = layout.issued issued_in_one_word old;
      plan = λ i. (entry i).plan;
      oxidised = λ i. (entry i).oxidised;
      burned = λ i. (entry i).burned;
      kg = λ i. emission (head l) (cell l i) (entry i).oxidised (entry i).burned;
    }

abbrev pub brought_forward : List ℕ → Start → BroughtForward
brought_forward l (Open b) = brought_forward_by_open l
brought_forward l (Convert old new) = brought_forward_by_conversion l old

-- before the first call
abbrev pub started : List ℕ → Start → State
started l from = record { book = (start_effect l from).book; history = [] }

-- ---- the figures of a history

-- a year's number is the count of accepted closings
unfoldable pub year_in : BroughtForward → History → ℕ
year_in s [] = s.year
year_in s (Lines x ∷ h) = suc (year_in s h)
year_in s (Replanned j y ∷ h) = year_in s h
year_in s (Issued t ∷ h) = year_in s h
year_in s (Nothing ∷ h) = year_in s h

-- cell i's plan year is that of its last accepted replan; if there is none, the one brought: the listing's after an open, the old book's after a conversion
unfoldable pub plan_in : BroughtForward → History → ℕ → ℕ
plan_in s [] i = s.plan i
plan_in s (Lines x ∷ h) i = plan_in s h i
plan_in s (Replanned j y ∷ h) i = cond (eqb j i) y (plan_in s h i)
plan_in s (Issued t ∷ h) i = plan_in s h i
plan_in s (Nothing ∷ h) i = plan_in s h i

-- O, B and kg to date are the sums of these lines
unfoldable pub sum_of : (List ℕ → ℕ → ℕ) → (ℕ → ℕ) → History → ℕ → ℕ
sum_of line before [] i = before i
sum_of line before (Lines x ∷ h) i = sum_of line before h i + line x i
sum_of line before (Replanned j y ∷ h) i = sum_of line before h i
sum_of line before (Issued t ∷ h) i = sum_of line before h i
sum_of line before (Nothing ∷ h) i = sum_of line before h i

abbrev pub oxidised_in : BroughtForward → History → ℕ → ℕ
oxidised_in s = sum_of oxidised_line s.oxidised

abbrev pub burned_in : BroughtForward → History → ℕ → ℕ
burned_in s = sum_of burned_line s.burned

abbrev pub kg_in : BroughtForward → History → ℕ → ℕ
kg_in s = sum_of kg_line s.kg

-- tonnes issued are the answers of all issues
unfoldable pub issued_in : BroughtForward → History → ℕ
issued_in s [] = s.issued
issued_in s (Lines x ∷ h) = issued_in s h
issued_in s (Replanned j y ∷ h) = issued_in s h
issued_in s (Issued t ∷ h) = issued_in s h + t
issued_in s (Nothing ∷ h) = issued_in s h

-- the balance has the count of accepted closings as the current year and the kg lines given as kg to date
abbrev pub balance_at : List ℕ → BroughtForward → History → ℤ
balance_at l s h = balance l (year_in s h) (kg_in s h)

-- the highest balance met at an accepted issue, or the tonnes brought (0 by an open) if none was above them: they count as a balance met
unfoldable pub highest : List ℕ → BroughtForward → History → ℕ
highest l s [] = s.issued
highest l s (Lines x ∷ h) = highest l s h
highest l s (Replanned j y ∷ h) = highest l s h
highest l s (Issued t ∷ h) = max (at_least_0 (balance_at l s h)) (highest l s h)
highest l s (Nothing ∷ h) = highest l s h

-- ---- the claims

-- P of the lines of every closing, and of the history before it
unfoldable pub EachClosing : (List ℕ → History → Type 0) → History → Type 0
EachClosing P [] = Unit {0}
EachClosing P (Lines x ∷ h) = P x h × EachClosing P h
EachClosing P (Replanned j y ∷ h) = EachClosing P h
EachClosing P (Issued t ∷ h) = EachClosing P h
EachClosing P (Nothing ∷ h) = EachClosing P h

-- the row of cell i in the year after the history `before`, by its own stratum and age
abbrev pub row_of : List ℕ → BroughtForward → History → ℕ → Row
row_of l s before i = row l (cell l i).stratum (age (plan_in s before i) (suc (year_in s before)))

-- d of cell i in that year, O and B being the sums of the lines handed out before; where the plan year is 0 or above the year, d counts as 0
unfoldable pub d_of : List ℕ → BroughtForward → History → ℕ → ℕ
d_of l s before i =
    cond (unconverted (plan_in s before i) (suc (year_in s before))) 0 (drained (row_of l s before i) (oxidised_in s before i) (burned_in s before i))

-- so d is 0 for every cell that is not converted by then; proofs/EveryList.antt proves it
abbrev pub EveryUnconverted : Type 0
EveryUnconverted = (l : List ℕ) (s : BroughtForward) (before : History) (i : ℕ) → unconverted (plan_in s before i) (suc (year_in s before)) ≡ true → d_of l s before i ≡ 0

-- if the cell burned in that year, its burned line leaves at least the listing's guard dry above the water
abbrev pub StayedDry : List ℕ → BroughtForward → ℕ → List ℕ → History → Type 0
StayedDry l s i x before = 0 < burned_line x i → guard l + burned_line x i ≤ d_of l s before i

-- of cell i: a statement is accepted, and what it says remains and the lines given make the entered depth; the kg lines add up to
-- the emission of the two sums; after each fire the guard stayed dry
pub record CellClaims (l : List ℕ) (s : BroughtForward) (state : State) (i : ℕ) : Type 0 where
  pub stated : (statement_answer l state.book i).answer.done ≡ true
  pub depth : (cell l i).entered ≡ (statement_answer l state.book i).figures.remaining + oxidised_in s state.history i + burned_in s state.history i
  pub kilograms : kg_in s state.history i ≡ emission (head l) (cell l i) (oxidised_in s state.history i) (burned_in s state.history i)
  pub dry : EachClosing (StayedDry l s i) state.history

-- of every cell; and the tonnes issued are the highest balance met
pub record Claims (l : List ℕ) (s : BroughtForward) (state : State) : Type 0 where
  pub each : (i : ℕ) → i < cells l → CellClaims l s state i
  pub issues : issued_in s state.history ≡ highest l s state.history

-- THE THEOREM: for every listing and book that an open accepts, or an old book and a new one that a conversion accepts, and every list of calls on
-- the listing and what was written, refused ones included
abbrev pub EveryList : Type 0
EveryList = (l : List ℕ) (from : Start) → (start_effect l from).answer.done ≡ true → (calls : List Call) → Claims l (brought_forward l from) (run l (started l from) calls)

-- ---- beside the claims: what was drained

-- if cell i was converted by the year after the history `before`, its drainage level then was at most m mm
abbrev pub LevelAtMost : List ℕ → BroughtForward → ℕ → ℕ → List ℕ → History → Type 0
LevelAtMost l s i m x before = unconverted (plan_in s before i) (suc (year_in s before)) ≡ false → drainage_level (row_of l s before i) ≤ m

-- the mm lines x of cell i are those of the year rule, with d of the claims and with what the lines handed out before leave of its depth
pub record LinesByD (l : List ℕ) (s : BroughtForward) (i : ℕ) (x : List ℕ) (before : History) : Type 0 where
  pub burned : burned_line x i ≡
      burned_by (guard l) (d_of l s before i) (row_of l s before i).burning ((cell l i).entered - (oxidised_in s before i + burned_in s before i))
  pub oxidised : oxidised_line x i ≡
      oxidised_by (d_of l s before i) (row_of l s before i).oxidation ((cell l i).entered - (oxidised_in s before i + burned_in s before i)) (burned_line x i)

-- of cell i: no more was lost than down to the deepest of its drainage levels in the years of the closings, or than before the list; and if the
-- next closing is accepted, its mm lines go by d of the claims where the cell is active, and are 0 where it is not
pub record DrainedClaims (l : List ℕ) (s : BroughtForward) (state : State) (i : ℕ) : Type 0 where
  pub within : (m : ℕ) → s.oxidised i + s.burned i ≤ m → EachClosing (LevelAtMost l s i m) state.history → oxidised_in s state.history i + burned_in s state.history i ≤ m
  pub lines : (x : List ℕ) → (close_effect l state.book x).answer.done ≡ true → inactive (head l) (cell l i) (entry state.book i) (year state.book + 1) ≡ false →
      LinesByD l s i (close_effect l state.book x).output state.history
  pub no_lines : (x : List ℕ) → (close_effect l state.book x).answer.done ≡ true → inactive (head l) (cell l i) (entry state.book i) (year state.book + 1) ≡ true →
      (burned_line (close_effect l state.book x).output i ≡ 0) × (oxidised_line (close_effect l state.book x).output i ≡ 0)

-- for every start that is accepted, and every list of calls, refused ones included; proofs/EveryList.antt proves it
abbrev pub EveryDrained : Type 0
EveryDrained =
    (l : List ℕ) (from : Start) → (start_effect l from).answer.done ≡ true → (calls : List Call) → (i : ℕ) → i < cells l →
    DrainedClaims l (brought_forward l from) (run l (started l from) calls) i

-- ---- the same from any book that a call accepts, with what it brings forward counted as given before

pub record IsBroughtForward (l b : List ℕ) (s : BroughtForward) : Type 0 where
  pub year_is : year b ≡ s.year
  pub issued_is : issued b ≡ s.issued
  pub plan_is : (i : ℕ) → i < cells l → (entry b i).plan ≡ s.plan i
  pub oxidised_is : (i : ℕ) → i < cells l → (entry b i).oxidised ≡ s.oxidised i
  pub burned_is : (i : ℕ) → i < cells l → (entry b i).burned ≡ s.burned i
  pub kg_is : (i : ℕ) → i < cells l → s.kg i ≡ emission (head l) (cell l i) (s.oxidised i) (s.burned i)

abbrev pub EveryListFrom : Type 0
EveryListFrom = (l b : List ℕ) (s : BroughtForward) → (admitted l b).done ≡ true → IsBroughtForward l b s → (calls : List Call) → Claims l s (run l (record { book = b; history = [] }) calls)

abbrev pub EveryDrainedFrom : Type 0
EveryDrainedFrom =
    (l b : List ℕ) (s : BroughtForward) → (admitted l b).done ≡ true → IsBroughtForward l b s → (calls : List Call) → (i : ℕ) → i < cells l →
    DrainedClaims l s (run l (record { book = b; history = [] }) calls) i
