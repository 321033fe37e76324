-- Document 01, "A cell's year", with the drainage and the emission of document 02: what a cell loses, by the listing's figures h and c, its
-- table's row r, and its entry e in the book.
use Rattle.std.specs.Prelude.{◌≡◌, ◌⊎◌, ℕ, ◌+◌, ◌-◌, ◌*◌, ◌/◌, ◌≤◌, ◌<◌, min, Bool, true, false, cond, ◌||◌, ltb, eqb}
use Rattle.fields.specs.Valid.{HeadValid}
use Rattle.fields.specs.declared.Head.{Head}
use Rattle.fields.specs.declared.Row.{Row}
use Rattle.fields.specs.declared.Cell.{Cell}
use Rattle.year.specs.declared.Entry.{Entry}
use Rattle.year.specs.declared.LostMm.{LostMm}
use Rattle.year.specs.declared.Loss.{Loss}

-- the plan year is 0 or above t
unfoldable pub unconverted : ℕ → ℕ → Bool
unconverted plan t = eqb plan 0 || ltb t plan

-- a cell loses nothing in t if it is withdrawn, if its plan year is 0 or above t, or if its entered depth is below the least thickness
unfoldable pub inactive : Head → Cell → Entry → ℕ → Bool
inactive h c e t = e.withdrawn || (unconverted e.plan t || ltb c.entered h.thickness)

-- otherwise its age is t − c + 1
abbrev pub age : ℕ → ℕ → ℕ
age plan t = t - plan + 1

-- a drainage value counts from the surface at conversion: 10 times it are the mm from there down to the water
abbrev pub drainage_level : Row → ℕ
drainage_level r = 10 * r.drainage

-- a cell's d in a year is 10 times the table value minus O + B at the start of that year, or 0 if that is negative
abbrev pub drained : Row → ℕ → ℕ → ℕ
drained r o b = drainage_level r - (o + b)

-- R: remaining depth is not stored
abbrev pub remaining : Cell → Entry → ℕ
remaining c e = c.entered - (e.oxidised + e.burned)

-- burned: the least of b, R, and d − guard (0 if d is below the guard)
unfoldable pub burned_by : ℕ → ℕ → ℕ → ℕ → ℕ
burned_by guard d b R = min b (min R (d - guard))

-- oxidised: the least of o, R − burned, and d − burned
unfoldable pub oxidised_by : ℕ → ℕ → ℕ → ℕ → ℕ
oxidised_by d o R burned = min o (min (R - burned) (d - burned))

-- an active cell, with row r: what it burns, and with that what it oxidises
abbrev pub burned_mm : Head → Cell → Row → Entry → ℕ
burned_mm h c r e = burned_by h.guard (drained r e.oxidised e.burned) r.burning (remaining c e)

unfoldable pub mm_of : Head → Cell → Row → Entry → LostMm
mm_of h c r e =
    record { oxidised = oxidised_by (drained r e.oxidised e.burned) r.oxidation (remaining c e) (burned_mm h c r e); burned = burned_mm h c r e }

-- no mm
abbrev pub no_mm : LostMm
no_mm = record { oxidised = 0; burned = 0 }

-- the mm of a cell's year t: the row is that of the cell's own stratum and of its own age
unfoldable pub year_mm : Head → (ℕ → ℕ → Row) → Cell → Entry → ℕ → LostMm
year_mm h rows c e t = cond (inactive h c e t) no_mm (mm_of h c (rows c.stratum (age e.plan t)) e)

-- how far a year's losses reach, said without d: an active cell that has peat left, and of which less burns than its row lets it, has sunk to
-- the guard above the water; and one of which less oxidises than its row lets it, to the water. proofs/Laws.antt proves it
pub record EveryReach : Type 0 where
  pub burned : (h : Head) (c : Cell) (r : Row) (e : Entry) → (mm_of h c r e).burned < r.burning → e.oxidised + e.burned + (mm_of h c r e).burned < c.entered →
      drainage_level r ≤ e.oxidised + e.burned + (mm_of h c r e).burned + h.guard
  pub oxidised : (h : Head) (c : Cell) (r : Row) (e : Entry) → (mm_of h c r e).oxidised < r.oxidation →
      e.oxidised + e.burned + (mm_of h c r e).burned + (mm_of h c r e).oxidised < c.entered →
      drainage_level r ≤ e.oxidised + e.burned + (mm_of h c r e).burned + (mm_of h c r e).oxidised

-- the weight of a burned mm: 1,100,000 − 11,000 × the char percentage + 400 × G × e; that of an oxidised mm is 1,100,000
unfoldable pub burned_weight : Head → ℕ
burned_weight h = 1100000 - 11000 * h.char + 400 * h.warming * h.methane

-- what K times the weights of all mm lost is divided by
abbrev pub emission_divisor : ℕ
emission_divisor = 3000000000

-- emission to date in kg CO2e: K × (1,100,000 × O + the weight of a burned mm × B) / 3,000,000,000, rounded down, with K = area × q
unfoldable pub emission : Head → Cell → ℕ → ℕ → ℕ
emission h c o b = c.area * c.density * (1100000 * o + burned_weight h * b) / emission_divisor

-- the kg to date of an entry
abbrev pub kg_of : Head → Cell → Entry → ℕ
kg_of h c e = emission h c e.oxidised e.burned

-- a year's kg line is the emission after the year minus the emission before it
abbrev pub with_kg : Head → Cell → Entry → LostMm → Loss
with_kg h c e m = record { oxidised = m.oxidised; burned = m.burned; kg = emission h c (e.oxidised + m.oxidised) (e.burned + m.burned) - kg_of h c e }

-- the loss of an active cell, and that of a cell's year t: its mm, with their kg
unfoldable pub loss_of : Head → Cell → Row → Entry → Loss
loss_of h c r e = with_kg h c e (mm_of h c r e)

unfoldable pub year_loss : Head → (ℕ → ℕ → Row) → Cell → Entry → ℕ → Loss
year_loss h rows c e t = with_kg h c e (year_mm h rows c e t)

-- nothing: what an inactive cell loses
abbrev pub no_loss : Loss
no_loss = record { oxidised = 0; burned = 0; kg = 0 }

-- the greatest kg line of a year, and the greatest emission to date of a cell; proofs/Laws.antt proves that none is greater
abbrev pub most_line : ℕ
most_line = 50740800

abbrev pub most_emission : ℕ
most_emission = 816000000

-- of every emission to date; proofs/Laws.antt proves it
pub record EveryEmission : Type 0 where
  -- the CO2 part of a burned mm counts 100 hundredths less the char percentage, and methane is unchanged
  pub hundredths : (h : Head) → burned_weight h ≡ 11000 * (100 - h.char) + 400 * h.warming * h.methane
  -- the weight of a burned mm is at least 759,000 and at most 5,100,000
  pub weight : (h : Head) → HeadValid h → (759000 ≤ burned_weight h) × (burned_weight h ≤ 5100000)
  -- it grows in O and in B
  pub grows : (h : Head) (c : Cell) (o b o' b' : ℕ) → o ≤ o' → b ≤ b' → emission h c o b ≤ emission h c o' b'
  -- a greater char percentage makes it no greater
  pub falls : (h h' : Head) (c : Cell) (o b : ℕ) → h.char ≤ h'.char → h.warming ≡ h'.warming → h.methane ≡ h'.methane → emission h' c o b ≤ emission h c o b
  -- without char, or where nothing burned, it is document 01's: K × (11,000 × (O + B) + 4 × G × e × B) / 30,000,000, rounded down
  pub unchanged : (h : Head) (c : Cell) (o b : ℕ) → (h.char ≡ 0) ⊎ (b ≡ 0) →
      emission h c o b ≡ c.area * c.density * (11000 * (o + b) + 4 * h.warming * h.methane * b) / 30000000

-- ---- what the book holds of a cell

-- a cell that was opened with a plan year: no mark, nothing lost
abbrev pub opened : ℕ → Entry
opened plan = record { withdrawn = false; plan = plan; oxidised = 0; burned = 0 }

-- after a loss: O and B with the year's mm added
abbrev pub after_loss : Entry → Loss → Entry
after_loss e s = record { withdrawn = e.withdrawn; plan = e.plan; oxidised = e.oxidised + s.oxidised; burned = e.burned + s.burned }

-- with another plan year
abbrev pub planned : Entry → ℕ → Entry
planned e plan = record { withdrawn = e.withdrawn; plan = plan; oxidised = e.oxidised; burned = e.burned }

-- with the mark of a withdrawn cell
abbrev pub marked : Entry → Entry
marked e = record { withdrawn = true; plan = e.plan; oxidised = e.oxidised; burned = e.burned }

-- no more can be lost of a cell than was entered, and nothing of one below the least thickness
unfoldable pub most_loss : Head → Cell → ℕ
most_loss h c = cond (ltb c.entered h.thickness) 0 c.entered
