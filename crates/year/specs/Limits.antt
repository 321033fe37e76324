-- What a cell's year requires, figures that an accepted listing and an accepted book guarantee; and which figures of the head it depends on.
use Rattle.std.specs.Prelude.{◌≡◌, ℕ, ◌+◌, ◌≤◌}
use Rattle.fields.specs.Valid.{HeadValid, CellValid}
use Rattle.fields.specs.declared.Head.{Head}
use Rattle.fields.specs.declared.Cell.{Cell}

-- the cell's figures, with so much oxidised and burned
pub record WithinLimits (h : Head) (c : Cell) (oxidised burned : ℕ) : Type 0 where
  pub head_valid : HeadValid h
  pub cell_valid : CellValid h.strata h.horizon c
  pub lost : oxidised + burned ≤ c.entered

-- the five figures of the head that a cell's year depends on are the same
pub record SameFigures (h h' : Head) : Type 0 where
  pub guard : h.guard ≡ h'.guard
  pub thickness : h.thickness ≡ h'.thickness
  pub char : h.char ≡ h'.char
  pub warming : h.warming ≡ h'.warming
  pub methane : h.methane ≡ h'.methane
