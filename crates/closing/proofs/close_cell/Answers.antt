-- `closing::close_cell` meets its contract: the entry is read from the words that are lent, and written with the year's mm added. Assumes nothing.
use mathlib.Core.Path.{◌≡◌, sym, ap, ◌∙◌}
use native.Mathlib.Omega.{arith}
use Rattle.year.specs.Year.{no_loss, after_loss}
use Rattle.year.proofs.Laws.{after_loss_none, loss_inactive}
use Rattle.book.specs.Layout.{entry_of, held_words}
use Rattle.book.specs.AcceptedBook.{Storable}
use Rattle.closing.specs.Closing.{cell_loss}
use Rattle.closing.proofs.Closable.{cell_year_storable, step_loss}
use Rattle.closing.proofs.close_cell.Goals as goal
use Rattle.closing.proofs.close_cell.Goals.{After-active_loss-s}

-- ---- an inactive cell

pub returns-then-inactive : goal.returns-then-inactive
returns-then-inactive c =
    let e = entry_of c.args.entry.now in
    let nothing : cell_loss c.args.listing.now.words.now c.args.year c.args.i e ≡ no_loss =
    loss_inactive _ _ _ _ _ (rw (c.args.listing.now.is_head, c.cell-c.ensures, c.entry_of-e.ensures) at (sym c.inactive-inactive.ensures ∙ c.if-inactive.true)) in
    record {
      value = c.no_loss.ensures ∙ sym nothing;
      new_entry = c.put_entry.ensures ∙ ap (held_words _) (c.entry_of-e.ensures ∙ sym (after_loss_none e) ∙ ap (after_loss e) (sym nothing));
    }

-- ---- an active cell

-- the entry with the loss that was answered
module _ (x : After-active_loss-s) where
  storable : Storable (after_loss x.entry_of-e.result x.active_loss-s.result)
  storable = rw (x.active_loss-s.ensures, x.cell-c.ensures, x.entry_of-e.ensures) (cell_year_storable x.args.listing.now.accepted x.requires.2)

pub after_loss-requires : goal.after_loss-requires
after_loss-requires c = let fits = storable (goal.at.after_loss-requires c).After-active_loss-s in (omega (arith, fits.oxidised), omega (arith, fits.burned))

pub put_entry-requires-2 : goal.put_entry-requires-2
put_entry-requires-2 c = (c.requires.0.sized, rw c.after_loss.ensures (storable (goal.at.put_entry-requires-2 c).After-active_loss-s))

pub returns : goal.returns
returns c =
    let loss_is = step_loss _ _ _ _ c.cell-c.ensures c.entry_of-e.ensures c.active_loss-s.ensures in
    record {
      value = loss_is;
      new_entry = c.put_entry-2.ensures ∙ ap (held_words _) (c.after_loss.ensures ∙ rw (c.entry_of-e.ensures) (ap (after_loss _) loss_is));
    }
