-- `fields::head_of` meets its contract: each figure is its field of word 0, 1 or 2, or what holds without a site word. Assumes nothing.
use Rattle.fields.specs.Fields.{head_of}
use Rattle.fields.proofs.head_of.Goals as goal

pub returns : goal.returns
unfolding head_of
returns c =
    rw (
      c.of.ensures,
      c.of-2.ensures,
      c.of-3.ensures,
      c.of-4.ensures,
      c.of-5.ensures,
      c.of-6.ensures,
      c.of-7.ensures,
      c.is_of.ensures,
      c.site_figure.ensures,
      c.site_figure-2.ensures,
    )
