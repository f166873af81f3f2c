use mathlib.Core.Path.{◌∙◌}
use mir.Facts.{to_z-of_z}
use borrow.Author.Rules.{sfits_of}
use Rattle.values.specs.Line.{line_cells}
use Rattle.values.proofs.store.Goals as goal

pub returns : goal.returns
unfolding line_cells
returns c =
    c.paste.ensures ∙ rw (
      to_z-of_z c.ranges.z,
      to_z-of_z (sfits_of c.cell_of.type_inv),
      to_z-of_z (sfits_of c.cell_of-2.type_inv),
      to_z-of_z (sfits_of c.cell_of-3.type_inv),
    ) (rw (
      c.cell_of.ensures,
      c.cell_of-2.ensures,
      c.cell_of-3.ensures,
      c.requires.z_value,
    ))
