use mathlib.Core.Path.{◌∙◌}
use Rattle.rows.specs.rule.Cells.{header_cells}
use Rattle.rows.proofs.Backs.{back}
use Rattle.rows.proofs.put_header.Goals as goal

pub returns : goal.returns
unfolding header_cells
returns c =
    c.paste.ensures ∙ rw (
      back c.cell_of.type_inv c.cell_of.ensures,
      back c.cell_of-2.type_inv c.cell_of-2.ensures,
      back c.cell_of-3.type_inv c.cell_of-3.ensures,
      back c.cell_of-4.type_inv c.cell_of-4.ensures,
      back c.cell_of-5.type_inv c.cell_of-5.ensures,
      back c.cell_of-6.type_inv c.cell_of-6.ensures,
    )
