use mathlib.Core.Path.{◌∙◌}
use Rattle.rows.proofs.put_row.Goals as goal

pub returns : goal.returns
returns c = c.paste.ensures ∙ rw c.row_cells-numbers.ensures
