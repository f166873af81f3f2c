use mathlib.Core.Path.{◌≡◌}
use mir.Syntax.{w64}
use mir.Val.{to_z, of_z}
use borrow.Author.Rules.{rules}
use Rattle.rows.specs.rule.Cells.{row_cells}
use Rattle.rows.proofs.Backs.{back}
use Rattle.rows.proofs.row_cells.Goals as goal
use Rattle.rows.proofs.row_cells.Goals.{After-cell_of-18}

-- the two signed columns, where the struct is first looked into: further on `search` does not reach what is known of it
from_back : (c : After-cell_of-18) → to_z w64 (of_z w64 c.args.c.from) ≡ c.args.c.from
from_back c = search rules

to_back : (c : After-cell_of-18) → to_z w64 (of_z w64 c.args.c.to) ≡ c.args.c.to
to_back c = search rules

pub returns : goal.returns
unfolding row_cells
returns c =
    rw (
      back c.cell_of.type_inv c.cell_of.ensures,
      back c.cell_of-2.type_inv c.cell_of-2.ensures,
      back c.cell_of-3.type_inv c.cell_of-3.ensures,
      back c.cell_of-4.type_inv c.cell_of-4.ensures,
      back c.cell_of-5.type_inv c.cell_of-5.ensures,
      back c.cell_of-6.type_inv c.cell_of-6.ensures,
      back c.cell_of-7.type_inv c.cell_of-7.ensures,
      back c.cell_of-8.type_inv c.cell_of-8.ensures,
      back c.cell_of-9.type_inv c.cell_of-9.ensures,
      back c.cell_of-10.type_inv c.cell_of-10.ensures,
      back c.cell_of-11.type_inv c.cell_of-11.ensures,
      back c.cell_of-12.type_inv c.cell_of-12.ensures,
      back c.cell_of-13.type_inv c.cell_of-13.ensures,
      back c.cell_of-14.type_inv c.cell_of-14.ensures,
      back c.cell_of-15.type_inv c.cell_of-15.ensures,
      back c.cell_of-16.type_inv c.cell_of-16.ensures,
      back c.cell_of-17.type_inv c.cell_of-17.ensures,
      back c.cell_of-18.type_inv c.cell_of-18.ensures,
      from_back c,
      to_back c,
    )
