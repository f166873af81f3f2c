use mathlib.Core.Path.{◌≡◌}
use mir.Syntax.{w64}
use mir.Val.{to_z, of_z}
use borrow.Author.Rules.{rules}
use Rattle.measures.specs.Width.{plain_columns}
use Rattle.measures.proofs.plain_columns.Goals as goal
use Rattle.measures.proofs.plain_columns.Goals.{After-struct_told-2-1}

-- the two signed columns, where the struct is first looked into
from_back : (c : After-struct_told-2-1) → to_z w64 (of_z w64 c.args.r.block.from)
    ≡ c.args.r.block.from
from_back c = search rules

to_back : (c : After-struct_told-2-1) → to_z w64 (of_z w64 c.args.r.block.to)
    ≡ c.args.r.block.to
to_back c = search rules

pub returns : goal.returns
unfolding plain_columns
returns c = rw (from_back (goal.at.returns c).After-struct_told-2-1, to_back (goal.at.returns c).After-struct_told-2-1, c.flag.ensures)
