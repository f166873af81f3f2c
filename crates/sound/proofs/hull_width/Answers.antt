use mathlib.Core.Path.{◌≡◌, ◌∙◌}
use mir.Syntax.{w64}
use mir.Val.{to_z, of_z}
use borrow.Author.Rules.{rules}
use Rattle.sound.specs.Block.{hull_width}
use Rattle.sound.proofs.hull_width.Goals as goal
use Rattle.sound.proofs.hull_width.Goals.{After-struct_told-2-1}

least_back : (c : After-struct_told-2-1) → to_z w64 (of_z w64 c.args.h.least) ≡ c.args.h.least
least_back c = search rules

most_back : (c : After-struct_told-2-1) → to_z w64 (of_z w64 c.args.h.most) ≡ c.args.h.most
most_back c = search rules

pub returns : goal.returns
unfolding hull_width
returns c = c.wider.ensures ∙ rw (least_back (goal.at.returns c).After-struct_told-2-1, most_back (goal.at.returns c).After-struct_told-2-1)
