use mathlib.Core.Path.{sym}
use Rattle.variables.specs.Head.{head_on}
use Rattle.variables.proofs.head_on.Goals as goal

pub returns : goal.returns
unfolding head_on
returns c =
    rw (
      sym c.past_number-a.ensures,
      sym c.name_on-n.ensures,
      sym c.past_string-b.ensures,
      sym c.label_on-l.ensures,
      sym c.past_string-e.ensures,
      sym c.type_on-k.ensures,
    ) (rw (
      sym c.past_type-g.ensures,
      sym c.position_on-p.ensures,
      sym c.join_titles-t.ensures,
      sym c.join_head.ensures,
    ))
