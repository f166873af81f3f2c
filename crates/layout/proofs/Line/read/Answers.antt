use Rattle.layout.specs.rule.Layout.{line_at}
use mir.Facts.{to_z-of_z}
use borrow.Author.Rules.{sfits_of}
use Rattle.layout.proofs.Line.read.Goals as goal

pub returns : goal.returns
unfolding line_at
returns c =
    rw (
      to_z-of_z (sfits_of c.value-1.given),
      c.count_at.ensures,
      c.count_at-2.ensures,
      c.count_at-3.ensures,
    )
