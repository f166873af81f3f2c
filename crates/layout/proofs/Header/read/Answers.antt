use Rattle.layout.specs.rule.Layout.{header_of}
use Rattle.layout.proofs.Header.read.Goals as goal

pub returns : goal.returns
unfolding header_of
returns c =
    rw (
      c.count.ensures,
      c.count-2.ensures,
      c.count-3.ensures,
      c.count-4.ensures,
      c.count-5.ensures,
      c.count-6.ensures,
    )
