use mathlib.Core.Path.{sym, ◌∙◌}
use borrow.Author.Tests.{le-leb, lt-leb}
use Rattle.prologs.specs.rule.Told.{tail_from}
use Rattle.prologs.proofs.Steps.{gap_within}
use Rattle.prologs.proofs.read_tail.Goals as goal

pub returns-then-d-n : goal.returns-then-d-n
unfolding tail_from
returns-then-d-n c = rw (
  sym c.gap.ensures ∙ c.in-Past.is,
  le-leb _ _ c.if-d-n.true,
) c.end_clean.ensures

pub is_there-requires : goal.is_there-requires
is_there-requires c =
    gap_within c.args.bad c.args.d.now c.args.at _ c.requires
    (sym c.gap.ensures ∙ c.in-Past.is)

pub returns-then-is_there : goal.returns-then-is_there
unfolding tail_from
returns-then-is_there c = rw (
  sym c.gap.ensures
      ∙ c.in-Past.is,
  lt-leb _ _ c.if-d-n.false,
  sym c.is_there.ensures ∙ c.if-is_there.true,
)

pub returns-else-is_there : goal.returns-else-is_there
unfolding tail_from
returns-else-is_there c = rw (
  sym c.gap.ensures
      ∙ c.in-Past.is,
  lt-leb _ _ c.if-d-n.false,
  sym c.is_there.ensures ∙ c.if-is_there.false,
)

pub returns-in-Broken : goal.returns-in-Broken
unfolding tail_from
returns-in-Broken c = rw (sym c.gap.ensures ∙ c.in-Broken.is)
