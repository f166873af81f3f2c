use mathlib.Core.Path.{sym, ◌∙◌}
use Rattle.prologs.specs.rule.Told.{head_of}
use Rattle.prologs.proofs.Steps.{gap_within}
use Rattle.prologs.proofs.read_head.Goals as goal

pub is_there-requires : goal.is_there-requires
is_there-requires c =
    gap_within c.args.bad c.args.d.now c.args.at _ c.requires
    (sym c.gap.ensures ∙ c.in-Past.is)

pub doctype_gap-requires : goal.doctype_gap-requires
doctype_gap-requires c = sym c.is_there.ensures ∙ c.if-is_there.true

pub returns-then-is_there : goal.returns-then-is_there
unfolding head_of
returns-then-is_there c = rw (
  sym c.gap.ensures
      ∙ c.in-Past.is,
  sym c.is_there.ensures ∙ c.if-is_there.true,
) c.doctype_gap.ensures

pub returns-else-is_there : goal.returns-else-is_there
unfolding head_of
returns-else-is_there c = rw (
  sym c.gap.ensures ∙ c.in-Past.is,
  sym c.is_there.ensures ∙ c.if-is_there.false,
)

pub returns-in-Broken : goal.returns-in-Broken
unfolding head_of
returns-in-Broken c = rw (sym c.gap.ensures ∙ c.in-Broken.is)
