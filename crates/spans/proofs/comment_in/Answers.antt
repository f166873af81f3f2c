use mathlib.Core.Path.{sym, ◌∙◌}
use lib.ListN.{drop, length-drop}
use native.Mathlib.Omega.{arith}
use Rattle.markup.proofs.Gaps.{stands_long}
use Rattle.spans.specs.rule.Heard.{noted_of}
use Rattle.spans.proofs.comment_in.Goals as goal

pub comment-requires : goal.comment-requires
comment-requires c =
    let a = c.args in
    omega (
      arith,
      stands_long _ (drop a.at a.s.now) (sym c.is_there.ensures ∙ c.if-is_there.true),
      length-drop a.at a.s.now,
    )

pub returns-in-Past : goal.returns-in-Past
unfolding noted_of
returns-in-Past c = rw (
  sym c.is_there.ensures ∙ c.if-is_there.true,
  sym c.comment.ensures ∙ c.in-Past.is,
)

pub returns-in-Broken : goal.returns-in-Broken
unfolding noted_of
returns-in-Broken c = rw (
  sym c.is_there.ensures ∙ c.if-is_there.true,
  sym c.comment.ensures ∙ c.in-Broken.is,
)

pub returns : goal.returns
unfolding noted_of
returns c = rw (sym c.is_there.ensures ∙ c.if-is_there.false)
