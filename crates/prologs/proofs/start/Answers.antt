use mathlib.Core.Path.{sym, ◌∙◌}
use mathlib.Core.List.{[], ◌∷◌}
use native.Mathlib.Omega.{arith}
use Rattle.prologs.specs.rule.Told.{start_behind_mark}
use Rattle.prologs.proofs.Steps.{stands_in}
use Rattle.prologs.proofs.start.Goals as goal

pub returns-then-is_there : goal.returns-then-is_there
unfolding start_behind_mark
returns-then-is_there c = (
  rw (sym c.is_there.ensures ∙ c.if-is_there.true),
  omega (
    arith,
    stands_in 239 (187 ∷ 191 ∷ []) c.args.d.now 0
        (sym c.is_there.ensures ∙ c.if-is_there.true),
  ),
)

pub returns : goal.returns
unfolding start_behind_mark
returns c = (rw (sym c.is_there.ensures ∙ c.if-is_there.false), omega arith)
