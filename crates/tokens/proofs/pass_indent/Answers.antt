use mathlib.Core.Path.{◌≡◌, ap, ◌∙◌}
use Prim.Native.Nat.{◌+◌}
use native.Mathlib.Omega.{arith}
use Rattle.tokens.specs.rule.Gap.{gap_at}
use Rattle.tokens.proofs.Spaces.{part_spaces, all_spaces_lem}
use Rattle.tokens.proofs.pass_indent.Goals as goal

pub returns-then-x-ne0 : goal.returns-then-x-ne0
returns-then-x-ne0 c = (part_spaces _ _ _ _ c.bytes_clear.ensures.0 c.over_at-x.ensures, omega arith)

pub returns-then-y-ne0 : goal.returns-then-y-ne0
returns-then-y-ne0 c = (
  all_spaces_lem _ _ _ (omega (arith, c.if-x-ne0.false)) c.over_at-x.ensures
      ∙ part_spaces _ _ _ _ c.bytes_clear-then-y-ne0.ensures.0 c.over_at-y.ensures,
  omega arith,
)

pub returns : goal.returns
returns c =
    let a = c.args in
    let e : a.at + 8 + 8 ≡ a.at + 16 = omega arith in (
      all_spaces_lem _ _ _ (omega (arith, c.if-x-ne0.false)) c.over_at-x.ensures
          ∙ all_spaces_lem _ _ _ (omega (arith, c.if-y-ne0.false)) c.over_at-y.ensures
          ∙ ap (gap_at a.d.now) e
          ∙ c.pass_far.ensures.0,
      omega (arith, c.pass_far.ensures.1),
    )
