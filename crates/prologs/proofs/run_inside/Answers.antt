use mathlib.Core.Path.{◌≡◌, refl, sym, ◌∙◌}
use native.Mathlib.Omega.{arith}
use lib.ListN.{length}
use Rattle.prologs.specs.rule.Told.{between_quotes}
use Rattle.markup.proofs.Runs.{run_next, run_over, run_end}
use Rattle.prologs.proofs.run_inside.Goals as goal

pub loop-i-init : goal.loop-i-init
loop-i-init c = refl

pub loop-i-preserved : goal.loop-i-preserved
loop-i-preserved c =
    let args = c.args in
    c.loop-i.invariant ∙ run_next (between_quotes args.public args.quote) args.d.now
    c.loop-i.i (omega arith) (sym c.is_inside.ensures ∙ c.if-not-is_inside.false)

pub returns-then-not-is_inside : goal.returns-then-not-is_inside
returns-then-not-is_inside c =
    let args = c.args in (
      sym (c.loop-i.invariant ∙ run_over (between_quotes args.public args.quote) args.d.now
          c.loop-i.i (omega arith) (sym c.is_inside.ensures ∙ c.if-not-is_inside.true)),
      omega arith,
    )

pub returns : goal.returns
returns c =
    let args = c.args in
    let e : c.loop-i.i ≡ length args.d.now = omega arith in
    (sym (c.loop-i.invariant ∙ run_end (between_quotes args.public args.quote) args.d.now c.loop-i.i (omega arith) ∙ e), omega arith)
