use mathlib.Core.Path.{◌≡◌, refl, sym, ◌∙◌}
use native.Mathlib.Omega.{arith}
use lib.ListN.{length}
use Rattle.markup.specs.rule.Bytes.{of_kind}
use Rattle.markup.proofs.Runs.{run_next, run_over, run_end}
use Rattle.markup.proofs.run.Goals as goal

pub loop-i-init : goal.loop-i-init
loop-i-init c = refl

pub loop-i-preserved : goal.loop-i-preserved
loop-i-preserved c =
    let l = c.loop-i in
    let a = c.args in
    l.invariant ∙ run_next (of_kind a.kind) a.d.now l.i (omega arith) (sym c.of_kind.ensures ∙ c.if-not-of_kind.false)

pub returns-then-not-of_kind : goal.returns-then-not-of_kind
returns-then-not-of_kind c =
    let l = c.loop-i in
    let a = c.args in (
      sym (l.invariant ∙ run_over (of_kind a.kind) a.d.now l.i (omega arith) (sym c.of_kind.ensures ∙ c.if-not-of_kind.true)),
      omega arith,
    )

pub returns : goal.returns
returns c =
    let l = c.loop-i in
    let a = c.args in
    let e : l.i ≡ length a.d.now = omega arith in
    (sym (l.invariant ∙ run_end (of_kind a.kind) a.d.now l.i (omega arith) ∙ e), omega arith)
