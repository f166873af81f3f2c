use mathlib.Core.Path.{◌≡◌, refl, sym, ◌∙◌}
use native.Mathlib.Omega.{arith}
use lib.ListN.{length}
use Rattle.markup.proofs.Runs.{figure_next, figure_over, figure_end}
use Rattle.markup.proofs.number.Goals as goal

pub loop-i-init : goal.loop-i-init
loop-i-init c = (refl, omega arith, c.digit_kind-kind.ensures)

pub loop-i-preserved : goal.loop-i-preserved
loop-i-preserved c =
    let l = c.loop-i in
    let a = c.args in
    let k = l.invariant.2 in
    let e = rw k at (sym c.of_kind.ensures ∙ c.if-not-of_kind.false) in (
      l.invariant.0 ∙ figure_next a.hex l.v a.d.now l.i (omega arith) e
          ∙ rw (← c.push.ensures.0, ← c.hold-v.ensures.0),
      c.hold-v.ensures.1,
      k,
    )

pub returns-then-not-of_kind : goal.returns-then-not-of_kind
returns-then-not-of_kind c =
    let l = c.loop-i in
    let a = c.args in
    let k = l.invariant.2 in
    let e = rw k at (sym c.of_kind.ensures ∙ c.if-not-of_kind.true) in
    (sym (l.invariant.0 ∙ figure_over a.hex l.v a.d.now l.i (omega arith) e l.invariant.1), omega arith)

pub returns : goal.returns
returns c =
    let l = c.loop-i in
    let a = c.args in
    let e : l.i ≡ length a.d.now = omega arith in
    (rw e at (sym (l.invariant.0 ∙ figure_end a.hex l.v a.d.now l.i (omega arith) l.invariant.1)), omega arith)
