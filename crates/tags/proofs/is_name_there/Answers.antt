use mathlib.Core.Path.{refl, sym, ◌∙◌}
use native.Mathlib.Omega.{arith}
use native.Mathlib.Nat.{add-zero}
use Rattle.below.specs.Below.{holds_not}
use Rattle.markup.specs.rule.Bytes.{of_kind}
use Rattle.markup.proofs.Runs.{stands_next, stands_whole}
use Rattle.tags.proofs.Usuals.{each_next, each_over}
use Rattle.tags.proofs.is_name_there.Goals as goal

pub loop-i-init : goal.loop-i-init
loop-i-init c = (rw (add-zero c.args.at), λ r. r)

pub loop-i-preserved : goal.loop-i-preserved
unfolding of_kind
loop-i-preserved c =
    let l = c.loop-i in
    let a = c.args in (
      l.invariant.0 ∙ stands_next a.d.now a.at a.w.now l.i (omega arith) (omega arith) c.if-d-at.false,
      λ r. l.invariant.1 (each_next (of_kind 1) a.w.now l.i (omega arith)
          (sym c.is_name.ensures ∙ c.if-not-is_name.false) r),
    )

pub returns : goal.returns
returns c e =
    let l = c.loop-i in
    let a = c.args in (
      l.invariant.0 ∙ stands_whole a.d.now a.at a.w.now l.i (omega arith),
      l.invariant.1 (each_over (of_kind 1) a.w.now l.i (omega arith)),
    )

pub returns-then-d-at : goal.returns-then-d-at
returns-then-d-at c e = absurd (holds_not e refl)

pub returns-then-not-is_name : goal.returns-then-not-is_name
returns-then-not-is_name c e = absurd (holds_not e refl)
