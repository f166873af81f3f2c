use mathlib.Core.Path.{◌≡◌, sym, ◌∙◌}
use native.Mathlib.Omega.{arith}
use lib.ListN.{length}
use Rattle.field_judges.specs.Judged.{text_none, text_more}
use Rattle.field_judges.proofs.text_to.Goals as goal

pub loop-i-init : goal.loop-i-init
loop-i-init c = text_none _ _ c.requires

pub returns-then-ends_text : goal.returns-then-ends_text
returns-then-ends_text c = c.loop-i.invariant

pub loop-i-preserved : goal.loop-i-preserved
loop-i-preserved c =
    text_more c.loop-i.invariant c.loop-i-test.true
    (sym c.ends_text.ensures ∙ c.if-ends_text.false)

pub returns : goal.returns
returns c =
    let e : c.loop-i.i ≡ length c.args.d.now = omega arith in
    rw e at c.loop-i.invariant
