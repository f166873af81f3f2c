use mathlib.Core.Path.{◌≡◌, sym, ◌∙◌}
use Prim.Native.Nat.{◌+◌}
use lib.ListN.{drop, length-drop}
use lib.Seq.{drop-drop}
use native.Mathlib.Omega.{arith}
use Rattle.markup.specs.rule.Reference.{reference_of}
use Rattle.markup.proofs.Gaps.{stands_long}
use Rattle.markup.proofs.References.{name_reference, name_bad}
use Rattle.markup.proofs.reference.Goals as goal

pub overflow_add-at : goal.overflow_add-at
overflow_add-at c =
    let a = c.args in
    omega (
      arith,
      stands_long _ (drop (a.at + 1) a.d.now) (sym c.is_there.ensures ∙ c.if-is_there.true),
      length-drop (a.at + 1) a.d.now,
    )

pub numbered-requires : goal.numbered-requires
numbered-requires c =
    let a = c.args in
    omega (
      arith,
      stands_long _ (drop (a.at + 1) a.d.now) (sym c.is_there.ensures ∙ c.if-is_there.true),
      length-drop (a.at + 1) a.d.now,
    )

pub returns-then-is_there : goal.returns-then-is_there
unfolding reference_of
returns-then-is_there c =
    let a = c.args in
    let e : a.at + 1 + 2 ≡ a.at + 3 = omega arith in
    rw (sym c.is_there.ensures ∙ c.if-is_there.true, drop-drop 2 (a.at + 1) a.d.now, e) c.numbered.ensures

pub overflow_add-at-then-is_there-2 : goal.overflow_add-at-then-is_there-2
overflow_add-at-then-is_there-2 c =
    let a = c.args in
    omega (
      arith,
      stands_long _ (drop (a.at + 1) a.d.now) (sym c.is_there-2.ensures ∙ c.if-is_there-2.true),
      length-drop (a.at + 1) a.d.now,
    )

pub numbered-requires-then-is_there-2 : goal.numbered-requires-then-is_there-2
numbered-requires-then-is_there-2 c =
    let a = c.args in
    omega (
      arith,
      stands_long _ (drop (a.at + 1) a.d.now) (sym c.is_there-2.ensures ∙ c.if-is_there-2.true),
      length-drop (a.at + 1) a.d.now,
    )

pub returns-then-is_there-2 : goal.returns-then-is_there-2
unfolding reference_of
returns-then-is_there-2 c =
    let a = c.args in
    let e : a.at + 1 + 1 ≡ a.at + 2 = omega arith in
    rw (
      sym c.is_there.ensures ∙ c.if-is_there.false,
      sym c.is_there-2.ensures ∙ c.if-is_there-2.true,
      drop-drop 1 (a.at + 1) a.d.now,
      e,
    ) c.numbered-then-is_there-2.ensures

pub returns-then-code-eq0 : goal.returns-then-code-eq0
returns-then-code-eq0 c =
    let a = c.args in
    sym (name_bad a.at (drop (a.at + 1) a.d.now) (sym c.is_there.ensures ∙ c.if-is_there.false)
    (sym c.is_there-2.ensures ∙ c.if-is_there-2.false) (sym c.named-code.ensures ∙ c.if-code-eq0.true))

pub returns : goal.returns
returns c =
    let a = c.args in
    sym (name_reference a.at (drop (a.at + 1) a.d.now) (λ z. c.if-code-eq0.false (c.named-code.ensures ∙ z))
    ∙ rw (c.name_long.ensures, c.named-code.ensures))
