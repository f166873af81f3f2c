use mathlib.Core.Path.{refl, sym, ◌∙◌}
use native.Mathlib.Omega.{arith}
use Rattle.spans.proofs.Hearing.{first_on}
use Rattle.spans.proofs.Words.{count_on, count_off, count_over, count_bad}
use Rattle.spans.proofs.count_in.Goals as goal

pub loop-code-init : goal.loop-code-init
loop-code-init c = (refl, omega arith, omega arith)

pub returns-then-not-of_class : goal.returns-then-not-of_class
returns-then-not-of_class c =
    let l = c.loop-code in
    sym (l.invariant.0 ∙ count_off _ _ _ l.n (sym c.next_char.ensures
    ∙ c.in-One.is) (sym c.of_class.ensures ∙ c.if-not-of_class.true))

pub overflow_add-count : goal.overflow_add-count
overflow_add-count c =
    let l = c.loop-code in
    let o = first_on c.args.s.now l.n _ _
    (sym c.next_char.ensures ∙ c.in-One.is) in
    omega (arith, o.0, o.1)

pub loop-code-smaller : goal.loop-code-smaller
loop-code-smaller c =
    let l = c.loop-code in
    let o = first_on c.args.s.now l.n _ _
    (sym c.next_char.ensures ∙ c.in-One.is) in
    omega (arith, o.0, o.1)

pub loop-code-preserved : goal.loop-code-preserved
loop-code-preserved c =
    let l = c.loop-code in
    let e = sym c.next_char.ensures ∙ c.in-One.is in
    let o = first_on c.args.s.now l.n _ _ e in
    (l.invariant.0 ∙ count_on _ _ _ l.n e (sym c.of_class.ensures ∙ c.if-not-of_class.false), o.1, omega (arith, o.0))

pub returns-in-End : goal.returns-in-End
returns-in-End c = let l = c.loop-code in
    sym (l.invariant.0 ∙ count_over _ _ _ l.n (sym c.next_char.ensures ∙ c.in-End.is))

pub returns-in-Not : goal.returns-in-Not
returns-in-Not c = let l = c.loop-code in
    sym (l.invariant.0 ∙ count_bad _ _ _ l.n (sym c.next_char.ensures ∙ c.in-Not.is))
