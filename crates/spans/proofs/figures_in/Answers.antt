use mathlib.Core.Path.{refl, sym, ◌∙◌}
use native.Mathlib.Omega.{arith}
use Rattle.spans.proofs.Hearing.{first_on}
use Rattle.spans.proofs.Numbers.{figures_on, figures_off, figures_over, figures_bad}
use Rattle.spans.proofs.figures_in.Goals as goal

pub loop-code-init : goal.loop-code-init
loop-code-init c = (refl, omega arith, omega arith, omega arith)

pub returns-then-not-is_digit : goal.returns-then-not-is_digit
returns-then-not-is_digit c =
    let l = c.loop-code in
    sym (l.invariant.0 ∙ figures_off _ _ _ l.n (sym c.next_char.ensures
    ∙ c.in-One.is) (sym c.is_digit.ensures ∙ c.if-not-is_digit.true))

pub push-size-requires : goal.push-size-requires
push-size-requires c = record {
  v_bound = c.loop-code.invariant.3;
  c_value = sym c.is_digit.ensures ∙ c.if-not-is_digit.false;
}

pub overflow_add-count : goal.overflow_add-count
overflow_add-count c =
    let l = c.loop-code in
    let o = first_on c.args.s.now l.n _ _
    (sym c.next_char.ensures ∙ c.in-One.is) in
    omega (arith, o.0, o.1)

pub loop-code-smaller : goal.loop-code-smaller
loop-code-smaller c =
    let l = c.loop-code in
    let o = first_on c.args.s.now l.n _ _
    (sym c.next_char.ensures ∙ c.in-One.is) in
    omega (arith, o.0, o.1)

pub loop-code-preserved : goal.loop-code-preserved
loop-code-preserved c =
    let l = c.loop-code in
    let e = sym c.next_char.ensures ∙ c.in-One.is in
    let o = first_on c.args.s.now l.n _ _ e in (
      l.invariant.0 ∙ figures_on _ _ _ l.n e (sym c.is_digit.ensures ∙ c.if-not-is_digit.false)
          ∙ rw (← c.push-size.ensures.0),
      o.1,
      omega (arith, o.0),
      c.push-size.ensures.1,
    )

pub returns-in-End : goal.returns-in-End
returns-in-End c =
    let l = c.loop-code in
    c.figures_end.ensures ∙ sym (l.invariant.0 ∙ figures_over _ _ _ l.n
    (sym c.next_char.ensures ∙ c.in-End.is))

pub returns-in-Not : goal.returns-in-Not
returns-in-Not c = let l = c.loop-code in
    sym (l.invariant.0 ∙ figures_bad _ _ _ l.n (sym c.next_char.ensures ∙ c.in-Not.is))
