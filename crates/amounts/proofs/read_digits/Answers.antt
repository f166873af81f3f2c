use mathlib.Core.Path.{sym, ◌∙◌}
use native.Mathlib.Omega.{arith}
use Rattle.spans.proofs.Hearing.{first_on}
use Rattle.amounts.proofs.Hears.{going_start, going_next, going_other, going_end, heard_ill}
use Rattle.amounts.proofs.read_digits.Goals as goal

pub loop-code-init : goal.loop-code-init
loop-code-init c = (
  c.requires.at_in_bounds,
  c.requires.v_bound,
  omega arith,
  λ cs h. going_start c.args.s.now c.args.v c.args.at cs h,
)

pub next_char-requires : goal.next_char-requires
next_char-requires c = c.loop-code.invariant.0

pub returns-then-not-is_digit : goal.returns-then-not-is_digit
returns-then-not-is_digit c =
    let args = c.args in (
      c.loop-code.invariant.0,
      c.loop-code.invariant.1,
      λ cs h. going_other args.s.now args.v cs c.loop-code.size c.loop-code.count c.loop-code.invariant.1
          (c.loop-code.invariant.3 cs h) (sym c.next_char.ensures ∙ c.in-One.is)
          (sym c.is_digit.ensures ∙ c.if-not-is_digit.true),
    )

pub push-size-requires : goal.push-size-requires
push-size-requires c = record {
  v_bound = c.loop-code.invariant.1;
  c_value = sym c.is_digit.ensures ∙ c.if-not-is_digit.false;
}

pub overflow_add-count : goal.overflow_add-count
overflow_add-count c =
    let o = first_on c.args.s.now c.loop-code.n _ _
    (sym c.next_char.ensures ∙ c.in-One.is) in
    omega (arith, o.0, o.1)

pub loop-code-smaller : goal.loop-code-smaller
loop-code-smaller c =
    let o = first_on c.args.s.now c.loop-code.n _ _
    (sym c.next_char.ensures ∙ c.in-One.is) in
    omega (arith, o.0, o.1)

pub loop-code-preserved : goal.loop-code-preserved
loop-code-preserved c =
    let args = c.args in
    let o = first_on args.s.now c.loop-code.n _ _ (sym c.next_char.ensures ∙ c.in-One.is) in (
      o.1,
      c.push-size.ensures.1,
      omega (arith, o.0),
      λ cs h. rw c.push-size.ensures.0 (going_next args.s.now args.v cs c.loop-code.size c.loop-code.count
          (c.loop-code.invariant.3 cs h) (sym c.next_char.ensures ∙ c.in-One.is)
          (sym c.is_digit.ensures ∙ c.if-not-is_digit.false)),
    )

pub returns-in-End : goal.returns-in-End
returns-in-End c = (
  c.loop-code.invariant.0,
  c.loop-code.invariant.1,
  λ cs h. going_end c.args.s.now c.args.v cs
      c.loop-code.size c.loop-code.count c.loop-code.invariant.1
      (c.loop-code.invariant.3 cs h) (sym c.next_char.ensures ∙ c.in-End.is),
)

pub returns-in-Not : goal.returns-in-Not
returns-in-Not c = (
  c.loop-code.invariant.0,
  c.loop-code.invariant.1,
  λ cs h. heard_ill c.args.s.now c.loop-code.n
      (sym c.next_char.ensures ∙ c.in-Not.is) (c.loop-code.invariant.3 cs h).left,
)
