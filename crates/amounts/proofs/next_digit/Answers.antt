use mathlib.Core.Path.{refl, sym, ◌∙◌}
use lib.ListN.{length}
use native.Mathlib.Omega.{arith}
use Rattle.spans.proofs.Hearing.{first_on}
use Rattle.amounts.specs.rule.Said.{digits_in}
use Rattle.amounts.proofs.Hears.{heard_ill}
use Rattle.amounts.proofs.Orders.{left_digit, left_other, left_end, ahead_one, ahead_none}
use Rattle.amounts.proofs.next_digit.Goals as goal

pub loop-code-init : goal.loop-code-init
loop-code-init c = (c.requires, omega arith, λ cs h. record { rest = cs; left = h; same = refl })

pub next_char-requires : goal.next_char-requires
next_char-requires c = c.loop-code.invariant.0

pub returns-then-is_digit : goal.returns-then-is_digit
returns-then-is_digit c =
    let args = c.args in
    let o = first_on args.s.now c.loop-code.n _ _ (sym c.next_char.ensures
    ∙ c.in-One.is) in (
      ahead_one args.at (length args.s.now) (omega (arith, o.0)) o.1,
      λ cs h. left_digit args.s.now (digits_in cs) (c.loop-code.invariant.2 cs h)
          (sym c.next_char.ensures ∙ c.in-One.is)
          (sym c.is_digit.ensures ∙ c.if-is_digit.true) cs refl,
    )

pub loop-code-smaller : goal.loop-code-smaller
loop-code-smaller c =
    let o = first_on c.args.s.now c.loop-code.n _ _
    (sym c.next_char.ensures ∙ c.in-One.is) in
    omega (arith, o.0, o.1)

pub loop-code-preserved : goal.loop-code-preserved
loop-code-preserved c =
    let args = c.args in
    let o = first_on args.s.now c.loop-code.n _ _
    (sym c.next_char.ensures ∙ c.in-One.is) in (
      o.1,
      omega (arith, o.0),
      λ cs h. left_other args.s.now (digits_in cs) (c.loop-code.invariant.2 cs h)
          (sym c.next_char.ensures ∙ c.in-One.is) (sym c.is_digit.ensures ∙ c.if-is_digit.false),
    )

pub returns-in-End : goal.returns-in-End
returns-in-End c = (
  ahead_none c.args.at
      (length c.args.s.now),
  λ cs h. left_end c.args.s.now (digits_in cs) (c.loop-code.invariant.2 cs h)
      (sym c.next_char.ensures ∙ c.in-End.is) cs refl,
)

pub returns-in-Not : goal.returns-in-Not
returns-in-Not c = (
  ahead_none c.args.at
      (length c.args.s.now),
  λ cs h. heard_ill c.args.s.now c.loop-code.n
      (sym c.next_char.ensures ∙ c.in-Not.is) (c.loop-code.invariant.2 cs h).left,
)
