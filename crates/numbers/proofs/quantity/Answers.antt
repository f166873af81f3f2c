-- `numbers::quantity` meets its contract: what follows the spaces is nothing, a minus and an amount, or an amount.
use mathlib.Core.Path.{sym, ap, ◌∙◌}
use mathlib.Core.Bool.{true, false}
use Prim.Native.Nat.{◌+◌}
use native.Mathlib.Omega.{arith}
use Rattle.fields.specs.rule.Number.{amount_of}
use Rattle.numbers.specs.Numeral.{said_of}
use Rattle.numbers.proofs.Laws.{rest_is, short_rest, quantity_none, quantity_minus, quantity_plain}
use Rattle.numbers.proofs.quantity.Goals as goal

pub returns-then-s-p : goal.returns-then-s-p
unfolding said_of
returns-then-s-p c = sym (quantity_none _ _ c.leading_spaces-p.ensures.1 _ c.if-s-p.true)

pub amount-requires : goal.amount-requires
amount-requires c = record {
  format_facts = c.requires.format_facts;
  s_len_bound = short_rest c.args.s.now (c.leading_spaces-p.result + 1) (omega arith) c.requires.s_len_bound;
}

pub returns-then-s-p-eq45 : goal.returns-then-s-p-eq45
returns-then-s-p-eq45 c =
    let a = c.args in
    c.amount.ensures ∙ ap (amount_of a.f true)
    (rest_is a.s.now (c.leading_spaces-p.result + 1) (omega arith))
    ∙ sym (quantity_minus _ _ c.leading_spaces-p.ensures.1 a.f
    c.if-s-p.false c.if-s-p-eq45.true)

pub amount-requires-2 : goal.amount-requires-2
amount-requires-2 c = record {
  format_facts = c.requires.format_facts;
  s_len_bound = short_rest c.args.s.now c.leading_spaces-p.result (omega arith) c.requires.s_len_bound;
}

pub returns : goal.returns
returns c =
    let a = c.args in
    c.amount-2.ensures ∙ ap (amount_of a.f false)
    (rest_is a.s.now c.leading_spaces-p.result (omega arith))
    ∙ sym (quantity_plain _ _ c.leading_spaces-p.ensures.1 a.f
    c.if-s-p.false c.if-s-p-eq45.false)
