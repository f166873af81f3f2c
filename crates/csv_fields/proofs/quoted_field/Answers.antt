use mathlib.Core.Path.{sym, ◌∙◌}
use native.Mathlib.Omega.{arith}
use Prim.Native.Nat.{◌+◌, ◌≤◌}
use Rattle.csv_fields.specs.Page.{inside_none, inside_two, found_by, ahead_by, quote_at_lem}
use Rattle.csv_fields.proofs.Page.{inside_closed, inside_open}
use Rattle.csv_fields.specs.Page.{not_quote}
use Rattle.csv_fields.proofs.quoted_field.Goals as goal

pub loop-at-init : goal.loop-at-init
loop-at-init c = inside_none _ _ c.requires

pub quote_to-q-requires : goal.quote_to-q-requires
quote_to-q-requires c = c.loop-at.invariant.stands.within

pub returns-then-d-q : goal.returns-then-d-q
returns-then-d-q c = (inside_open c.loop-at.invariant c.quote_to-q.ensures c.if-d-q.true, tt)

pub overflow_add-k : goal.overflow_add-k
overflow_add-k c = omega (arith, c.if-d-q.false)

pub returns-then-not-is_quote : goal.returns-then-not-is_quote
returns-then-not-is_quote c =
    let args = c.args in
    let k = inside_closed c.loop-at.invariant
    c.quote_to-q.ensures (omega (arith, c.if-d-q.false))
    (not_quote _ _ (sym c.is_quote.ensures ∙ c.if-not-is_quote.true)) in
    let o : args.at ≤ c.quote_to-q.result + 1 = omega (arith, k.stands.on) in
    rw c.field_of.ensures (
      found_by k.stands k.reads (omega arith) _ c.stop_at.ensures,
      ahead_by _ args.at (c.quote_to-q.result + 1) args.at
          c.quote_to-q.result _ o _ c.stop_at.ensures,
    )

pub overflow_add-i : goal.overflow_add-i
overflow_add-i c = let q = quote_at_lem _ _ (sym c.is_quote.ensures ∙ c.if-not-is_quote.false) in omega (arith, q.0)

pub loop-at-smaller : goal.loop-at-smaller
loop-at-smaller c = let q = quote_at_lem _ _ (sym c.is_quote.ensures ∙ c.if-not-is_quote.false) in
    omega (arith, q.0, c.quote_to-q.ensures.on)

pub loop-at-preserved : goal.loop-at-preserved
loop-at-preserved c = let q = quote_at_lem _ _ (sym c.is_quote.ensures ∙ c.if-not-is_quote.false) in
    inside_two c.loop-at.invariant c.quote_to-q.ensures
    (omega (arith, c.if-d-q.false)) q.0 q.1
