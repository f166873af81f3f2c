use mathlib.Core.Path.{sym, ◌∙◌}
use lib.ListN.{length}
use native.Mathlib.Omega.{arith}
use borrow.Author.Tests.{eq-eqb, ne_eqb, le-leb, lt-leb}
use Rattle.attributes.specs.rule.Attribute.{attribute_of, behind_of}
use Rattle.attributes.proofs.next_attribute.Goals as goal

pub returns-then-d-n : goal.returns-then-d-n
unfolding attribute_of behind_of
returns-then-d-n c = rw (
  ← c.run-n.ensures.0,
  le-leb (length c.args.d.now) c.run-n.result (omega arith),
  c.end_fault.ensures,
)

pub returns-then-b-eq62 : goal.returns-then-b-eq62
unfolding attribute_of behind_of
returns-then-b-eq62 c = rw (
  ← c.run-n.ensures.0,
  lt-leb (length c.args.d.now) c.run-n.result (omega arith),
  eq-eqb _ 62 c.if-b-eq62.true,
)

pub returns-then-b-eq47 : goal.returns-then-b-eq47
unfolding attribute_of behind_of
returns-then-b-eq47 c =
    rw (
      ← c.run-n.ensures.0,
      lt-leb (length c.args.d.now)
          c.run-n.result (omega arith),
      ne_eqb _ 62 c.if-b-eq62.false,
      eq-eqb _ 47 c.if-b-eq47.true,
    ) c.slash.ensures

pub returns-then-n-at : goal.returns-then-n-at
unfolding attribute_of behind_of
returns-then-n-at c =
    rw (
      ← c.run-n.ensures.0,
      lt-leb (length c.args.d.now)
          c.run-n.result (omega arith),
      ne_eqb _ 62 c.if-b-eq62.false,
      ne_eqb _ 47 c.if-b-eq47.false,
      eq-eqb _ _ c.if-n-at.true,
    )

pub returns-then-starts_name : goal.returns-then-starts_name
unfolding attribute_of behind_of
returns-then-starts_name c =
    rw (
      ← c.run-n.ensures.0,
      lt-leb (length c.args.d.now) c.run-n.result (omega arith),
      ne_eqb _ 62 c.if-b-eq62.false,
      ne_eqb _ 47 c.if-b-eq47.false,
      ne_eqb _ _ c.if-n-at.false,
    ) (rw (sym c.starts_name.ensures ∙ c.if-starts_name.true) c.named.ensures)

pub returns : goal.returns
unfolding attribute_of behind_of
returns c =
    rw (
      ← c.run-n.ensures.0,
      lt-leb (length c.args.d.now) c.run-n.result (omega arith),
      ne_eqb _ 62 c.if-b-eq62.false,
      ne_eqb _ 47 c.if-b-eq47.false,
      ne_eqb _ _ c.if-n-at.false,
    ) (rw (sym c.starts_name.ensures ∙ c.if-starts_name.false))
