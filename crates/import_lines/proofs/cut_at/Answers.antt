-- `import_lines::cut_at` meets its contract.
use native.Mathlib.Omega.{arith}
use Rattle.csv_fields.specs.Page.{cut_as}
use Rattle.csv_fields.proofs.Page.{bounded_bare, bounded_fresh}
use Rattle.import_lines.proofs.cut_at.Goals as goal

pub returns-then-end-eq0 : goal.returns-then-end-eq0
returns-then-end-eq0 c = record {
  cut_as = c.next_field.ensures;
  cut_from = λ z. absurd (z c.if-end-eq0.true);
}

pub returns : goal.returns
returns c =
    let b = c.requires.1 c.if-end-eq0.false in
    let e = c.ended_field.ensures in record {
      cut_as = (cut_as _ (bounded_fresh b) c.ended_field.result e.0, e.1);
      cut_from = λ z. e.2;
    }

pub next_field-requires : goal.next_field-requires
next_field-requires c = c.requires.0

pub overflow_sub-end : goal.overflow_sub-end
overflow_sub-end c = omega (arith, c.if-end-eq0.false)

pub ended_field-requires : goal.ended_field-requires
ended_field-requires c = bounded_bare (c.requires.1 c.if-end-eq0.false)
