-- `readings::many::row_legal` meets its contract: its row is read, and judged by its kind.
use mathlib.Core.Path.{subst}
use Rattle.layout.specs.declared.Row.{Row}
use Rattle.readings.specs.Many.{LegalIn}
use Rattle.readings.proofs.many.row_legal.Goals as goal

pub fields_legal-requires : goal.fields_legal-requires
fields_legal-requires c = let p = c.requires in record {
  row_ready = rw c.read.ensures p.row_ready;
  standing = p.standing;
  all_plain = p.all_plain;
  scratch_len_bound = p.scratch_len_bound;
}

pub returns : goal.returns
returns c e =
    let a = c.args in
    subst (λ (r : Row). LegalIn a.t.now a.rows r a.d.now a.batch) c.read.ensures
    (c.fields_legal.ensures e)
