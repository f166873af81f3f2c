-- `readings::row_illegal` meets its contract: its row is read, and judged by its kind.
use mathlib.Core.Path.{ap, ◌∙◌}
use Rattle.layout.specs.declared.Row.{Row}
use Rattle.fields.specs.rule.Row.{reading_of}
use Rattle.sets.specs.rule.Sets.{is_illegal}
use Rattle.readings.proofs.row_illegal.Goals as goal

pub field_illegal-requires : goal.field_illegal-requires
field_illegal-requires c = let p = c.requires in record {
  row_ready = rw c.read.ensures p.row_ready;
  plain = p.plain;
  scratch_len_bound = p.scratch_len_bound;
}

pub returns : goal.returns
returns c =
    let a = c.args in
    c.field_illegal.ensures
    ∙ ap (λ (r : Row). is_illegal (reading_of a.t.now a.rows r a.bytes.now)) c.read.ensures
