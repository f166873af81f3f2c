-- `readings::many::fields_legal` meets its contract: each kind by its judge.
use mathlib.Core.Path.{sym, ap, ◌∙◌}
use Prim.Native.Nat.{◌+◌, ◌-◌, ◌≤◌}
use native.Mathlib.Omega.{arith}
use lib.ListN.{length}
use Rattle.layout.specs.declared.Kind.TheVariants.{Multiple}
use Rattle.sets.specs.rule.Sets.{is_illegal}
use Rattle.readings.specs.Many.{begin, bytes_of, ready_at}
use Rattle.readings.specs.Ready.{text_ready}
use Rattle.readings.proofs.Laws.{as_text, text_legal}
use Rattle.readings.proofs.many.fields_legal.Goals as goal

pub bits_legal-requires : goal.bits_legal-requires
bits_legal-requires c =
    let p = c.requires in record {
      row_ready = p.row_ready;
      kind_value = c.in-Multiple.is ∙ ap Multiple c.in-Bits.is;
      standing = p.standing;
    }

pub spreads_legal-requires : goal.spreads_legal-requires
spreads_legal-requires c =
    let p = c.requires in
    let k = c.in-Multiple.is ∙ ap Multiple c.in-Fields.is in record {
      row_ready = p.row_ready;
      kind_value = k;
      standing = p.standing;
      scratch_len_bound = p.scratch_len_bound;
    }

-- a text is legal in a record without a byte below 32
pub returns-in-Character : goal.returns-in-Character
returns-in-Character c e k l =
    let a = c.args in
    let r = a.row in
    let x = c.in-Character.is in
    let bytes = bytes_of a.d.now a.batch k in
    let f = text_ready (ready_at a.d.now (begin a.batch k) c.requires.row_ready (c.requires.standing.inside k l)) x in
    let i : r.start - 1 + r.width ≤ length bytes = omega (arith, f.1, f.2) in
    ap is_illegal (as_text a.t.now a.rows r bytes x)
    ∙ sym (text_legal bytes (r.start - 1) r.width (c.requires.all_plain k l) i)
