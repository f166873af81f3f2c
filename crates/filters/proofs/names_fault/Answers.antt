use mathlib.Core.Path.{refl, ◌∙◌}
use lib.ListN.{length-set}
use native.Mathlib.Omega.{arith}
use Rattle.names.specs.Name.{key_of}
use Rattle.xml_reading.specs.rule.Role.{signs_in}
use Rattle.filters.specs.Code.{name_in}
use Rattle.filters.proofs.Asked.{keys_more, names_said}
use Rattle.filters.proofs.names_fault.Goals as goal

pub loop-i-init : goal.loop-i-init
loop-i-init c = (refl, λ j h. absurd (omega arith))

pub row_key-requires : goal.row_key-requires
row_key-requires c = record {
  classes = c.requires.classes;
  lying = c.requires.lying;
  i_lt_count = c.loop-i-test.true;
}

pub bounds-keys-i : goal.bounds-keys-i
bounds-keys-i c = let f = c.requires.lying.few in let v = c.loop-i.invariant.0 in omega arith

pub offset_bounds-keys-i : goal.offset_bounds-keys-i
offset_bounds-keys-i c = let f = c.requires.lying.few in omega arith

pub loop-i-preserved : goal.loop-i-preserved
loop-i-preserved c =
    let v = c.loop-i.invariant in
    let a = c.args in
    let f = c.requires.lying.few in
    let g = v.0 in (
      length-set c.loop-i.keys c.loop-i.i c.row_key.result ∙ v.0,
      keys_more (λ j. key_of 0 0 (signs_in a.latin a.d.now (name_in a.rows.now j))) c.loop-i.keys
          c.loop-i.i c.row_key.result (omega arith) v.1 c.row_key.ensures,
    )

pub first_fault-requires : goal.first_fault-requires
first_fault-requires c = c.requires.lying.few

pub returns : goal.returns
returns c =
    let v = c.loop-i.invariant in
    let a = c.args in
    names_said a.latin a.d.now a.rows.now _ a.count c.loop-i.i _ (omega arith) v.1
    c.first_fault.ensures
