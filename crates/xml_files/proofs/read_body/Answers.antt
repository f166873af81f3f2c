use mathlib.Core.Path.{◌∙◌}
use Rattle.prefaces.specs.Code.{rule_of}
use Rattle.xml_files.proofs.Wholes.{body_next, body_lying, body_here, body_ends, body_not}
use Rattle.xml_files.proofs.read_body.Goals as goal

pub read_variables-requires : goal.read_variables-requires
read_variables-requires c = let p = c.requires in record {
  tens = p.tens;
  d_len_bound = p.d_len_bound;
  rows_len = p.rows_len;
  seen_value = p.seen_value;
}

pub read_closing-requires : goal.read_closing-requires
read_closing-requires c =
    let a = c.args in
    body_next a.bad a.d.now c.requires.d_len_bound.0 (rule_of a.m) a.at _ _ _ c.read_variables.ensures.value
    c.read_variables.ensures.laid _ _ c.in-Is.is

pub settle-requires : goal.settle-requires
settle-requires c =
    let a = c.args in
    let p = c.requires in
    let k = c.read_variables.auto in record {
      classes = p.classes;
      lying = body_lying a.bad a.d.now p.d_len_bound.0 (rule_of a.m) a.at _ _ _ c.read_variables.ensures.value
          c.read_variables.ensures.laid _ _ c.in-Is.is (k.rows ∙ p.rows_len.0);
    }

pub returns-in-Ok : goal.returns-in-Ok
returns-in-Ok c =
    let a = c.args in
    body_here a.bad a.d.now c.requires.d_len_bound.0 (rule_of a.m) a.at _ _ _ c.read_variables.ensures.value
    c.read_variables.ensures.laid _ _ c.in-Is.is
    a.latin _ c.read_closing.ensures.0 _ _ c.in-Ok.is c.settle.ensures

pub returns-in-Err : goal.returns-in-Err
returns-in-Err c =
    let a = c.args in
    body_ends a.bad a.d.now c.requires.d_len_bound.0 (rule_of a.m) a.at _ _ _ c.read_variables.ensures.value
    c.read_variables.ensures.laid _ _ c.in-Is.is
    a.latin _ c.read_closing.ensures.0 _ c.in-Err.is

pub returns-in-Not : goal.returns-in-Not
returns-in-Not c =
    let a = c.args in
    body_not a.bad a.d.now c.requires.d_len_bound.0 (rule_of a.m) a.at _ _ _ c.read_variables.ensures.value
    c.read_variables.ensures.laid a.latin _ c.in-Not.is
