use Rattle.prefaces.specs.Code.{rule_of}
use Rattle.xml_files.proofs.Begins.{joined_named, joined_other}
use Rattle.xml_files.proofs.begin_variable.Goals as goal

pub returns-then-not-is_named : goal.returns-then-not-is_named
returns-then-not-is_named c =
    let a = c.args in
    joined_other a.bad a.d.now (rule_of a.m) a.place a.end a.seen.now a.y a.rows.now _ a.lines.now _ _ _
    c.is_named.ensures c.if-not-is_named.true c.misplaced.ensures

pub variable_at-requires : goal.variable_at-requires
variable_at-requires c =
    let p = c.requires in record {
      tens = p.tens;
      d_len_bound = (p.d_len_bound.0, p.d_len_bound.2, p.knowing);
      lines_len = p.lines_len;
    }

pub returns : goal.returns
returns c =
    let a = c.args in
    joined_named a.bad a.d.now (rule_of a.m) a.place a.end a.seen.now a.y a.rows.now _ a.lines.now _ _ _
    c.is_named.ensures c.if-not-is_named.false
    c.variable_at.ensures
