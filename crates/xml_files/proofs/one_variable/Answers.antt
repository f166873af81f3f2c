use mathlib.Core.Path.{refl}
use Rattle.prefaces.specs.Code.{rule_of}
use Rattle.xml_files.proofs.Turns.{start_in, some_rows, turned_more, turned_fails, turned_over, turned_none, turned_not}
use Rattle.xml_files.proofs.one_variable.Goals as goal

pub begin_variable-requires : goal.begin_variable-requires
begin_variable-requires c =
    let p = c.requires in
    let i = start_in c.args.d.now c.args.at _ c.find_open.ensures.1 c.in-Start.is in record {
      tens = p.tens;
      d_len_bound = (p.d_len_bound.0, i.0, i.1);
      lines_len = p.lines_len;
      knowing = p.knowing;
    }

pub returns-then-y-eq0 : goal.returns-then-y-eq0
returns-then-y-eq0 c =
    let a = c.args in
    turned_none a.bad a.d.now (rule_of a.m) a.at a.seen.now a.y a.rows.now _ a.lines.now _ _
    c.find_open.ensures.0 _ _
    c.in-Shut.is c.if-y-eq0.true

pub returns-in-Is : goal.returns-in-Is
returns-in-Is c =
    let a = c.args in
    turned_more a.bad a.d.now (rule_of a.m) a.at a.seen.now a.y a.rows.now _ a.lines.now _ _
    c.find_open.ensures.0 _ _ c.in-Start.is _
    c.begin_variable.ensures _ _ _ c.in-Is.is

pub returns-in-Not-begin_variable : goal.returns-in-Not-begin_variable
returns-in-Not-begin_variable c =
    let a = c.args in
    turned_fails a.bad a.d.now (rule_of a.m) a.at a.seen.now a.y a.rows.now _ a.lines.now _ _
    c.find_open.ensures.0 _ _ c.in-Start.is _
    c.begin_variable.ensures _ c.in-Not-begin_variable.is

pub returns-else-y-eq0 : goal.returns-else-y-eq0
returns-else-y-eq0 c =
    let a = c.args in
    turned_over a.bad a.d.now (rule_of a.m) a.at a.seen.now a.y a.rows.now _ a.lines.now _ _
    c.find_open.ensures.0 _ _
    c.in-Shut.is (some_rows a.y.rows c.if-y-eq0.false) refl refl

pub returns-in-Not : goal.returns-in-Not
returns-in-Not c =
    let a = c.args in
    turned_not a.bad a.d.now (rule_of a.m) a.at a.seen.now a.y a.rows.now _ a.lines.now _ _
    c.find_open.ensures.0 _
    c.in-Not.is
