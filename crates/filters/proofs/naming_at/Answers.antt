use Rattle.xml_reading.specs.rule.Word.{NAME}
use Rattle.filters.proofs.Texts.{text_is, text_not}
use Rattle.filters.proofs.Naming.{naming_not, naming_served, naming_good}
use Rattle.filters.proofs.naming_at.Goals as goal

pub has_served-requires : goal.has_served-requires
has_served-requires c =
    let a = c.args in record {
      known = c.requires.known;
      n_in_bounds = (text_is a.bad a.d.now NAME 0 a.place a.end c.text_at.ensures c.in-Ok.is).inside;
    }

pub returns-then-has_served : goal.returns-then-has_served
returns-then-has_served c =
    let a = c.args in
    naming_served a.bad a.latin a.standard a.d.now a.rows.now a.count a.place a.end _
    (text_is a.bad a.d.now NAME 0 a.place a.end c.text_at.ensures
    c.in-Ok.is) (rw c.if-has_served.true at c.has_served.ensures)

pub returns-else-has_served : goal.returns-else-has_served
returns-else-has_served c =
    let a = c.args in
    naming_good a.bad a.latin a.standard a.d.now a.rows.now a.count a.place a.end _
    (text_is a.bad a.d.now NAME 0 a.place a.end c.text_at.ensures
    c.in-Ok.is) (rw c.if-has_served.false at c.has_served.ensures)

pub returns-in-Err : goal.returns-in-Err
returns-in-Err c =
    let a = c.args in
    naming_not a.bad a.latin a.standard a.d.now a.rows.now a.count a.place a.end _
    (text_not a.bad a.d.now NAME 0 a.place a.end c.text_at.ensures c.in-Err.is)
