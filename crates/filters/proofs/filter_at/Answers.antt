use Rattle.xml_reading.specs.rule.Word.{FILTER}
use Rattle.filters.specs.Code.{text_at}
use Rattle.filters.proofs.Texts.{text_is, text_not}
use Rattle.filters.proofs.Naming.{filter_not, filter_wrong, filter_right}
use Rattle.filters.proofs.filter_at.Goals as goal

pub text_at-requires : goal.text_at-requires
text_at-requires c = c.requires.m_in_bounds.1

pub find_filter-filter-requires : goal.find_filter-filter-requires
find_filter-filter-requires c =
    let a = c.args in record {
      known = c.requires.known;
      m_in_bounds = (
        c.requires.m_in_bounds.0,
        (text_is a.bad a.d.now FILTER 0 a.place a.end c.text_at.ensures c.in-Ok.is).inside,
      );
    }

pub returns-then-filter-eq0 : goal.returns-then-filter-eq0
returns-then-filter-eq0 c =
    let a = c.args in
    filter_wrong a.bad a.latin a.standard a.d.now a.rows.now a.count a.place a.end (text_at a.q a.m)
    a.usage _
    (text_is a.bad a.d.now FILTER 0 a.place a.end c.text_at.ensures
    c.in-Ok.is) _ c.if-filter-eq0.true c.find_filter-filter.ensures

pub returns-else-filter-eq0 : goal.returns-else-filter-eq0
returns-else-filter-eq0 c =
    let a = c.args in
    filter_right a.bad a.latin a.standard a.d.now a.rows.now a.count a.place a.end (text_at a.q a.m)
    a.usage _
    (text_is a.bad a.d.now FILTER 0 a.place a.end c.text_at.ensures
    c.in-Ok.is) _ c.if-filter-eq0.false c.find_filter-filter.ensures

pub returns-in-Err : goal.returns-in-Err
returns-in-Err c =
    let a = c.args in
    filter_not a.bad a.latin a.standard a.d.now a.rows.now a.count a.place a.end (text_at a.q a.m) a.usage
    _
    (text_not a.bad a.d.now FILTER 0 a.place a.end c.text_at.ensures c.in-Err.is)
