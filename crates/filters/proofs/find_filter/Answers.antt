use mathlib.Core.Path.{sym, ◌∙◌}
use Rattle.filters.specs.Code.{text_at}
use Rattle.filters.proofs.Asked.{filter_used, filter_own, filter_many, filter_one}
use Rattle.filters.proofs.find_filter.Goals as goal

pub returns-then-usage-ne0 : goal.returns-then-usage-ne0
returns-then-usage-ne0 c = let a = c.args in filter_used a.latin a.standard a.d.now a.rows.now a.count
    (text_at a.p a.n) (text_at a.q a.m) a.usage c.if-usage-ne0.true

pub same_name-requires : goal.same_name-requires
same_name-requires c = (c.requires.m_in_bounds.1, c.requires.m_in_bounds.0)

pub returns-then-same_name : goal.returns-then-same_name
returns-then-same_name c =
    let a = c.args in
    filter_own a.latin a.standard a.d.now a.rows.now a.count (text_at a.p a.n) (text_at a.q a.m) a.usage
    c.if-usage-ne0.false (sym c.same_name.ensures ∙ c.if-same_name.true)

pub name_sum-sum-requires : goal.name_sum-sum-requires
name_sum-sum-requires c = c.requires.m_in_bounds.1

pub count_named-requires : goal.count_named-requires
count_named-requires c = record {
  known = c.requires.known;
  n_in_bounds = (c.requires.m_in_bounds.1, c.name_sum-sum.ensures);
}

pub returns-then-count_named-ne1 : goal.returns-then-count_named-ne1
returns-then-count_named-ne1 c =
    let a = c.args in
    filter_many a.latin a.standard a.d.now a.rows.now a.count (text_at a.p a.n) (text_at a.q a.m) a.usage
    c.if-usage-ne0.false (sym c.same_name.ensures ∙ c.if-same_name.false) _
    c.count_named.ensures
    c.if-count_named-ne1.true

pub find_logical-requires : goal.find_logical-requires
find_logical-requires c = record {
  known = c.requires.known;
  n_in_bounds = (c.requires.m_in_bounds.1, c.name_sum-sum.ensures);
}

pub returns : goal.returns
returns c =
    let a = c.args in
    filter_one a.latin a.standard a.d.now a.rows.now a.count (text_at a.p a.n) (text_at a.q a.m) a.usage
    c.if-usage-ne0.false (sym c.same_name.ensures ∙ c.if-same_name.false) _ _
    c.count_named.ensures
    c.if-count_named-ne1.false c.find_logical.ensures
