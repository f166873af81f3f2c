use mathlib.Core.Path.{sym, ◌∙◌}
use Rattle.filters.proofs.Asked.{use_none, use_mistyped, use_asked}
use Rattle.filters.proofs.use_wrong.Goals as goal

pub returns-then-usage-eq0 : goal.returns-then-usage-eq0
returns-then-usage-eq0 c = let a = c.args in use_none a.rows.now a.count a.usage a.kind c.if-usage-eq0.true

pub returns-then-not-may_serve : goal.returns-then-not-may_serve
returns-then-not-may_serve c =
    let a = c.args in
    use_mistyped a.rows.now a.count a.usage a.kind c.if-usage-eq0.false
    (sym c.may_serve.ensures ∙ c.if-not-may_serve.true)

pub returns : goal.returns
returns c =
    let a = c.args in
    use_asked a.rows.now a.count a.usage a.kind c.if-usage-eq0.false
    (sym c.may_serve.ensures ∙ c.if-not-may_serve.false) _ c.use_taken.ensures
