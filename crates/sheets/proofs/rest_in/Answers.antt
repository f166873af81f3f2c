use mathlib.Core.Path.{refl, ap, ◌∙◌}
use borrow.Author.Tests.{ne_eqb}
use Rattle.survey.specs.rule.Survey.{single, quantity}
use Rattle.elements.specs.Code.{read_of}
use Rattle.prefaces.specs.Code.{rule_of}
use Rattle.sheets.specs.Code.{plain_of}
use Rattle.sheets.proofs.TypedRest.{rests_of, content_single, content_quantity, kinded, rests_size, rests_logical}
use Rattle.sheets.proofs.rest_in.Goals as goal

pub returns-then-kind-eq1 : goal.returns-then-kind-eq1
returns-then-kind-eq1 c =
    let a = c.args in
    kinded a.bad a.d.now (rule_of a.m) a.before {room = a.room} (read_of a.o) c.if-kind-eq1.true
    (rests_of single (λ b n. refl) (λ b. refl) (content_single a.bad a.d.now (rule_of a.m) a.before a.room (read_of a.o))
    c.values_rest.ensures)

pub returns-then-kind-eq2 : goal.returns-then-kind-eq2
returns-then-kind-eq2 c =
    let a = c.args in
    kinded a.bad a.d.now (rule_of a.m) a.before {room = a.room} (read_of a.o)
    c.if-kind-eq2.true c.spread_rest.ensures

pub returns-then-kind-eq3 : goal.returns-then-kind-eq3
returns-then-kind-eq3 c =
    let a = c.args in
    kinded a.bad a.d.now (rule_of a.m) a.before {room = a.room} (read_of a.o) c.if-kind-eq3.true
    (rests_of quantity (λ b n. refl) (λ b. refl) (content_quantity a.bad a.d.now (rule_of a.m) a.before a.room
    (read_of a.o)) c.values_rest-then-kind-eq3.ensures)

pub returns-then-kind-eq4 : goal.returns-then-kind-eq4
returns-then-kind-eq4 c =
    let a = c.args in
    kinded a.bad a.d.now (rule_of a.m) a.before {room = a.room} (read_of a.o) c.if-kind-eq4.true
    (rests_size a.bad a.d.now (rule_of a.m) a.before a.room (read_of a.o) c.size_rest.ensures)

pub returns : goal.returns
returns c =
    let a = c.args in
    rests_logical a.bad a.d.now (rule_of a.m) a.before a.room a.kind (read_of a.o)
    (ne_eqb a.kind 1 c.if-kind-eq1.false)
    (ne_eqb a.kind 2 c.if-kind-eq2.false)
    (ne_eqb a.kind 3 c.if-kind-eq3.false) (ne_eqb a.kind 4 c.if-kind-eq4.false)
    (c.plain_rest.ensures ∙ ap (plain_of 0 a.before) c.close_in-e.ensures.0)
