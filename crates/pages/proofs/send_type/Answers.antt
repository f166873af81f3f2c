use Rattle.sink.specs.Sent.{sent_as}
use borrow.Author.Tests.{eq-eqb, ne_eqb}
use Rattle.pages.specs.Page.{type_text}
use Rattle.pages.proofs.send_type.Goals as goal

pub returns-then-kind-eq1 : goal.returns-then-kind-eq1
unfolding type_text
returns-then-kind-eq1 c = sent_as c.send_bytes.ensures (rw (eq-eqb _ _ c.if-kind-eq1.true))

pub returns-then-kind-eq2 : goal.returns-then-kind-eq2
unfolding type_text
returns-then-kind-eq2 c = sent_as c.send_bytes-then-kind-eq2.ensures
    (rw (
      ne_eqb _ _ c.if-kind-eq1.false,
      eq-eqb _ _ c.if-kind-eq2.true,
    ))

pub returns-then-kind-eq3 : goal.returns-then-kind-eq3
unfolding type_text
returns-then-kind-eq3 c =
    sent_as c.send_bytes-then-kind-eq3.ensures (rw (
      ne_eqb _ _ c.if-kind-eq1.false,
      ne_eqb _ _ c.if-kind-eq2.false,
      eq-eqb _ _ c.if-kind-eq3.true,
    ))

pub returns-then-kind-eq4 : goal.returns-then-kind-eq4
unfolding type_text
returns-then-kind-eq4 c =
    sent_as c.send_bytes-then-kind-eq4.ensures (rw (
      ne_eqb _ _ c.if-kind-eq1.false,
      ne_eqb _ _ c.if-kind-eq2.false,
      ne_eqb _ _ c.if-kind-eq3.false,
      eq-eqb _ _ c.if-kind-eq4.true,
    ))

pub returns : goal.returns
unfolding type_text
returns c =
    sent_as c.send_bytes-2.ensures (rw (
      ne_eqb _ _ c.if-kind-eq1.false,
      ne_eqb _ _ c.if-kind-eq2.false,
      ne_eqb _ _ c.if-kind-eq3.false,
      ne_eqb _ _ c.if-kind-eq4.false,
    ))
