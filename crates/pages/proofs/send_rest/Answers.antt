use mathlib.Core.Path.{refl}
use Rattle.sink.specs.Sent.{nothing_sent}
use borrow.Author.Tests.{eq-eqb, ne_eqb}
use Rattle.looks.specs.Look.{opens, letters}
use Rattle.pages.specs.Page.{rest_page}
use Rattle.pages.specs.Law.{even_small, paged_before}
use Rattle.pages.proofs.send_rest.Goals as goal

pub returns-then-kind-eq5 : goal.returns-then-kind-eq5
unfolding rest_page
returns-then-kind-eq5 c =
    rw (eq-eqb _ _ c.if-kind-eq5.true) (record { sent = nothing_sent _ _ _; stands = refl })

pub number_line-e-requires : goal.number_line-e-requires
unfolding opens letters
number_line-e-requires c = refl

pub send_number-requires : goal.send_number-requires
send_number-requires c = record {
  classes = c.requires.classes;
  number_line = (c.number_line-e.ensures, c.pass_blanks-g.ensures.0);
}

pub returns-then-kind-eq4 : goal.returns-then-kind-eq4
unfolding rest_page
returns-then-kind-eq4 c =
    rw (ne_eqb _ _ c.if-kind-eq5.false, eq-eqb _ _ c.if-kind-eq4.true) c.send_number.ensures

pub send_spread-a-requires : goal.send_spread-a-requires
send_spread-a-requires c = record {
  classes = c.requires.classes;
  tens = c.requires.tens;
  size_bound = even_small _ _ c.requires.room_bound;
}

pub returns-then-kind-eq2 : goal.returns-then-kind-eq2
unfolding rest_page
returns-then-kind-eq2 c =
    rw (
      ne_eqb _ _ c.if-kind-eq5.false,
      ne_eqb _ _ c.if-kind-eq4.false,
      eq-eqb _ _ c.if-kind-eq2.true,
      ← c.spread_at-p.ensures,
    ) (paged_before c.send_spread-a.ensures c.send_values.ensures)

pub returns : goal.returns
unfolding rest_page
returns c =
    rw (ne_eqb _ _ c.if-kind-eq5.false, ne_eqb _ _ c.if-kind-eq4.false, ne_eqb _ _ c.if-kind-eq2.false)
    c.send_values-2.ensures

pub spread_at-p-requires : goal.spread_at-p-requires
spread_at-p-requires c = c.requires.classes

pub send_values-requires : goal.send_values-requires
send_values-requires c = c.requires.classes

pub send_values-requires-2 : goal.send_values-requires-2
send_values-requires-2 c = c.requires.classes
