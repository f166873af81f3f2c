use mathlib.Core.Path.{sym, ap, ◌∙◌}
use Rattle.stretches.proofs.Outcomes.{begins, told_one, told_over}
use Rattle.commas.specs.rule.Csv.{holds_special}
use Rattle.name_line.specs.Names.{bytes_of, special_next, special_none, shorter}
use Rattle.name_line.proofs.xml_needs_quotes.Goals as goal

pub loop-sign-init : goal.loop-sign-init
loop-sign-init c =
    let a = c.args in
    let b = begins a.latin a.d.now a.name c.start_at-c.result c.start_at-c.ensures c.requires in
    (ap (λ l. holds_special (bytes_of l)) (sym b.signs), b.next, b.small)

pub next_sign-requires : goal.next_sign-requires
next_sign-requires c = (c.loop-sign.invariant.1, c.loop-sign.invariant.2)

pub returns-then-special : goal.returns-then-special
returns-then-special c =
    let o = told_one _ _ c.next_sign.ensures c.in-One.is in
    sym (c.loop-sign.invariant.0
    ∙ special_next o.split c.byte_of.ensures ∙ rw (sym c.special.ensures, c.if-special.true))

pub loop-sign-smaller : goal.loop-sign-smaller
loop-sign-smaller c = let o = told_one _ _ c.next_sign.ensures
    c.in-One.is in shorter o.split

pub loop-sign-preserved : goal.loop-sign-preserved
loop-sign-preserved c =
    let o = told_one _ _ c.next_sign.ensures c.in-One.is in (
      c.loop-sign.invariant.0 ∙ special_next o.split c.byte_of.ensures
          ∙ rw (sym c.special.ensures, c.if-special.false),
      o.next,
      o.small,
    )

pub returns-in-Over : goal.returns-in-Over
returns-in-Over c = sym (c.loop-sign.invariant.0
    ∙ special_none (told_over c.next_sign.ensures c.in-Over.is))
