use mathlib.Core.Path.{sym, ap}
use Rattle.stretches.proofs.Outcomes.{begins, told_one, told_over}
use Rattle.commas.specs.rule.Csv.{doubled}
use Rattle.sink.specs.Sent.{all_owed, less_owed, none_owed}
use Rattle.name_line.specs.Names.{bytes_of, doubled_next, doubled_none, shorter}
use Rattle.name_line.proofs.xml_send_signs.Goals as goal

pub loop-sign-init : goal.loop-sign-init
loop-sign-init c =
    let a = c.args in
    let b = begins a.latin a.d.now a.name c.start_at-c.result c.start_at-c.ensures c.requires in
    (all_owed _ _ _ (ap (λ l. doubled (bytes_of l)) (sym b.signs)), b.next, b.small)

pub next_sign-requires : goal.next_sign-requires
next_sign-requires c = (c.loop-sign.invariant.1, c.loop-sign.invariant.2)

pub loop-sign-smaller : goal.loop-sign-smaller
loop-sign-smaller c =
    let o = told_one _ _ c.next_sign.ensures c.in-One.is in shorter o.split

pub loop-sign-preserved : goal.loop-sign-preserved
loop-sign-preserved c =
    let o = told_one _ _ c.next_sign.ensures c.in-One.is in (
      less_owed c.loop-sign.invariant.0
          (doubled_next o.split c.byte_of.ensures) c.send_doubled-end.ensures,
      o.next,
      o.small,
    )

pub shape_of-out-in-Over : goal.shape_of-out-in-Over
shape_of-out-in-Over c = c.loop-sign.invariant.0.same_room

pub returns-in-Over : goal.returns-in-Over
returns-in-Over c = none_owed c.loop-sign.invariant.0
    (doubled_none (told_over c.next_sign.ensures c.in-Over.is))
