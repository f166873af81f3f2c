use mathlib.Core.Path.{sym, ap, ◌∙◌}
use mathlib.Core.Bool.{false}
use native.Mathlib.Omega.{arith}
use Rattle.stretches.proofs.Outcomes.{begins, told_one, told_over}
use Rattle.name_line.specs.Names.{bytes_of, shorter}
use Rattle.import_rule.specs.rule.Text.{same_bytes}
use Rattle.import_lines.specs.Undoubled.{undoubled}
use Rattle.import_names.specs.Names.{name_short, name_other, name_next, name_ends}
use Rattle.import_names.proofs.same_rest.Goals as goal

pub loop-sign-init : goal.loop-sign-init
loop-sign-init c =
    let a = c.args in
    let b = begins a.latin a.d.now a.name c.start_at-c.result c.start_at-c.ensures c.requires in
    (ap (λ l. same_bytes (bytes_of l) (undoubled false a.raw.now)) (sym b.signs), b.next, b.small)

pub next_sign-requires : goal.next_sign-requires
next_sign-requires c = (c.loop-sign.invariant.1, c.loop-sign.invariant.2)

pub returns-then-raw-k : goal.returns-then-raw-k
returns-then-raw-k c =
    let s = told_one _ _ c.next_sign.ensures c.in-One.is in
    sym (c.loop-sign.invariant.0 ∙ name_short s.split _ _ c.if-raw-k.true)

pub returns-then-byte_of-b : goal.returns-then-byte_of-b
returns-then-byte_of-b c =
    let s = told_one _ _ c.next_sign.ensures c.in-One.is in
    sym (c.loop-sign.invariant.0
    ∙ name_other s.split _ _ c.if-raw-k.false c.byte_of.ensures c.if-byte_of-b.true)

pub overflow_add-k : goal.overflow_add-k
overflow_add-k c = omega (arith, c.if-raw-k.false, c.stride_of-k.ensures.2)

pub loop-sign-smaller : goal.loop-sign-smaller
loop-sign-smaller c =
    shorter (told_one _ _ c.next_sign.ensures c.in-One.is).split

pub loop-sign-preserved : goal.loop-sign-preserved
loop-sign-preserved c =
    let s = told_one _ _ c.next_sign.ensures c.in-One.is in (
      c.loop-sign.invariant.0
          ∙ rw c.stride_of-k.ensures.0 (name_next s.split _ _ c.if-raw-k.false
          c.byte_of.ensures c.if-byte_of-b.false),
      s.next,
      s.small,
    )

pub returns-in-Over : goal.returns-in-Over
returns-in-Over c = name_ends (told_over c.next_sign.ensures c.in-Over.is)
    c.args.raw.now c.loop-sign.k
    ∙ sym c.loop-sign.invariant.0
