use borrow.Author.Tests.{eq-eqb, ne_eqb}
use Rattle.reading.specs.rule.Least.{judged}
use Rattle.prefaces.specs.Code.{mannered_of}
use Rattle.prefaces.proofs.Charges.{version_first, third_alone, none, third_first, unknown_first}
use Rattle.prefaces.proofs.judge_manner.Goals as goal

pub returns-then-old-new : goal.returns-then-old-new
unfolding mannered_of judged
returns-then-old-new c = let h = c.args.h in rw (c.if-old-new.true, version_first h.a h.unknown h.third _ _)

pub returns-then-extra : goal.returns-then-extra
unfolding mannered_of judged
returns-then-extra c = let h = c.args.h in
    rw (
      c.if-old-new.false,
      eq-eqb h.unknown 0 c.if-h-eq0.true,
      c.if-extra.true,
      third_alone h.a h.unknown h.third,
    )

pub returns-then-empty : goal.returns-then-empty
unfolding mannered_of judged
returns-then-empty c = let h = c.args.h in
    rw (
      c.if-old-new.false,
      eq-eqb h.unknown 0 c.if-h-eq0.true,
      c.if-extra.false,
      none h.a h.unknown h.third,
      c.if-empty.true,
    )

pub returns-then-h-eq0 : goal.returns-then-h-eq0
unfolding mannered_of judged
returns-then-h-eq0 c =
    let h = c.args.h in
    rw (
      c.if-old-new.false,
      eq-eqb h.unknown 0 c.if-h-eq0.true,
      c.if-extra.false,
      none h.a h.unknown h.third,
      c.if-empty.false,
    )

pub returns-then-extra-h : goal.returns-then-extra-h
unfolding mannered_of judged
returns-then-extra-h c = let h = c.args.h in
    rw (
      c.if-old-new.false,
      ne_eqb h.unknown 0 c.if-h-eq0.false,
      third_first h.a h.unknown h.third _ c.if-extra-h.true,
    )

pub returns : goal.returns
unfolding mannered_of judged
returns c = let h = c.args.h in
    rw (
      c.if-old-new.false,
      ne_eqb h.unknown 0 c.if-h-eq0.false,
      unknown_first h.a h.unknown h.third _ c.if-extra-h.false,
    )
