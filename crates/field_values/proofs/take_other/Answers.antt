-- `field_values::take_other` meets its contract.
use mathlib.Core.Path.{refl, sym, ◌∙◌}
use native.Mathlib.Omega.{arith}
use lib.Seq.{length-take-le}
use Rattle.writes.specs.rule.Write.{lent_value}
use Rattle.field_values.specs.Steps.{none_taken, long_none, many_none, set_sendable, set_stands, set_other, set_left_is, set_is}
use Rattle.field_values.specs.Steps.{other_length, left_none, wrote, ready_limits}
use Rattle.field_values.proofs.take_other.Goals as goal

pub returns-then-f-gt50000 : goal.returns-then-f-gt50000
returns-then-f-gt50000 c = none_taken (long_none c.args.row c.args.f.now
    c.requires.fact.0 c.requires.fact.1.is
    (ready_limits c.requires.ready) c.if-f-gt50000.true)

pub returns-in_default : goal.returns-in_default
returns-in_default c =
    none_taken (many_none c.args.row c.args.f.now c.requires.fact.0 c.requires.fact.1.is
    (ready_limits c.requires.ready) c.in_default.ensures)

pub send_set-end-requires : goal.send_set-end-requires
send_set-end-requires c = record {
  tens = c.requires.tens;
  codes = set_sendable c.args.f.now _ _ (c.guess_set.auto.list ∙ c.requires.list_len.0) c.in-Some.ensures.0 c.in-Some.ensures.1;
}

pub returns-then-end-f : goal.returns-then-end-f
returns-then-end-f c =
    none_taken (left_none _ _ _ _ (set_left_is c.args.row c.args.f.now c.requires.fact.0
    c.requires.fact.1.is c.in-Some.ensures.1 refl
    (other_length _ c.args.f.now (set_other c.send_set-end.ensures c.requires.list_len.1 c.args.f.now
    (omega (arith, c.if-f-gt50000.false)) c.if-end-f.true))))

pub slice_bounds-left_of-end : goal.slice_bounds-left_of-end
slice_bounds-left_of-end c =
    omega (
      arith,
      c.send_set-end.ensures.room,
      c.requires.list_len.1,
      c.if-f-gt50000.false,
      c.if-end-f.false,
    )

pub slice_bounds-left_of-end-2 : goal.slice_bounds-left_of-end-2
slice_bounds-left_of-end-2 c =
    sym (length-take-le _ _ (omega (
      arith,
      c.send_set-end.ensures.room,
      c.requires.list_len.1,
      c.if-f-gt50000.false,
      c.if-end-f.false,
    )))

pub returns-then-not-left_of : goal.returns-then-not-left_of
returns-then-not-left_of c =
    let s = set_stands c.send_set-end.ensures c.requires.list_len.1 (omega (
      arith,
      c.if-f-gt50000.false,
      c.if-end-f.false,
    )) in
    none_taken (left_none _ _ _ _ (set_left_is c.args.row c.args.f.now c.requires.fact.0
    c.requires.fact.1.is c.in-Some.ensures.1 s.1
    (sym c.if-not-left_of.true ∙ c.left_of.ensures)))

pub slice_bounds-write_row-end : goal.slice_bounds-write_row-end
slice_bounds-write_row-end c =
    omega (
      arith,
      c.guess_set.auto.list,
      c.requires.list_len.0,
      c.in-Some.ensures.0,
    )

pub slice_bounds-write_row-end-2 : goal.slice_bounds-write_row-end-2
slice_bounds-write_row-end-2 c =
    sym (length-take-le _ _ (omega (
      arith,
      c.guess_set.auto.list,
      c.requires.list_len.0,
      c.in-Some.ensures.0,
    )))

pub returns : goal.returns
unfolding lent_value
returns c =
    let s = set_stands c.send_set-end.ensures c.requires.list_len.1 (omega (
      arith,
      c.if-f-gt50000.false,
      c.if-end-f.false,
    )) in
    wrote (set_is c.args.row c.args.f.now c.requires.fact.0 c.requires.fact.1.is
    c.in-Some.ensures.1) (set_left_is c.args.row c.args.f.now c.requires.fact.0 c.requires.fact.1.is
    c.in-Some.ensures.1 s.1 (sym c.if-not-left_of.false
    ∙ c.left_of.ensures)) c.write_row.ensures c.is_done.ensures
