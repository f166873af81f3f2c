use mathlib.Core.Path.{◌≡◌, sym, ap, ◌∙◌}
use Prim.Native.Nat.{suc, ◌+◌, ◌-◌, ◌*◌, ◌≤◌}
use native.Mathlib.Omega.{arith}
use lib.ListN.{length}
use Rattle.fields.specs.rule.Legal.{legal}
use Rattle.fields.specs.rule.Number.{code_of}
use Rattle.fields.specs.rule.Row.{spread_places}
use Rattle.sets.proofs.SpreadLaws.{room_here, room_more}
use Rattle.places.specs.rule.Places.{pick, run}
use Rattle.faults.specs.declared.Fault.{Fault}
use Rattle.faults.specs.rule.Fault.{or_else, spread_value, value_fault, usable}
use Rattle.faults.proofs.Laws.{value_step, value_end, lent}
use Rattle.faults.specs.Joined.{else_fault, else_sound, numeral_fault}
use Rattle.faults.proofs.spread_value.Goals as goal
use Rattle.faults.proofs.spread_value.Goals.{After-numeral_fault-x, In-loop}

-- the first of the subfields that are left
one : (c : In-loop) → c.args.n - c.loop.counter ≡ suc (c.args.n - (c.loop.counter + 1))
one c = omega arith

here : (c : In-loop) → c.loop.q + (c.args.b - c.args.w) + c.args.w
    ≤ length c.args.bytes.now
here c = room_here c.args.bytes.now _ _ _ _ _ (one c) c.requires.spread_room.holds
    c.loop.invariant.0

more : (c : In-loop) → c.loop.q + c.args.b + (c.args.n - (c.loop.counter + 1)) * c.args.b
    ≤ length c.args.bytes.now
more c = room_more c.args.bytes.now _ _ c.args.w _ _ (one c)
    c.requires.spread_room.holds c.loop.invariant.0

-- what its bytes say
said : (c : After-numeral_fault-x)
    → let args = c.args in
    c.numeral_fault-x.result ≡ value_fault (usable (legal args.t.now args.rows args.row))
    (code_of (pick args.bytes.now (run (c.loop.q + (args.b - args.w)) args.w)))
unfolding numeral_fault
said c =
    let args = c.args in
    c.numeral_fault-x.ensures ∙ ap (value_fault (usable (legal args.t.now args.rows args.row)))
    (c.code.ensures ∙ ap code_of (lent args.bytes.now _ _ (here (goal.at.After-numeral_fault-x c).In-loop)))

-- its fault, or the rest's
step : (c : After-numeral_fault-x)
    → let args = c.args in
    or_else c.numeral_fault-x.result (spread_value (legal args.t.now args.rows args.row) args.w args.bytes.now
    (c.args.n - (c.loop.counter + 1))
    (spread_places (c.loop.q + args.b) args.b args.w
    (c.args.n - (c.loop.counter + 1))))
    ≡ spread_value (legal args.t.now args.rows args.row) args.w args.bytes.now args.n
    (spread_places args.at args.b args.w args.n)
step c =
    let args = c.args in
    ap (λ (x : Fault). or_else x (spread_value (legal args.t.now args.rows args.row) args.w args.bytes.now
    (c.args.n - (c.loop.counter + 1)) (spread_places (c.loop.q + args.b) args.b args.w (c.args.n - (c.loop.counter + 1))))) (said c)
    ∙ sym (value_step args.bytes.now c.loop.q args.b args.w
    (c.args.n - c.loop.counter) (c.args.n - (c.loop.counter + 1)) (one (goal.at.After-numeral_fault-x c).In-loop)
    (legal args.t.now args.rows args.row))
    ∙ c.loop.invariant.1

pub returns-then-is_fault : goal.returns-then-is_fault
returns-then-is_fault c = sym (else_fault _ _ (sym c.is_fault.ensures ∙ c.if-is_fault.true))
    ∙ step (goal.at.returns-then-is_fault c).After-numeral_fault-x

pub loop-preserved : goal.loop-preserved
loop-preserved c = (
  more (goal.at.loop-preserved c).In-loop,
  sym (else_sound _ _ (sym c.is_fault.ensures ∙ c.if-is_fault.false)) ∙ step (goal.at.loop-preserved c).After-numeral_fault-x,
)

pub returns : goal.returns
returns c = sym (value_end c.args.bytes.now c.loop.q c.args.b
    c.args.w (c.args.n - c.loop.counter) (omega arith)
    (legal c.args.t.now c.args.rows c.args.row))
    ∙ c.loop.invariant.1
