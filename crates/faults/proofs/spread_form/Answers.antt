use mathlib.Core.Path.{◌≡◌, sym, ap, ◌∙◌}
use Prim.Native.Nat.{suc, ◌+◌, ◌-◌, ◌*◌, ◌≤◌}
use native.Mathlib.Omega.{arith}
use lib.ListN.{length}
use Rattle.fields.specs.rule.Row.{spread_places}
use Rattle.sets.proofs.SpreadLaws.{room_here, room_more}
use Rattle.faults.specs.declared.Fault.{Fault}
use Rattle.faults.specs.rule.Fault.{or_else, spread_form}
use Rattle.faults.proofs.Laws.{form_step, form_end}
use Rattle.faults.specs.Joined.{else_fault, else_sound}
use Rattle.faults.proofs.spread_form.Goals as goal
use Rattle.faults.proofs.spread_form.Goals.{After-number_form-x, In-loop}

-- the first of the subfields that are left
one : (c : In-loop) → c.args.n - c.loop.counter ≡ suc (c.args.n - (c.loop.counter + 1))
one c = omega arith

here : (c : In-loop) → c.loop.q + (c.args.b - c.args.w) + c.args.w
    ≤ length c.args.bytes.now
here c = room_here c.args.bytes.now _ _ _ _ _ (one c) c.requires.holds
    c.loop.invariant.0

more : (c : In-loop) → c.loop.q + c.args.b + (c.args.n - (c.loop.counter + 1)) * c.args.b
    ≤ length c.args.bytes.now
more c = room_more c.args.bytes.now _ _ c.args.w _ _ (one c)
    c.requires.holds c.loop.invariant.0

-- its fault, or the rest's
step : (c : After-number_form-x)
    → or_else c.number_form-x.result (spread_form c.args.w
    c.args.bytes.now (c.args.n - (c.loop.counter + 1))
    (spread_places (c.loop.q + c.args.b) c.args.b
    c.args.w (c.args.n - (c.loop.counter + 1))))
    ≡ spread_form c.args.w c.args.bytes.now
    c.args.n (spread_places c.args.at
    c.args.b c.args.w c.args.n)
step c =
    ap (λ (x : Fault). or_else x (spread_form c.args.w
    c.args.bytes.now (c.args.n - (c.loop.counter + 1))
    (spread_places (c.loop.q + c.args.b) c.args.b
    c.args.w (c.args.n - (c.loop.counter + 1))))) c.number_form-x.ensures
    ∙ sym (form_step c.args.bytes.now c.loop.q
    c.args.b c.args.w (c.args.n - c.loop.counter)
    (c.args.n - (c.loop.counter + 1)) (one (goal.at.After-number_form-x c).In-loop))
    ∙ c.loop.invariant.1

pub returns-then-is_fault : goal.returns-then-is_fault
returns-then-is_fault c = sym (else_fault _ _ (sym c.is_fault.ensures ∙ c.if-is_fault.true))
    ∙ step (goal.at.returns-then-is_fault c).After-number_form-x

pub loop-preserved : goal.loop-preserved
loop-preserved c = (
  more (goal.at.loop-preserved c).In-loop,
  sym (else_sound _ _ (sym c.is_fault.ensures ∙ c.if-is_fault.false)) ∙ step (goal.at.loop-preserved c).After-number_form-x,
)

pub returns : goal.returns
returns c = sym (form_end c.args.bytes.now c.loop.q c.args.b
    c.args.w (c.args.n - c.loop.counter) (omega arith)) ∙ c.loop.invariant.1
