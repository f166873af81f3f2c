use mathlib.Core.Path.{◌≡◌, sym, ap, ◌∙◌}
use native.Mathlib.Omega.{arith}
use Rattle.tags.specs.rule.Tag.{nothing_held}
use Rattle.tags.proofs.Turns.{turns_next, turns_over}
use Rattle.tags.proofs.Usuals.{turn_first, turn_second, turn_end}
use Rattle.tags.proofs.read_tag.Goals as goal

pub overflow_add-at : goal.overflow_add-at
overflow_add-at c = let e = (c.end_at-end.ensures c.if-end-ne0.true).within in omega arith

pub returns-then-end-ne0 : goal.returns-then-end-ne0
returns-then-end-ne0 c =
    let a = c.args in
    let d = a.d.now in
    rw c.hold-h.ensures at c.shut.ensures
    ∙ sym (turns_over a.bad d a.opened a.x.now a.y.now a.z.now a.f a.g a.k a.required (nothing_held a.at) _
    (turn_end a.bad d a.opened a.x.now a.y.now a.z.now a.f a.g a.k a.required (nothing_held a.at) _
    (c.end_at-end.ensures c.if-end-ne0.true)))

pub read_turns-requires : goal.read_turns-requires
read_turns-requires c = let h : c.hold-h-then-ae-eq0.result.next
    ≡ c.args.at = ap (λ (x : _). x.next) c.hold-h-then-ae-eq0.ensures in
    omega arith

pub returns-then-ae-eq0 : goal.returns-then-ae-eq0
returns-then-ae-eq0 c = rw c.hold-h-then-ae-eq0.ensures at c.read_turns.ensures

pub overflow_add-a : goal.overflow_add-a
overflow_add-a c = let v = c.usual_end-ae.ensures c.if-ae-eq0.false in let w = v.within in let i = v.inside in omega arith

pub overflow_add-a-2 : goal.overflow_add-a-2
overflow_add-a-2 c = let v = c.usual_end-ae.ensures c.if-ae-eq0.false in let w = v.within in let i = v.inside in omega arith

pub overflow_add-next : goal.overflow_add-next
overflow_add-next c = let v = c.usual_end-ae.ensures c.if-ae-eq0.false in let w = v.within in let i = v.inside in omega arith

pub end_at-end-requires-2 : goal.end_at-end-requires-2
end_at-end-requires-2 c = let v = c.usual_end-ae.ensures c.if-ae-eq0.false in let w = v.within in omega arith

pub overflow_add-next-then-end-ne0-2 : goal.overflow_add-next-then-end-ne0-2
overflow_add-next-then-end-ne0-2 c = let e = (c.end_at-end-2.ensures c.if-end-ne0-2.true).within in omega arith

pub returns-then-end-ne0-2 : goal.returns-then-end-ne0-2
returns-then-end-ne0-2 c =
    let a = c.args in
    let d = a.d.now in
    let v = (c.usual_end-ae.ensures c.if-ae-eq0.false) in
    rw c.hold-h-then-end-ne0-2.ensures at c.shut-then-end-ne0-2.ensures
    ∙ sym (turns_next a.bad d a.opened a.x.now a.y.now a.z.now a.f a.g a.k a.required (nothing_held a.at) _
    (turn_first a.bad d a.opened a.x.now a.y.now a.z.now a.f a.g a.k a.required a.at _ v)
    ∙ turns_over a.bad d a.opened a.x.now a.y.now a.z.now a.f a.g a.k a.required _ _
    (turn_end a.bad d a.opened a.x.now a.y.now a.z.now a.f a.g a.k a.required _ _
    (c.end_at-end-2.ensures c.if-end-ne0-2.true)))

pub second_end-be-requires : goal.second_end-be-requires
second_end-be-requires c = let v = (c.usual_end-ae.ensures c.if-ae-eq0.false) in let w = v.within in
    omega arith

pub read_turns-requires-then-be-eq0 : goal.read_turns-requires-then-be-eq0
read_turns-requires-then-be-eq0 c =
    let v = (c.usual_end-ae.ensures
    c.if-ae-eq0.false) in
    let w = v.within in
    rw c.hold-h-then-be-eq0.ensures (omega arith)

pub returns-then-be-eq0 : goal.returns-then-be-eq0
returns-then-be-eq0 c =
    let a = c.args in
    let d = a.d.now in
    rw c.hold-h-then-be-eq0.ensures at c.read_turns-then-be-eq0.ensures
    ∙ sym (turns_next a.bad d a.opened a.x.now a.y.now a.z.now a.f a.g a.k a.required (nothing_held a.at) _
    (turn_first a.bad d a.opened a.x.now a.y.now a.z.now a.f a.g a.k a.required a.at _
    (c.usual_end-ae.ensures
    c.if-ae-eq0.false)))

pub overflow_add-b : goal.overflow_add-b
overflow_add-b c = let v = (c.second_end-be.ensures c.if-be-eq0.false).0 in let w = v.within in let i = v.inside in omega arith

pub overflow_add-b-2 : goal.overflow_add-b-2
overflow_add-b-2 c = let v = (c.second_end-be.ensures c.if-be-eq0.false).0 in let w = v.within in let i = v.inside in omega arith

pub overflow_add-last : goal.overflow_add-last
overflow_add-last c = let v = (c.second_end-be.ensures c.if-be-eq0.false).0 in let w = v.within in let i = v.inside in omega arith

pub end_at-end-requires-3 : goal.end_at-end-requires-3
end_at-end-requires-3 c = let v = (c.second_end-be.ensures c.if-be-eq0.false).0 in let w = v.within in omega arith

pub overflow_add-last-then-end-ne0-3 : goal.overflow_add-last-then-end-ne0-3
overflow_add-last-then-end-ne0-3 c =
    let r = c.ranges in
    let g = c.well_formed in
    let e = (c.end_at-end-3.ensures c.if-end-ne0-3.true).within in
    omega (arith, e)

pub returns-then-end-ne0-3 : goal.returns-then-end-ne0-3
returns-then-end-ne0-3 c =
    let a = c.args in
    let d = a.d.now in
    let y = c.second_end-be.ensures c.if-be-eq0.false in
    rw c.hold-h-then-end-ne0-3.ensures at c.shut-then-end-ne0-3.ensures
    ∙ sym (turns_next a.bad d a.opened a.x.now a.y.now a.z.now a.f a.g a.k a.required (nothing_held a.at) _
    (turn_first a.bad d a.opened a.x.now a.y.now a.z.now a.f a.g a.k a.required a.at _
    (c.usual_end-ae.ensures
    c.if-ae-eq0.false))
    ∙ turns_next a.bad d a.opened a.x.now a.y.now a.z.now a.f a.g a.k a.required _ _
    (turn_second a.bad d a.opened a.x.now a.y.now a.z.now a.f a.g a.k a.required _ _ _ _ y.0 y.1)
    ∙ turns_over a.bad d a.opened a.x.now a.y.now a.z.now a.f a.g a.k a.required _ _
    (turn_end a.bad d a.opened a.x.now a.y.now a.z.now a.f a.g a.k a.required _ _
    (c.end_at-end-3.ensures c.if-end-ne0-3.true)))

pub read_turns-requires-2 : goal.read_turns-requires-2
read_turns-requires-2 c =
    let v = (c.second_end-be.ensures c.if-be-eq0.false).0 in
    let w = v.within in
    rw c.hold-h-2.ensures (omega arith)

pub returns : goal.returns
returns c =
    let a = c.args in
    let d = a.d.now in
    let y = c.second_end-be.ensures c.if-be-eq0.false in
    rw c.hold-h-2.ensures at c.read_turns-2.ensures
    ∙ sym (turns_next a.bad d a.opened a.x.now a.y.now a.z.now a.f a.g a.k a.required (nothing_held a.at) _
    (turn_first a.bad d a.opened a.x.now a.y.now a.z.now a.f a.g a.k a.required a.at _
    (c.usual_end-ae.ensures
    c.if-ae-eq0.false))
    ∙ turns_next a.bad d a.opened a.x.now a.y.now a.z.now a.f a.g a.k a.required _ _
    (turn_second a.bad d a.opened a.x.now a.y.now a.z.now a.f a.g a.k a.required _ _ _ _ y.0 y.1))
