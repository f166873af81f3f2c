-- `value_fields::send_size` meets its contract: the digits that are left before the point, or a zero.
use mathlib.Core.Path.{◌≡◌, sym}
use native.Mathlib.Omega.{arith}
use borrow.Author.Rules.{rules}
use Prim.Native.Nat.{◌-◌, ◌≤◌}
use lib.Dec.{eqb}
use lib.ListN.{length}
use lib.Seq.{length-take-le}
use Rattle.widths.specs.rule.Width.{tail_of}
use Rattle.sink.specs.Sent.{sent_as, then}
use Rattle.value_fields.specs.Bare.{end_reach}
use Rattle.value_fields.proofs.Bare.{size_some, size_none}
use Rattle.value_fields.proofs.Bare.{amount_room}
use Rattle.value_fields.proofs.send_size.Goals as goal
use Rattle.value_fields.proofs.send_size.Goals.{After-text_end-e}

-- where the point has its place, and where the text ends
place : (c : After-text_end-e) → let a = c.args in
    length a.s.now - c.tail.result ≡ length a.s.now - tail_of a.f
place c = rw c.tail.ensures

low : (c : After-text_end-e) → let a = c.args in
    c.leading-z.result ≤ length a.s.now - c.tail.result
low c =
    let s = c.args.s.now in
    let l = length-take-le (length s - c.tail.result) s (omega arith) in
    omega (arith, c.leading-z.ensures.0, l)

ends : (c : After-text_end-e) → let a = c.args in
    (length a.s.now - c.tail.result ≤ c.text_end-e.result) × (c.text_end-e.result ≤ length a.s.now)
ends c = let a = c.args in
    end_reach (eqb a.f.decimals 0) _ _ _ c.text_end-e.ensures (omega arith)

pub overflow_sub-k : goal.overflow_sub-k
overflow_sub-k c =
    let p = c.requires in
    omega (arith, c.tail.ensures, amount_room c.args.f p.format_facts.0 c.args.s.now p.s_value.0)

pub slice_bounds-leading-end : goal.slice_bounds-leading-end
slice_bounds-leading-end c = sym (length-take-le _ _ (omega arith))

pub returns-then-z-k : goal.returns-then-z-k
returns-then-z-k c =
    let p = c.requires in
    sent_as c.send_bytes.ensures (size_some c.args.f p.format_facts.0 c.args.s.now p.s_value.0 _ _ _
    (place (goal.at.returns-then-z-k c).After-text_end-e) (low (goal.at.returns-then-z-k c).After-text_end-e) c.text_end-e.ensures
    c.leading-z.ensures.1 p.s_value.1
    c.if-z-k.true)

pub returns : goal.returns
returns c =
    let p = c.requires in
    sent_as (then c.send_byte-end.ensures c.send_bytes-2.ensures) (size_none c.args.f p.format_facts.0
    c.args.s.now p.s_value.0 _ _ _ (place (goal.at.returns c).After-text_end-e) (low (goal.at.returns c).After-text_end-e)
    c.text_end-e.ensures c.leading-z.ensures.1
    c.if-z-k.false)

pub slice_bounds-send_bytes-count : goal.slice_bounds-send_bytes-count
slice_bounds-send_bytes-count c = let l = low (goal.at.slice_bounds-send_bytes-count c).After-text_end-e in
    let e = ends (goal.at.slice_bounds-send_bytes-count c).After-text_end-e in omega arith

pub slice_bounds-send_bytes-start : goal.slice_bounds-send_bytes-start
slice_bounds-send_bytes-start c = let l = low (goal.at.slice_bounds-send_bytes-start c).After-text_end-e in
    let e = ends (goal.at.slice_bounds-send_bytes-start c).After-text_end-e in search rules

pub slice_bounds-send_bytes-end : goal.slice_bounds-send_bytes-end
slice_bounds-send_bytes-end c = let l = low (goal.at.slice_bounds-send_bytes-end c).After-text_end-e in
    let e = ends (goal.at.slice_bounds-send_bytes-end c).After-text_end-e in search rules

pub slice_bounds-send_bytes-count-2 : goal.slice_bounds-send_bytes-count-2
slice_bounds-send_bytes-count-2 c = let l = low (goal.at.slice_bounds-send_bytes-count-2 c).After-text_end-e in
    let e = ends (goal.at.slice_bounds-send_bytes-count-2 c).After-text_end-e in omega arith

pub slice_bounds-send_bytes-start-2 : goal.slice_bounds-send_bytes-start-2
slice_bounds-send_bytes-start-2 c = let l = low (goal.at.slice_bounds-send_bytes-start-2 c).After-text_end-e in
    let e = ends (goal.at.slice_bounds-send_bytes-start-2 c).After-text_end-e in search rules

pub slice_bounds-send_bytes-end-2 : goal.slice_bounds-send_bytes-end-2
slice_bounds-send_bytes-end-2 c = let l = low (goal.at.slice_bounds-send_bytes-end-2 c).After-text_end-e in
    let e = ends (goal.at.slice_bounds-send_bytes-end-2 c).After-text_end-e in search rules
