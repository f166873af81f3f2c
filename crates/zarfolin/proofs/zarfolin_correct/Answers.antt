-- `zarfolin::zarfolin_correct` meets its contract: what a turn does to the list and the record is said by `corrections` (proofs/Walk.antt).
use Rattle.std.proofs.Common.{◌≡◌, ◌∙◌, ap, ℕ, ◌<◌, ◌≤◌, length, arith}
use Rattle.corrections.specs.Correction.{turns_of}
use Rattle.corrections.proofs.Walk.{State, turns, next, ended, still_ready, turns_most}
use Rattle.zarfolin.proofs.zarfolin_correct.Goals as goal

pub offset_bounds-list-i : goal.offset_bounds-list-i
offset_bounds-list-i c =
    let e : c.turns-n.result ≡ turns c.args.table.now c.args.list.now c.args.bytes.now =
    c.turns-n.ensures ∙ ap (λ (w : ℕ). turns_of w (length c.args.list.now)) c.admit-answer.ensures in
    let m = turns_most c.args.table.now c.args.list.now c.args.bytes.now in
    omega arith

pub slice_copy_out-correct : goal.slice_copy_out-correct
slice_copy_out-correct c =
    let e : c.turns-n.result ≡ turns c.args.table.now c.args.list.now c.args.bytes.now =
    c.turns-n.ensures ∙ ap (λ (w : ℕ). turns_of w (length c.args.list.now)) c.admit-answer.ensures in
    let m = turns_most c.args.table.now c.args.list.now c.args.bytes.now in
    omega arith

pub correct-requires : goal.correct-requires
correct-requires c =
    let e : c.turns-n.result ≡ turns c.args.table.now c.args.list.now c.args.bytes.now =
    c.turns-n.ensures ∙ ap (λ (w : ℕ). turns_of w (length c.args.list.now)) c.admit-answer.ensures in
    let v = c.loop-i.invariant in
    let s : State c.args.table.now c.args.list.now c.args.bytes.now = record {
      i = c.loop-i.i;
      ys = c.loop-i.list;
      zs = c.loop-i.bytes;
      upto = v.upto;
      same = v.same;
      kept = v.kept;
      marks = v.marks;
      bytes = v.bytes;
      still = v.still;
    } in
    let more : c.loop-i.i < turns c.args.table.now c.args.list.now c.args.bytes.now = omega arith in
    still_ready s more

pub offset_bounds-list-i-in-loop-i : goal.offset_bounds-list-i-in-loop-i
offset_bounds-list-i-in-loop-i c =
    let e : c.turns-n.result ≡ turns c.args.table.now c.args.list.now c.args.bytes.now =
    c.turns-n.ensures ∙ ap (λ (w : ℕ). turns_of w (length c.args.list.now)) c.admit-answer.ensures in
    let m = turns_most c.args.table.now c.args.list.now c.args.bytes.now in
    omega arith

pub bounds-list-i : goal.bounds-list-i
bounds-list-i c =
    let e : c.turns-n.result ≡ turns c.args.table.now c.args.list.now c.args.bytes.now =
    c.turns-n.ensures ∙ ap (λ (w : ℕ). turns_of w (length c.args.list.now)) c.admit-answer.ensures in
    let m = turns_most c.args.table.now c.args.list.now c.args.bytes.now in
    omega arith

pub loop-i-preserved : goal.loop-i-preserved
loop-i-preserved c =
    let e : c.turns-n.result ≡ turns c.args.table.now c.args.list.now c.args.bytes.now =
    c.turns-n.ensures ∙ ap (λ (w : ℕ). turns_of w (length c.args.list.now)) c.admit-answer.ensures in
    let v = c.loop-i.invariant in
    let s : State c.args.table.now c.args.list.now c.args.bytes.now = record {
      i = c.loop-i.i;
      ys = c.loop-i.list;
      zs = c.loop-i.bytes;
      upto = v.upto;
      same = v.same;
      kept = v.kept;
      marks = v.marks;
      bytes = v.bytes;
      still = v.still;
    } in
    let m = turns_most c.args.table.now c.args.list.now c.args.bytes.now in
    let more : c.loop-i.i < turns c.args.table.now c.args.list.now c.args.bytes.now = omega arith in
    let l : c.loop-i.i < length c.args.list.now = omega arith in
    let k : length c.correct.new.bytes ≡ length c.loop-i.bytes = c.correct.auto.bytes in
    let y = next s c.correct.result c.correct.new.bytes more l c.correct.ensures k in
    record { upto = y.upto; same = y.same; kept = y.kept; marks = y.marks; bytes = y.bytes; still = y.still }

pub returns : goal.returns
returns c =
    let e : c.turns-n.result ≡ turns c.args.table.now c.args.list.now c.args.bytes.now =
    c.turns-n.ensures ∙ ap (λ (w : ℕ). turns_of w (length c.args.list.now)) c.admit-answer.ensures in
    let v = c.loop-i.invariant in
    let s : State c.args.table.now c.args.list.now c.args.bytes.now = record {
      i = c.loop-i.i;
      ys = c.loop-i.list;
      zs = c.loop-i.bytes;
      upto = v.upto;
      same = v.same;
      kept = v.kept;
      marks = v.marks;
      bytes = v.bytes;
      still = v.still;
    } in
    let over : turns c.args.table.now c.args.list.now c.args.bytes.now ≤ c.loop-i.i = omega arith in
    let x = ended s over in
    record { says = c.admit-answer.ensures; marks = x.0; leaves = x.1 }
