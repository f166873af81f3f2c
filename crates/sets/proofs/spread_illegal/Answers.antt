-- `sets::spread_illegal` meets its contract: the room for the marks, and the judgement with them.
use mathlib.Core.Path.{sym}
use Prim.Native.Nat.{◌-◌, ◌≤◌}
use native.Mathlib.Omega.{arith}
use lib.ListN.{length}
use Rattle.sets.specs.Sets.{SpreadRoom}
use lib.Seq.{length-take-le}
use Rattle.sets.proofs.spread_illegal.Goals as goal
use Rattle.sets.proofs.spread_illegal.Goals.{After-marks_for-k, Start}

-- the subfields lie in the record
room : (c : Start) → SpreadRoom (c.args.row.start - 1) c.args.b c.args.row.width c.args.n (length c.args.bytes.now)
room c = record {
  few = c.requires.fields_facts.few;
  holds = c.requires.fields_facts.holds;
  inside = let h = c.requires.fields_facts.inside in let g = c.requires.fields_facts.from_one in
      omega arith;
}

few : (c : After-marks_for-k) → c.marks_for-k.result ≤ length c.args.scratch.now
few c = c.marks_for-k.ensures

pub slice_bounds-judge-end-2 : goal.slice_bounds-judge-end-2
slice_bounds-judge-end-2 c = sym (length-take-le _ _ (few (goal.at.slice_bounds-judge-end-2 c).After-marks_for-k))

pub judge-requires : goal.judge-requires
judge-requires c =
    let f = few (goal.at.judge-requires c).After-marks_for-k in let s = c.requires.scratch_len_bound in record {
      line_facts = c.requires.fields_facts.lines;
      marks_len_bound = rw (length-take-le c.marks_for-k.result c.args.scratch.now f) (omega arith);
      spread_room = room (goal.at.judge-requires c).Start;
    }

pub overflow_sub-at : goal.overflow_sub-at
overflow_sub-at c = let h = c.requires.fields_facts.from_one in omega arith

pub marks_for-k-requires : goal.marks_for-k-requires
marks_for-k-requires c = let p = c.requires.fields_facts in (let l = p.lines.few_lines in omega arith, p.few, p.fields)

pub slice_bounds-judge-end : goal.slice_bounds-judge-end
slice_bounds-judge-end c = few c

pub returns : goal.returns
returns c = c.judge.ensures
