-- `sets::read_spread` meets its contract: spaces, or what the subfields give with room for marks.
use mathlib.Core.Path.{sym, ◌∙◌}
use Prim.Native.Nat.{◌-◌, ◌≤◌}
use native.Mathlib.Omega.{arith}
use lib.ListN.{length}
use lib.Seq.{length-take-le}
use Rattle.sets.specs.Sets.{SpreadRoom}
use Rattle.sets.proofs.SetLaws.{read_missing, spread_missing}
use Rattle.sets.proofs.read_spread.Goals as goal
use Rattle.sets.proofs.read_spread.Goals.{After-marks_worth-k, After-reach-top, Start}

-- the subfields lie in the record
room : (c : Start) → SpreadRoom (c.args.row.start - 1) c.args.b c.args.row.width c.args.n (length c.args.bytes.now)
room c = record {
  few = c.requires.fields_facts.few;
  holds = c.requires.fields_facts.holds;
  inside = let h = c.requires.fields_facts.inside in let g = c.requires.fields_facts.from_one in
      omega arith;
}

-- the marks of all numbers of w digits have room
reaches : (c : After-reach-top) → c.reach-top.result ≤ length c.args.present.now
reaches c = rw c.reach-top.ensures c.requires.width_in_bounds

worth : (c : After-marks_worth-k) → c.marks_worth-k.result
    ≤ length c.args.scratch.now
worth c = omega (arith, c.marks_worth-k.ensures)

pub returns-then-spread_blank : goal.returns-then-spread_blank
returns-then-spread_blank c = read_missing _ _ (spread_missing _ _ _ _ (sym c.spread_blank.ensures ∙ c.if-spread_blank.true))

pub marks_worth-k-requires : goal.marks_worth-k-requires
marks_worth-k-requires c =
    let l = c.requires.fields_facts.lines.few_lines in
    let f = c.requires.fields_facts.fields in record {
      lines_bound = omega arith;
      tests_bound = omega arith;
    }

pub gather_and_list-requires : goal.gather_and_list-requires
gather_and_list-requires c =
    let p = c.requires in
    let few = worth (goal.at.gather_and_list-requires c).After-marks_worth-k in record {
      line_facts = p.fields_facts.lines;
      marks_len_bound = rw (length-take-le c.marks_worth-k.result c.args.scratch.now few) (omega (arith, p.scratch_len_bound));
      spread_room = room (goal.at.gather_and_list-requires c).Start;
      present_len = (
        length-take-le c.reach-top.result c.args.present.now (reaches (goal.at.gather_and_list-requires c).After-reach-top)
            ∙ c.reach-top.ensures,
        p.fields_facts.fields,
      );
      n_value = sym c.spread_blank.ensures ∙ c.if-spread_blank.false;
    }

pub overflow_sub-at : goal.overflow_sub-at
overflow_sub-at c = let h = c.requires.fields_facts.from_one in omega arith

pub spread_blank-requires : goal.spread_blank-requires
spread_blank-requires c = room (goal.at.spread_blank-requires c).Start

pub reach-top-requires : goal.reach-top-requires
reach-top-requires c = c.requires.fields_facts.few

pub slice_bounds-gather_and_list-end : goal.slice_bounds-gather_and_list-end
slice_bounds-gather_and_list-end c = worth c

pub slice_bounds-gather_and_list-end-2 : goal.slice_bounds-gather_and_list-end-2
slice_bounds-gather_and_list-end-2 c = sym (length-take-le _ _ (worth (goal.at.slice_bounds-gather_and_list-end-2 c).After-marks_worth-k))

pub slice_bounds-gather_and_list-end-3 : goal.slice_bounds-gather_and_list-end-3
slice_bounds-gather_and_list-end-3 c = reaches (goal.at.slice_bounds-gather_and_list-end-3 c).After-reach-top

pub slice_bounds-gather_and_list-end-4 : goal.slice_bounds-gather_and_list-end-4
slice_bounds-gather_and_list-end-4 c = sym (length-take-le _ _ (reaches (goal.at.slice_bounds-gather_and_list-end-4 c).After-reach-top))

pub returns : goal.returns
returns c = c.gather_and_list.ensures
