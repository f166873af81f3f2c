-- `sets::read_bits` meets its contract: by what the bytes are, and how the members are told from the rest.
use mathlib.Core.Path.{◌≡◌, sym, ◌∙◌}
use Prim.Native.Nat.{◌-◌, ◌≤◌}
use native.Mathlib.Omega.{arith}
use lib.ListN.{length}
use lib.Seq.{length-take-le}
use Rattle.places.specs.rule.Places.{pick}
use Rattle.fields.specs.rule.Field.{holds, members, set_bits, bits_field}
use Rattle.fields.specs.rule.Row.{categories, bit_places}
use Rattle.sets.specs.Full.{each_legal}
use Rattle.sets.specs.Sets.{BitsRoom}
use Rattle.sets.proofs.AlikeLaws.{spaces_alike, bits_alike}
use Rattle.sets.proofs.SetLaws.{read_missing, read_illegal, bits_missing, bits_members, bits_wrong}
use Rattle.sets.proofs.read_bits.Goals as goal
use Rattle.sets.proofs.read_bits.Goals.{After-marks_worth-n, Else-not-all_are, Start}

-- the row's bytes lie in the record
room : (c : Start) → BitsRoom (c.args.row.start - 1) c.args.row.width (length c.args.bytes.now)
room c = record {
  few = c.requires.bits_facts.few;
  inside = let h = c.requires.bits_facts.inside in
      let g = c.requires.bits_facts.from_one in omega arith;
}

-- all bytes are `0` and `1`
set : (c : Else-not-all_are) → let a = c.args in
    let cs = categories a.t.now a.rows a.row in let s = pick a.bytes.now (bit_places (a.row.start - 1) cs) in
    bits_field cs s ≡ holds (members (set_bits cs s))
set c = bits_members _ _ (spaces_alike _ ∙ sym c.all_are.ensures ∙ c.if-all_are.false)
    (bits_alike _ ∙ sym c.all_are-2.ensures ∙ c.if-not-all_are.false)

few : (c : After-marks_worth-n) → c.marks_worth-n.result
    ≤ length c.args.scratch.now
few c =
    let w = c.requires.bits_facts.few in
    let s = c.requires.scratch_len_bound in
    omega (arith, c.marks_worth-n.ensures)

-- the range has every category, or the lines do
pub read_each-requires : goal.read_each-requires
read_each-requires c =
    let a = c.args in record {
      each_legal = each_legal a.t.now a.rows a.row a.row.width (sym c.range_has.ensures ∙ c.if-range_has.true);
      bits_room = room (goal.at.read_each-requires c).Start;
    }

pub read_each-requires-then-lines_count : goal.read_each-requires-then-lines_count
read_each-requires-then-lines_count c = record {
  each_legal = c.lines_count.ensures c.if-lines_count.true;
  bits_room = room (goal.at.read_each-requires-then-lines_count c).Start;
}

pub returns-then-all_are : goal.returns-then-all_are
returns-then-all_are c = read_missing _ _ (bits_missing _ _ (spaces_alike _ ∙ sym c.all_are.ensures ∙ c.if-all_are.true))

pub returns-then-not-all_are : goal.returns-then-not-all_are
returns-then-not-all_are c =
    read_illegal _ _
    (bits_wrong _ _ (spaces_alike _ ∙ sym c.all_are.ensures ∙ c.if-all_are.false)
    (bits_alike _ ∙ sym c.all_are-2.ensures ∙ c.if-not-all_are.true))

pub marks_worth-n-requires : goal.marks_worth-n-requires
marks_worth-n-requires c = let l = c.requires.bits_facts.lines.few_lines in
    let w = c.requires.bits_facts.few in record {
      lines_bound = omega arith;
      tests_bound = omega arith;
    }

pub mark_and_list-requires : goal.mark_and_list-requires
mark_and_list-requires c =
    let f = few (goal.at.mark_and_list-requires c).After-marks_worth-n in
    let s = c.requires.scratch_len_bound in record {
      line_facts = c.requires.bits_facts.lines;
      marks_len_bound = rw (length-take-le c.marks_worth-n.result c.args.scratch.now f) (omega arith);
      bits_room = room (goal.at.mark_and_list-requires c).Start;
      bytes_value = set (goal.at.mark_and_list-requires c).Else-not-all_are;
    }

pub overflow_sub-at : goal.overflow_sub-at
overflow_sub-at c = let h = c.requires.bits_facts.from_one in omega arith

pub range_has-requires : goal.range_has-requires
range_has-requires c = c.requires.bits_facts.few

pub returns-then-range_has : goal.returns-then-range_has
returns-then-range_has c = c.read_each.ensures

pub lines_count-requires : goal.lines_count-requires
lines_count-requires c = record {
  line_facts = c.requires.bits_facts.lines;
  w_bound = c.requires.bits_facts.few;
}

pub returns-then-lines_count : goal.returns-then-lines_count
returns-then-lines_count c = c.read_each-then-lines_count.ensures

pub all_are-requires : goal.all_are-requires
all_are-requires c = record {
  line_facts = c.requires.bits_facts.lines;
  bits_room = room (goal.at.all_are-requires c).Start;
}

pub all_are-requires-2 : goal.all_are-requires-2
all_are-requires-2 c = record {
  line_facts = c.requires.bits_facts.lines;
  bits_room = room (goal.at.all_are-requires-2 c).Start;
}

pub overflow_add-w : goal.overflow_add-w
overflow_add-w c = let h = c.requires.bits_facts.few in omega arith

pub slice_bounds-mark_and_list-end : goal.slice_bounds-mark_and_list-end
slice_bounds-mark_and_list-end c = few c

pub slice_bounds-mark_and_list-end-2 : goal.slice_bounds-mark_and_list-end-2
slice_bounds-mark_and_list-end-2 c = sym (length-take-le _ _ (few (goal.at.slice_bounds-mark_and_list-end-2 c).After-marks_worth-n))

pub returns : goal.returns
returns c = c.mark_and_list.ensures
