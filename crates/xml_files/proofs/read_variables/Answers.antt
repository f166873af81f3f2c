use mathlib.Core.Path.{refl, sym, ◌∙◌}
use native.Mathlib.Omega.{arith}
use Rattle.survey.specs.rule.Table.{lines_all, highest_in}
use Rattle.laying.proofs.Zeros.{zeros_long}
use Rattle.prefaces.specs.Code.{rule_of}
use Rattle.filters.proofs.Summing.{room_empty}
use Rattle.sheets.specs.Code.{tally_of}
use Rattle.xml_files.proofs.Rans.{ran_none, ran_sofar, Onward, ran_more, run_over, laid_over, run_not, laid_not, noted}
use Rattle.xml_files.proofs.read_variables.Goals as goal
use Rattle.xml_files.proofs.read_variables.Goals.{In-More}

onward : (c : In-More)
    → Onward c.args.bad c.args.d.now (rule_of c.args.m) c.requires.d_len_bound.0 c.args.from
    c.loop-ident.at c.loop-ident.y c.loop-ident.seen c.loop-ident.rows c.loop-ident.lines c.loop-ident.invariant.0
    c.loop-ident.invariant.1 c.loop-ident.invariant.2 c.in-More.ident c.in-More.tally c.in-More.next
    c.one_variable.new.rows c.one_variable.new.lines
onward c =
    ran_more c.args.bad c.args.d.now (rule_of c.args.m) c.requires.d_len_bound.0 c.args.from
    c.loop-ident.at c.loop-ident.y c.loop-ident.seen c.loop-ident.rows c.loop-ident.lines c.loop-ident.invariant.0
    c.loop-ident.invariant.1 c.loop-ident.invariant.2 _ _ _ c.one_variable.ensures _ _ _ c.in-More.is

pub loop-ident-init : goal.loop-ident-init
unfolding tally_of lines_all highest_in
loop-ident-init c =
    let p = c.requires in (
      ran_none _ _ _ _ _ _ _ _ p.seen_value (zeros_long _ p.seen_value) refl p.d_len_bound.1,
      p.rows_len.0,
      p.rows_len.1,
      p.rows_len.2,
      room_empty _ _ _ _ refl,
    )

pub one_variable-requires : goal.one_variable-requires
one_variable-requires c =
    let p = c.requires in
    let i = c.loop-ident.invariant in record {
      tens = p.tens;
      d_len_bound = (p.d_len_bound.0, i.0.next);
      lines_len = (i.2, i.3);
      knowing = record { sofar = ran_sofar _ _ _ p.d_len_bound.0 _ _ _ _ _ _ i.0 i.1 i.2; summing = i.4 };
    }

pub note_row-requires : goal.note_row-requires
note_row-requires c =
    let i = c.loop-ident.invariant in
    let k = c.one_variable.auto in
    let n = noted c.args.bad c.args.d.now (rule_of c.args.m) c.requires.d_len_bound.0 c.args.from
    c.loop-ident.at c.loop-ident.y c.loop-ident.seen c.loop-ident.rows c.loop-ident.lines i.0 i.1 i.2 _ _ _
    c.one_variable.ensures _ _ _ c.in-More.is c.args.m.latin c.loop-ident.sums
    (k.rows ∙ i.1) (k.lines ∙ i.2) i.4 in
    record { lying = n.0; summing = n.1 }

pub bounds-seen-ident : goal.bounds-seen-ident
bounds-seen-ident c = omega (
  arith,
  (onward (goal.at.bounds-seen-ident c).In-More).small,
  c.loop-ident.invariant.0.seen_long,
)

pub loop-ident-smaller : goal.loop-ident-smaller
loop-ident-smaller c = let o = onward (goal.at.loop-ident-smaller c).In-More in omega (arith, o.further, o.left)

pub loop-ident-preserved : goal.loop-ident-preserved
loop-ident-preserved c =
    let i = c.loop-ident.invariant in
    let k = c.one_variable.auto in
    let o = onward (goal.at.loop-ident-preserved c).In-More in (
      o.ran,
      k.rows ∙ i.1,
      k.lines ∙ i.2,
      k.marks ∙ i.3,
      rw o.further c.note_row.ensures,
    )

pub slice_bounds-one_variable-end : goal.slice_bounds-one_variable-end
slice_bounds-one_variable-end c = sym c.loop-ident.invariant.4.room

pub shape_of-seen-in-Over : goal.shape_of-seen-in-Over
shape_of-seen-in-Over c =
    c.loop-ident.invariant.0.seen_long ∙ sym (zeros_long _ c.requires.seen_value)

pub returns-in-Over : goal.returns-in-Over
returns-in-Over c = record {
  value = run_over c.args.bad c.args.d.now (rule_of c.args.m) c.requires.d_len_bound.0 c.args.from
      c.loop-ident.at
      c.loop-ident.y c.loop-ident.seen c.loop-ident.rows c.loop-ident.lines c.loop-ident.invariant.0
      c.loop-ident.invariant.1
      c.loop-ident.invariant.2 _ _ _ c.one_variable.ensures _ c.in-Over.is;
  laid = laid_over c.args.bad c.args.d.now (rule_of c.args.m) c.requires.d_len_bound.0 c.args.from
      c.loop-ident.at
      c.loop-ident.y c.loop-ident.seen c.loop-ident.rows c.loop-ident.lines c.loop-ident.invariant.0
      c.loop-ident.invariant.1
      c.loop-ident.invariant.2 _ _ _ c.one_variable.ensures _ c.in-Over.is;
}

pub shape_of-seen-in-Not : goal.shape_of-seen-in-Not
shape_of-seen-in-Not c =
    c.loop-ident.invariant.0.seen_long ∙ sym (zeros_long _ c.requires.seen_value)

pub returns-in-Not : goal.returns-in-Not
returns-in-Not c = record {
  value = run_not c.args.bad c.args.d.now (rule_of c.args.m) c.requires.d_len_bound.0 c.args.from
      c.loop-ident.at
      c.loop-ident.y c.loop-ident.seen c.loop-ident.rows c.loop-ident.lines c.loop-ident.invariant.0
      c.loop-ident.invariant.1
      c.loop-ident.invariant.2 _ _ _ c.one_variable.ensures _ c.in-Not.is;
  laid = laid_not c.args.bad c.args.d.now (rule_of c.args.m) c.requires.d_len_bound.0 c.args.from
      c.loop-ident.at
      c.loop-ident.y c.loop-ident.seen c.loop-ident.rows c.loop-ident.lines c.loop-ident.invariant.0
      c.loop-ident.invariant.1
      c.loop-ident.invariant.2 _ _ _ c.one_variable.ensures _ c.in-Not.is;
}
