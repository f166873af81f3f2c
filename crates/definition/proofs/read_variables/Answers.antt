use mathlib.Core.Path.{refl, sym, ◌∙◌}
use native.Mathlib.Omega.{arith}
use Rattle.measures.specs.Survey.{lines_all, highest_in}
use Rattle.definition.specs.Code.{tally_of}
use Rattle.laying.proofs.Zeros.{zeros_long}
use Rattle.values.specs.Room.{holds}
use Rattle.values.proofs.Rooms.{unless_on, unless_told}
use Rattle.definition.proofs.Rans.{none, lacking_kept, ran_none, ran_few, lines_fit, Onward, ran_more, run_over, laid_over}
use Rattle.definition.proofs.Rans.{run_not, laid_not}
use Rattle.definition.proofs.read_variables.Goals as goal
use Rattle.definition.proofs.read_variables.Goals.{In-More}

onward : (c : In-More)
    → Onward c.args.d.now c.args.t c.args.rows.now c.args.lines.now c.loop-ident.at c.loop-ident.y
    c.loop-ident.seen c.loop-ident.rows c.loop-ident.lines c.loop-ident.invariant.0 c.requires.d_len_bound
    c.loop-ident.invariant.1 c.loop-ident.invariant.2 c.in-More.ident c.in-More.tally
    c.in-More.next c.one_variable.new.rows
    c.one_variable.new.lines
onward c =
    let e = unless_told c.one_variable.ensures (λ s. let q = sym s ∙ c.in-More.is in none cc) in
    ran_more c.args.d.now c.args.t c.args.rows.now c.args.lines.now c.loop-ident.at
    c.loop-ident.y c.loop-ident.seen c.loop-ident.rows c.loop-ident.lines c.loop-ident.invariant.0 c.requires.d_len_bound
    c.loop-ident.invariant.1 c.loop-ident.invariant.2 _ _ _ e.0 e.1 e.2 _ _ _ c.in-More.is

pub loop-ident-init : goal.loop-ident-init
unfolding tally_of lines_all highest_in
loop-ident-init c =
    let p = c.requires in
    (ran_none _ _ _ _ _ _ p.seen_value (zeros_long _ p.seen_value) refl, refl, refl, p.marks_len)

pub one_variable-requires : goal.one_variable-requires
one_variable-requires c =
    let p = c.requires in
    let i = c.loop-ident.invariant in record {
      classes = p.classes;
      tens = p.tens;
      d_len_bound = p.d_len_bound;
      rows_le_most_rows = ran_few c.args.d.now c.args.t c.args.rows.now c.args.lines.now
          c.loop-ident.at c.loop-ident.y c.loop-ident.seen c.loop-ident.rows
          c.loop-ident.lines c.loop-ident.invariant.0 c.requires.d_len_bound c.loop-ident.invariant.1
          c.loop-ident.invariant.2;
      lines_in_bounds = (
        lines_fit c.args.d.now c.args.t c.args.rows.now c.args.lines.now
            c.loop-ident.at c.loop-ident.y c.loop-ident.seen c.loop-ident.rows
            c.loop-ident.lines c.loop-ident.invariant.0 c.requires.d_len_bound c.loop-ident.invariant.1
            c.loop-ident.invariant.2,
        i.3,
      );
      seen_len = i.0.seen_long;
    }

pub bounds-seen-ident : goal.bounds-seen-ident
bounds-seen-ident c = omega (
  arith,
  (onward c).small,
  c.loop-ident.invariant.0.seen_long,
)

pub loop-ident-smaller : goal.loop-ident-smaller
loop-ident-smaller c = omega (arith, (onward c).further, (onward c).left)

pub loop-ident-preserved : goal.loop-ident-preserved
loop-ident-preserved c =
    let i = c.loop-ident.invariant in
    let k = c.one_variable.auto in
    ((onward c).ran, k.rows ∙ i.1, k.lines ∙ i.2, k.marks ∙ i.3)

pub shape_of-seen-in-Over : goal.shape_of-seen-in-Over
shape_of-seen-in-Over c =
    c.loop-ident.invariant.0.seen_long ∙ sym (zeros_long _ c.requires.seen_value)

pub returns-in-Over : goal.returns-in-Over
returns-in-Over c =
    let g = c.in-Over.is in
    let e = unless_told c.one_variable.ensures (λ s. let q = sym s ∙ g in none cc) in
    holds (
      run_over c.args.d.now c.args.t c.args.rows.now c.args.lines.now c.loop-ident.at
          c.loop-ident.y c.loop-ident.seen c.loop-ident.rows c.loop-ident.lines c.loop-ident.invariant.0
          c.requires.d_len_bound c.loop-ident.invariant.1 c.loop-ident.invariant.2 _ _ _ e.0 e.1 e.2 _ _ g,
      laid_over c.args.d.now c.args.t c.args.rows.now c.args.lines.now c.loop-ident.at
          c.loop-ident.y c.loop-ident.seen c.loop-ident.rows c.loop-ident.lines c.loop-ident.invariant.0
          c.requires.d_len_bound c.loop-ident.invariant.1 c.loop-ident.invariant.2 _ _ _ e.0 e.1 e.2 _ _ g,
    )

pub shape_of-seen-in-Not : goal.shape_of-seen-in-Not
shape_of-seen-in-Not c =
    c.loop-ident.invariant.0.seen_long ∙ sym (zeros_long _ c.requires.seen_value)

pub returns-in-Not : goal.returns-in-Not
returns-in-Not c =
    let g = c.in-Not.is in
    unless_on (λ s. let q = sym g ∙ s in cc) (lacking_kept c.loop-ident.invariant.1 c.loop-ident.invariant.2)
    (λ e. (
      run_not c.args.d.now c.args.t c.args.rows.now c.args.lines.now c.loop-ident.at
          c.loop-ident.y c.loop-ident.seen c.loop-ident.rows c.loop-ident.lines c.loop-ident.invariant.0
          c.requires.d_len_bound c.loop-ident.invariant.1 c.loop-ident.invariant.2 _ _ _ e.0 e.1 e.2 _ g,
      laid_not c.args.d.now c.args.t c.args.rows.now c.args.lines.now c.loop-ident.at
          c.loop-ident.y c.loop-ident.seen c.loop-ident.rows c.loop-ident.lines c.loop-ident.invariant.0
          c.requires.d_len_bound c.loop-ident.invariant.1 c.loop-ident.invariant.2 _ _ _ e.0 e.1 e.2 _ g,
    ))
    c.one_variable.ensures
