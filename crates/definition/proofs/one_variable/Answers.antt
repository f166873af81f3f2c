use mathlib.Core.Path.{refl, sym, ◌∙◌}
use Prim.Native.Nat.{◌<◌}
use native.Mathlib.Omega.{arith}
use Rattle.values.specs.Room.{holds, small}
use Rattle.values.proofs.Rooms.{unless_on, unless_told}
use Rattle.variables.specs.Ident.{marked}
use Rattle.entries.specs.Entry.{entry_of}
use Rattle.definition.specs.Code.{in_rows, in_lines}
use Rattle.definition.proofs.Rans.{none}
use Rattle.definition.proofs.Turns.{Told, told, small_here, left_here, turn_here, row_here, turn_not, row_not}
use Rattle.definition.proofs.one_variable.Goals as goal
use Rattle.definition.proofs.one_variable.Goals.{In-Is}

-- the variable behind its columns
told_here : (c : In-Is)
    → let args = c.args in
    Told (entry_of args.d.now args.at (marked args.seen.now) args.y.rows args.y.lines) args.y.lines
    c.in-Is.columns c.in-Is.last c.in-Is.next
told_here c =
    let g = c.in-Is.is in
    let e = unless_told c.variable_on.ensures (λ s. let q = sym s ∙ g in none cc) in
    told _ _ _ _ _ _ e.0 g

left : (c : In-Is)
    → c.args.y.rows < 512
left c =
    let p = c.requires in
    left_here _ _ _ c.args.y p.d_len_bound p.rows_le_most_rows.1 _ _ _ (told_here c)

pub variable_on-requires : goal.variable_on-requires
variable_on-requires c =
    let p = c.requires in record {
      classes = p.classes;
      tens = p.tens;
      d_len_bound = p.d_len_bound;
      before_in_bounds = (p.lines_in_bounds.0, p.rows_le_most_rows.1, p.lines_in_bounds.1);
      seen_len = p.seen_len;
    }

-- no room for its row
pub returns-then-rows-count : goal.returns-then-rows-count
returns-then-rows-count c = small refl (in_rows (omega (arith, c.if-rows-count.true, left (goal.at.returns-then-rows-count c).In-Is)))

pub put_row-requires : goal.put_row-requires
put_row-requires c =
    let p = c.requires in (
      small_here _ _ _ c.args.y p.d_len_bound p.rows_le_most_rows.1 _ _ _ (told_here (goal.at.put_row-requires c).In-Is),
      omega (arith, c.if-rows-count.false),
    )

pub tally_with-more-requires : goal.tally_with-more-requires
tally_with-more-requires c = left (goal.at.tally_with-more-requires c).In-Is

pub returns-else-rows-count : goal.returns-else-rows-count
returns-else-rows-count c =
    let p = c.requires in
    let k = told_here (goal.at.returns-else-rows-count c).In-Is in
    let g = c.in-Is.is in
    let e = unless_told c.variable_on.ensures (λ s. let q = sym s ∙ g in none cc) in
    holds (
      turn_here _ _ _ c.args.y p.d_len_bound p.rows_le_most_rows.1 _ _ _ k _ _ c.tally_with-more.ensures c.follow.ensures,
      row_here _ _ _ c.args.y p.d_len_bound p.rows_le_most_rows.1 _ _ _ k _ _ c.put_row.ensures,
      e.1,
    )

pub returns-in-Not : goal.returns-in-Not
returns-in-Not c =
    let f = c.in-Not.is in
    unless_on (λ s. let q = sym f ∙ s in cc) (λ l. in_lines l)
    (λ e. (turn_not _ _ _ _ _ _ e.0 f, row_not _ _ _ _ _ _ _ e.0 f, e.1))
    c.variable_on.ensures

pub overflow_mul-count : goal.overflow_mul-count
overflow_mul-count c = omega (arith, left c)

pub overflow_add-count : goal.overflow_add-count
overflow_add-count c = omega (arith, left c)

pub overflow_mul-count-in-Is : goal.overflow_mul-count-in-Is
overflow_mul-count-in-Is c = omega (arith, left (goal.at.overflow_mul-count-in-Is c).In-Is)
