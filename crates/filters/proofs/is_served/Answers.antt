use mathlib.Core.Path.{sym, ◌∙◌}
use native.Mathlib.Omega.{arith}
use Rattle.filters.proofs.Asked.{above, none_served, some_served}
use Rattle.filters.proofs.is_served.Goals as goal

pub column-f-requires : goal.column-f-requires
column-f-requires c = let y = c.requires.known.lying in let h = c.requires.i_lt_count.0 in
    let f = y.few in (y.room, omega arith, omega arith)

pub returns-then-f-eq0 : goal.returns-then-f-eq0
returns-then-f-eq0 c = none_served _ _ (sym c.column-f.ensures ∙ c.if-f-eq0.true)

pub overflow_sub-f : goal.overflow_sub-f
overflow_sub-f c = let h = above c.column-f.result c.if-f-eq0.false in omega arith

pub is_name-requires : goal.is_name-requires
is_name-requires c =
    let h = above c.column-f.result c.if-f-eq0.false in
    let b = c.requires.known.lying.filters c.args.i
    c.requires.i_lt_count.0 in
    let e = c.column-f.ensures in record {
      known = c.requires.known;
      i_lt_count = (
        omega arith,
        c.requires.i_lt_count.1,
        c.requires.i_lt_count.2,
      );
    }

pub returns : goal.returns
returns c = c.is_name.ensures ∙ rw c.column-f.ensures
    (some_served _ _ (λ z. c.if-f-eq0.false (c.column-f.ensures ∙ z)))
