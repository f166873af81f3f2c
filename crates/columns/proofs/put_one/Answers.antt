-- `columns::put_one` meets its contract: the entry of the number that it counts as, if it is one of them.
-- Assumes nothing.
use mathlib.Core.Path.{◌≡◌, ap, ◌∙◌}
use Prim.Native.Nat.{◌-◌}
use native.Mathlib.Omega.{arith}
use mir.Facts.{to_z-of_z}
use Rattle.cells.specs.rule.Cell.{count_of}
use mathlib.Core.Bool.{true}
use Rattle.columns.specs.Marked.{marked_entry, marked_good}
use Rattle.columns.specs.Ones.{one_here, one_out}
use mir.Syntax.{w64}
use Rattle.columns.proofs.put_one.Goals as goal
use Rattle.columns.proofs.put_one.Goals.{After-count_of-c}

-- what the number counts as
count : (c : After-count_of-c) → c.count_of-c.result ≡ count_of c.args.z
count c = c.count_of-c.ensures ∙ ap count_of (to_z-of_z {w = w64} c.ranges.z)

pub returns-then-c-eq0 : goal.returns-then-c-eq0
returns-then-c-eq0 c =
    one_out c.args.flags c.args.values (c.args.past - 1) c.args.z (omega (arith, c.requires.0)) _
    (λ y a b q. omega (arith, q, a, count (goal.at.returns-then-c-eq0 c).After-count_of-c, c.if-c-eq0.true))

pub returns-then-past-c : goal.returns-then-past-c
returns-then-past-c c =
    one_out c.args.flags c.args.values (c.args.past - 1) c.args.z (omega (arith, c.requires.0)) _
    (λ y a b q. omega (arith, q, a, b, count (goal.at.returns-then-past-c c).After-count_of-c, c.if-past-c.true))

pub put_entry-requires : goal.put_entry-requires
unfolding marked_entry
put_entry-requires c =
    let p = c.requires.1 in record {
      entry_good = marked_good true 1;
      flags_lt_values = (
        omega (arith, p.behind, c.if-c-eq0.false, c.if-past-c.false),
        omega (arith, p.inside, c.if-c-eq0.false, c.if-past-c.false),
      );
    }

pub returns : goal.returns
returns c =
    rw (c.put_entry.ensures, count (goal.at.returns c).After-count_of-c)
    (one_here c.args.flags c.args.values (c.args.past - 1) c.args.z (omega (arith, c.requires.0)) c.args.out.now
    (omega (arith, count (goal.at.returns c).After-count_of-c, c.if-c-eq0.false)) (omega (
      arith,
      count (goal.at.returns c).After-count_of-c,
      c.if-c-eq0.false,
      c.if-past-c.false,
    )) c.requires.1.behind)

-- there is room where it stands
pub overflow_add-flags : goal.overflow_add-flags
overflow_add-flags c = let p = c.requires.1 in
    omega (arith, p.behind, p.inside, c.if-c-eq0.false, c.if-past-c.false)

pub overflow_mul-c : goal.overflow_mul-c
overflow_mul-c c = let p = c.requires.1 in
    omega (arith, p.behind, p.inside, c.if-c-eq0.false, c.if-past-c.false)

pub overflow_add-values : goal.overflow_add-values
overflow_add-values c = let p = c.requires.1 in
    omega (arith, p.behind, p.inside, c.if-c-eq0.false, c.if-past-c.false)
