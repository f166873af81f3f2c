use mathlib.Core.Path.{◌≡◌, sym, ◌∙◌}
use mathlib.Core.Bool.{true}
use Prim.Native.Nat.{◌<◌}
use native.Mathlib.Omega.{arith}
use borrow.Author.Tests.{not-true, not-false}
use Rattle.below.specs.Below.{and_no, and_yes}
use Rattle.sound.specs.Types.{shared_good, shared_sited, shared_lines}
use Rattle.sound.specs.Laid.{lines_part}
use Rattle.sound.specs.Values.{row_shared, told_bare}
use Rattle.sound.proofs.whole_row_good.Goals as goal
use Rattle.sound.proofs.whole_row_good.Goals.{Else-not-shared_good}

-- what the columns of all types showed
shared_here : (c : Else-not-shared_good) → shared_good c.args.e c.args.before
    c.read-c.result ≡ true
shared_here c = sym c.shared_good.ensures ∙ c.if-not-shared_good.false

pub returns-then-not-shared_good : goal.returns-then-not-shared_good
returns-then-not-shared_good c = rw (← c.read-c.ensures)
    (sym (row_shared _ _ _ _ _ (sym c.shared_good.ensures ∙ c.if-not-shared_good.true)))

pub bare_good-requires : goal.bare_good-requires
bare_good-requires c =
    let e = c.read.ensures ∙ sym c.read-c.ensures in record {
      sited = rw e (shared_sited _ _ _ (shared_here (goal.at.bare_good-requires c).Else-not-shared_good));
      le_kind = rw e c.if-c-ge4.true;
    }

pub returns-then-c-ge4 : goal.returns-then-c-ge4
returns-then-c-ge4 c =
    let e = c.read-c.ensures in
    let a = c.args in
    rw (c.bare_good.ensures, c.read.ensures)
    (sym (told_bare a.t.now a.v _ a.e a.before (rw e at (shared_here (goal.at.returns-then-c-ge4 c).Else-not-shared_good))
    (rw e at c.if-c-ge4.true)))

pub lines_block-block-requires : goal.lines_block-block-requires
lines_block-block-requires c =
    let s = c.requires.standing.0 in
    let l = shared_lines c.args.e c.args.before c.read-c.result (shared_here (goal.at.lines_block-block-requires c).Else-not-shared_good) in
    record {
      standing = record { few_rows = s.few_rows; few_lines = omega arith; stand = omega arith };
      lines_value = λ y. lines_part c.args.t.now c.args.v c.args.e _ _ (omega arith) (c.requires.e_value y);
    }

pub returns-then-not-block : goal.returns-then-not-block
returns-then-not-block c =
    let a = c.args in
    rw (← c.read-c.ensures) (sym (c.lines_block-block.ensures a.e a.before
    (shared_here (goal.at.returns-then-not-block c).Else-not-shared_good)
    ∙ and_no _ _ (not-true _ c.if-not-block.true)))

pub typed_good-requires : goal.typed_good-requires
typed_good-requires c =
    let e = c.read-2.ensures ∙ sym c.read-c.ensures in
    let k : c.read-c.result.kind < 4 = omega (arith, c.if-c-ge4.false) in record {
      tens = c.requires.tens;
      sited = (rw e (shared_sited _ _ _ (shared_here (goal.at.typed_good-requires c).Else-not-shared_good)), rw e k);
    }

pub returns : goal.returns
returns c =
    let a = c.args in
    let e = c.read-2.ensures ∙ sym c.read-c.ensures in
    rw (← c.read-c.ensures) (rw e at c.typed_good.ensures
    ∙ sym (c.lines_block-block.ensures a.e a.before (shared_here (goal.at.returns c).Else-not-shared_good)
    ∙ and_yes _ _ (not-false _ c.if-not-block.false)))

pub read-c-requires : goal.read-c-requires
read-c-requires c = c.requires.standing.2

pub shared_good-requires : goal.shared_good-requires
shared_good-requires c = c.requires.standing.1

pub read-requires : goal.read-requires
read-requires c = c.requires.standing.2

pub read-requires-2 : goal.read-requires-2
read-requires-2 c = c.requires.standing.2
