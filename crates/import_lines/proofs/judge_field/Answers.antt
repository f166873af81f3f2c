-- `import_lines::judge_field` meets its contract.
use mathlib.Core.Path.{refl}
use native.Mathlib.Omega.{arith}
use borrow.Author.Tests.{eqb-true}
use Rattle.import_lines.specs.Judge.{standing_row}
use Rattle.import_lines.proofs.judge_field.Goals as goal

pub returns-then-bad-ne0 : goal.returns-then-bad-ne0
returns-then-bad-ne0 c = λ z. absurd (z refl)

pub returns-then-rows-j : goal.returns-then-rows-j
returns-then-rows-j c = λ z. absurd (z refl)

pub read-requires : goal.read-requires
read-requires c =
    let f = c.requires.0.few in
    let s = c.requires.0.stand in
    (omega (arith, c.if-rows-j.false), omega (arith, c.if-rows-j.false))

pub bounds-full-j : goal.bounds-full-j
bounds-full-j c = omega (
  arith,
  c.if-rows-j.false,
  c.requires.2.long,
)

pub judge_at-requires : goal.judge_at-requires
judge_at-requires c = (
  rw c.read.ensures (c.requires.0.row c.args.j (omega (arith, c.if-rows-j.false))).lines,
  λ e. rw c.read.ensures (c.requires.2.each c.args.j (omega (arith, c.if-rows-j.false))
      (eqb-true _ _ e)),
  c.requires.1,
)

pub returns : goal.returns
returns c = λ z. record {
  first = c.if-bad-ne0.false;
  some = omega (arith, c.if-rows-j.false);
  standing = standing_row c.read.ensures (c.judge_at.ensures z);
}
