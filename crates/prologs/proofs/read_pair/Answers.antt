use mathlib.Core.Path.{sym, ◌∙◌}
use mathlib.Core.Bool.{true, false}
use lib.ListN.{length}
use native.Mathlib.Omega.{arith}
use borrow.Author.Tests.{eq-eqb, ne_eqb, le-leb, lt-leb}
use Rattle.prologs.specs.Pair.{pair_of}
use Rattle.prologs.proofs.Steps.{quoted_past}
use Rattle.prologs.proofs.read_pair.Goals as goal

pub returns-then-d-n : goal.returns-then-d-n
unfolding pair_of
returns-then-d-n c = rw (
  ← c.run-n.ensures.0,
  le-leb (length c.args.d.now) c.run-n.result
      (omega arith),
)

pub overflow_add-result : goal.overflow_add-result
overflow_add-result c =
    let args = c.args in
    let q = quoted_past true false false args.d.now args.opened _ _
    (sym c.quoted.ensures ∙ c.in-Past.is) in let a = q.0 in let b = q.1 in omega arith

pub returns-in-Past : goal.returns-in-Past
unfolding pair_of
returns-in-Past c =
    rw (
      ← c.run-n.ensures.0,
      lt-leb (length c.args.d.now) c.run-n.result (omega arith),
      eq-eqb _ 61 c.if-d-n-eq61.true,
      ← c.run-m.ensures.0,
      sym c.quoted.ensures ∙ c.in-Past.is,
    )

pub returns-in-Broken : goal.returns-in-Broken
unfolding pair_of
returns-in-Broken c =
    rw (
      ← c.run-n.ensures.0,
      lt-leb (length c.args.d.now) c.run-n.result (omega arith),
      eq-eqb _ 61 c.if-d-n-eq61.true,
      ← c.run-m.ensures.0,
      sym c.quoted.ensures ∙ c.in-Broken.is,
    )

pub returns : goal.returns
unfolding pair_of
returns c = rw (
  ← c.run-n.ensures.0,
  lt-leb (length c.args.d.now) c.run-n.result (omega arith),
  ne_eqb _ 61 c.if-d-n-eq61.false,
)
