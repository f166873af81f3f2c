use mathlib.Core.Path.{sym, ◌∙◌}
use Prim.Native.Nat.{◌+◌}
use lib.ListN.{length}
use native.Mathlib.Omega.{arith}
use borrow.Author.Tests.{le-leb, lt-leb}
use Rattle.attributes.specs.rule.Attribute.{valued_of}
use Rattle.attributes.proofs.Values.{quoted_sound}
use Rattle.attributes.proofs.valued.Goals as goal

pub overflow_add-result-in-Past : goal.overflow_add-result-in-Past
overflow_add-result-in-Past c =
    let a = c.args in
    let q = quoted_sound a.bad a.opened _ a.d.now (a.v + 1) _
    (sym c.quoted.ensures ∙ c.in-Past.is) in
    let i = q.within in
    omega arith

pub returns-then-d-v : goal.returns-then-d-v
unfolding valued_of
returns-then-d-v c = rw (
  le-leb (length c.args.d.now) c.args.v (omega arith),
  c.end_fault.ensures,
)

pub returns-in-Past : goal.returns-in-Past
unfolding valued_of
returns-in-Past c =
    let args = c.args in
    rw (
      lt-leb (length args.d.now) args.v (omega arith),
      c.if-q.true,
      sym c.quoted.ensures ∙ c.in-Past.is,
    )

pub returns-in-Broken : goal.returns-in-Broken
unfolding valued_of
returns-in-Broken c =
    let args = c.args in
    rw (
      lt-leb (length args.d.now) args.v (omega arith),
      c.if-q.true,
      sym c.quoted.ensures ∙ c.in-Broken.is,
    )

pub returns : goal.returns
unfolding valued_of
returns c = rw (
  lt-leb (length c.args.d.now) c.args.v
      (omega arith),
  c.if-q.false,
)
