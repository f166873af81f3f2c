use mathlib.Core.Path.{◌≡◌, sym, ◌∙◌}
use Prim.Native.Nat.{◌+◌, ◌-◌}
use native.Mathlib.Omega.{arith}
use borrow.Author.Tests.{ne_eqb}
use Rattle.fields.specs.rule.Number.{all_spaces}
use Rattle.fields.specs.rule.Field.{unended}
use Rattle.letters.proofs.Ends.{space_unended, space_all, other_unended, other_all}
use Rattle.letters.proofs.kept_bytes.Goals as goal

pub returns-then-s-k-ne32 : goal.returns-then-s-k-ne32
returns-then-s-k-ne32 c =
    let l = c.loop-k in
    let s = c.args.s.now in
    let e : l.k - 1 + 1 ≡ l.k = omega arith in
    let z : l.k ≡ 0 → ⊥ = λ e. omega arith in
    rw e (
      l.auto.k,
      sym l.invariant.0 ∙ other_unended s l.k c.loop-k-test.true l.auto.k c.if-s-k-ne32.true,
      sym l.invariant.1 ∙ other_all s l.k c.loop-k-test.true l.auto.k c.if-s-k-ne32.true ∙ sym (ne_eqb _ _ z),
    )

pub loop-k-preserved : goal.loop-k-preserved
loop-k-preserved c =
    let l = c.loop-k in
    let s = c.args.s.now in (
      sym (space_unended s l.k c.loop-k-test.true l.auto.k c.if-s-k-ne32.false) ∙ l.invariant.0,
      sym (space_all s l.k c.loop-k-test.true l.auto.k c.if-s-k-ne32.false) ∙ l.invariant.1,
    )

pub returns : goal.returns
unfolding unended all_spaces
returns c =
    let l = c.loop-k in
    let e : l.k ≡ 0 = omega arith in
    (omega arith, sym (rw e at l.invariant.0), sym (rw e at l.invariant.1))
