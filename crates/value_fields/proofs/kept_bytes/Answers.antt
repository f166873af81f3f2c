use mathlib.Core.Path.{◌≡◌, sym, ◌∙◌}
use native.Mathlib.Omega.{arith}
use Prim.Native.Nat.{◌+◌, ◌-◌}
use borrow.Author.Tests.{ne_eqb}
use Rattle.fields.specs.rule.Number.{all_spaces}
use Rattle.fields.specs.rule.Field.{unended}
use Rattle.letters.proofs.Ends.{space_unended, space_all, other_unended, other_all}
use Rattle.value_fields.proofs.kept_bytes.Goals as goal

pub returns-then-s-k-ne32 : goal.returns-then-s-k-ne32
returns-then-s-k-ne32 c =
    let l = c.loop-k in
    let s = c.args.s.now in
    let g = c.loop-k-test.true in
    let i = l.invariant in
    let q : l.k - 1 + 1 ≡ l.k = omega arith in
    let z : l.k ≡ 0 → ⊥ = λ e. omega arith in
    rw q (
      i.few,
      sym i.ends ∙ other_unended s l.k g i.few c.if-s-k-ne32.true,
      sym i.blank ∙ other_all s l.k g i.few c.if-s-k-ne32.true ∙ sym (ne_eqb _ _ z),
    )

pub loop-k-preserved : goal.loop-k-preserved
loop-k-preserved c =
    let l = c.loop-k in
    let s = c.args.s.now in
    let g = c.loop-k-test.true in
    let i = l.invariant in
    let f = i.few in record {
      few = omega arith;
      ends = sym (space_unended s l.k g f c.if-s-k-ne32.false) ∙ i.ends;
      blank = sym (space_all s l.k g f c.if-s-k-ne32.false) ∙ i.blank;
    }

pub returns : goal.returns
unfolding unended all_spaces
returns c =
    let q : c.loop-k.k ≡ 0 = omega arith in
    let i = rw q at c.loop-k.invariant in
    (omega arith, sym i.ends, sym i.blank)
