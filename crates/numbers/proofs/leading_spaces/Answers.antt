use mathlib.Core.Path.{◌≡◌, sym, ◌∙◌}
use mathlib.Core.List.{List}
use Prim.Native.Nat.{ℕ, ◌+◌, ◌≤◌, ◌<◌}
use native.Mathlib.Numerals.{add-one}
use borrow.Author.Tests.{eq-eqb, ne_eqb}
use lib.ListN.{length, get_or, drop, drop_of_length-le}
use lib.Seq.{drop-cons}
use Rattle.fields.specs.rule.Number.{unspaced}
use native.Mathlib.Omega.{arith}
use Rattle.numbers.proofs.leading_spaces.Goals as goal

-- a space in front goes, and where another byte stands nothing goes
on : (s : List ℕ) (p : ℕ) (h : p < length s) → get_or s p 0 ≡ 32 → unspaced (drop p s) ≡ unspaced (drop (p + 1) s)
unfolding unspaced
on s p h e = rw (drop-cons s p 0, eq-eqb _ _ e, add-one)

ends : (s : List ℕ) (p : ℕ) (h : p < length s) → (get_or s p 0 ≡ 32 → ⊥) → unspaced (drop p s) ≡ drop p s
unfolding unspaced
ends s p h e = rw (drop-cons s p 0, ne_eqb _ _ e)

none : (s : List ℕ) (p : ℕ) → length s ≤ p → unspaced (drop p s) ≡ drop p s
unfolding unspaced
none s p h = rw (drop_of_length-le _ h)

pub returns-then-b-ne32 : goal.returns-then-b-ne32
returns-then-b-ne32 c = (omega arith, sym c.loop-p.invariant ∙ ends _ _ c.loop-p-test.true c.if-b-ne32.true)

pub loop-p-preserved : goal.loop-p-preserved
loop-p-preserved c = sym (on _ _ c.loop-p-test.true c.if-b-ne32.false) ∙ c.loop-p.invariant

pub returns : goal.returns
returns c =
    let e : c.loop-p.p ≡ length c.args.s.now = omega arith in
    (omega arith, rw e at (sym c.loop-p.invariant ∙ none _ _ c.loop-p-test.false))
