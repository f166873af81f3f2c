use mathlib.Core.Path.{◌≡◌, sym, ◌∙◌}
use mathlib.Core.List.{List}
use Prim.Native.Nat.{ℕ, ◌+◌, ◌≤◌, ◌<◌}
use native.Mathlib.Numerals.{add-one}
use native.Mathlib.Omega.{arith}
use borrow.Author.Tests.{eq-eqb, ne_eqb}
use lib.ListN.{length, get_or, drop, drop_of_length-le}
use lib.Seq.{drop-cons}
use Rattle.bare_digits.specs.Bare.{unled}
use Rattle.bare_digits.proofs.leading.Goals as goal

on : (b : ℕ) (s : List ℕ) (p : ℕ) (h : p < length s) → get_or s p 0 ≡ b → unled b (drop p s) ≡ unled b (drop (p + 1) s)
unfolding unled
on b s p h e = rw (drop-cons s p 0, eq-eqb _ _ e, add-one)

ends : (b : ℕ) (s : List ℕ) (p : ℕ) (h : p < length s) → (get_or s p 0 ≡ b → ⊥) → unled b (drop p s) ≡ drop p s
unfolding unled
ends b s p h e = rw (drop-cons s p 0, ne_eqb _ _ e)

none : (b : ℕ) (s : List ℕ) (p : ℕ) → length s ≤ p → unled b (drop p s) ≡ drop p s
unfolding unled
none b s p h = rw (drop_of_length-le _ h)

pub returns-then-x-b : goal.returns-then-x-b
returns-then-x-b c = (omega arith, sym c.loop-p.invariant ∙ ends _ _ _ c.loop-p-test.true c.if-x-b.true)

pub loop-p-preserved : goal.loop-p-preserved
loop-p-preserved c = sym (on _ _ _ c.loop-p-test.true c.if-x-b.false) ∙ c.loop-p.invariant

pub returns : goal.returns
returns c =
    let e : c.loop-p.p ≡ length c.args.s.now = omega arith in
    (omega arith, rw e at (sym c.loop-p.invariant ∙ none _ _ _ c.loop-p-test.false))
