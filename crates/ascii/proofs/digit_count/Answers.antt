use mathlib.Core.Path.{◌≡◌, refl, sym, ◌∙◌}
use mathlib.Core.Bool.{cond}
use Prim.Native.Nat.{ℕ, suc, ◌+◌, ◌-◌, ◌≤◌, ◌<◌, ◌^◌}
use native.Mathlib.Numerals.{add-one}
use native.Mathlib.Omega.{arith}
use borrow.Author.Tests.{lt-ltb, le-ltb}
use lib.Dec.{ltb}
use Rattle.ascii.specs.rule.Tens.{count_from, digits_of}
use Rattle.ascii.proofs.digit_count.Goals as goal

more : (k n : ℕ) → k < 16 → count_from (16 - k) k n ≡ cond (ltb n (10 ^ k)) k (count_from (16 - (k + 1)) (k + 1) n)
unfolding count_from
more k n h = let e : 16 - k ≡ suc (16 - suc k) = omega arith in rw (add-one, e)

stop : (k n p : ℕ) → k < 16 → p ≡ 10 ^ k → n < p → count_from (16 - k) k n ≡ k
stop k n p h e l = more k n h ∙ rw (lt-ltb n (10 ^ k) (rw e at l))

on : (k n p : ℕ) → k < 16 → p ≡ 10 ^ k → p ≤ n → count_from (16 - k) k n ≡ count_from (16 - (k + 1)) (k + 1) n
on k n p h e l = more k n h ∙ rw (le-ltb n (10 ^ k) (rw e at l))

end : (k n : ℕ) → k ≡ 16 → 16 ≡ count_from (16 - k) k n
unfolding count_from
end k n e = rw e

pub loop-k-init : goal.loop-k-init
unfolding digits_of
loop-k-init c = refl

pub returns-then-n-power : goal.returns-then-n-power
returns-then-n-power c = sym (stop _ _ _ (omega arith) c.power.ensures c.if-n-power.true) ∙ c.loop-k.invariant

pub loop-k-preserved : goal.loop-k-preserved
loop-k-preserved c = sym (on _ _ _ (omega arith) c.power.ensures c.if-n-power.false) ∙ c.loop-k.invariant

pub returns : goal.returns
returns c = end _ _ (omega arith) ∙ c.loop-k.invariant
