use mathlib.Core.Path.{◌≡◌, sym, ◌∙◌}
use mathlib.Core.Bool.{Bool, true, false}
use Prim.Native.Nat.{ℕ, ◌≤◌, ◌<◌, ◌+◌, ◌-◌, ◌*◌, ◌%◌}
use native.Mathlib.Nat.{div-mul-le_self, div-add-mod', mod-lt}
use native.Mathlib.Omega.{arith}
use lib.IntN.{ℤ}
use Rattle.below.specs.rule.Below.{all_below}
use Rattle.below.specs.Below.{all_none, all_more, all_fails, all_down}
use Rattle.strides.specs.Stride.{rises_at, above, all_rise, rises_first, rises_here, rises_not}
use Rattle.strides.proofs.all_rise.Goals as goal

-- where all but the last rise, the last one decides
last_rise : (f : ℕ → ℤ) (n k : ℕ) (b : Bool) → 1 ≤ k → n ≡ k + 1 → all_below k (rises_at f) ≡ true → above f k ≡ b → b ≡ all_rise f n
unfolding all_rise
last_rise f n k true h e inv a = rw e (sym (all_more (rises_at f) k inv (rises_here f k a)))
last_rise f n k false h e inv a = rw e (sym (all_fails (rises_at f) (k + 1) k (omega arith) (rises_not f k h a)))

-- two more that rise
two_more : (f : ℕ → ℤ) (k : ℕ) → all_below k (rises_at f) ≡ true → above f k ≡ true → above f (k + 1) ≡ true
    → all_below (k + 2) (rises_at f)
    ≡ true
two_more f k inv a b =
    let e : k + 2 ≡ k + 1 + 1 = omega arith in
    rw e (all_more (rises_at f) (k + 1) (all_more (rises_at f) k inv (rises_here f k a)) (rises_here f (k + 1) b))

pub returns-then-n-eq0 : goal.returns-then-n-eq0
unfolding all_rise
returns-then-n-eq0 c = sym (rw c.if-n-eq0.true (all_none _))

pub above_last-requires : goal.above_last-requires
above_last-requires c = let d = div-mul-le_self (c.args.n - 1)
    2 in (c.requires, omega arith, omega arith)

pub returns-then-not-above_last : goal.returns-then-not-above_last
unfolding all_rise
returns-then-not-above_last c =
    let d = div-mul-le_self (c.args.n - 1) 2 in
    let k = 2 * c.loop-j.j + 1 in
    let h : 1 ≤ 2 * c.loop-j.j + 1 = omega arith in
    sym (all_fails _ _ k (omega arith) (rises_not _ _ h (sym c.above_last.ensures ∙ c.if-not-above_last.true)))

pub above_last-requires-in-loop-j : goal.above_last-requires-in-loop-j
above_last-requires-in-loop-j c = let d = div-mul-le_self (c.args.n - 1)
    2 in (c.requires, omega arith, omega arith)

pub returns-then-not-above_last-2 : goal.returns-then-not-above_last-2
unfolding all_rise
returns-then-not-above_last-2 c =
    let l = c.loop-j in
    let d = div-mul-le_self (c.args.n - 1) 2 in
    let h : 1 ≤ 2 * l.j + 1 + 1 = omega arith in
    sym (all_fails _ _ (2 * l.j + 1 + 1) (omega arith)
    (rises_not _ _ h (sym c.above_last-in-loop-j.ensures ∙ c.if-not-above_last-2.true)))

pub loop-j-preserved : goal.loop-j-preserved
loop-j-preserved c =
    let l = c.loop-j in
    let e : 2 * (l.j + 1) + 1 ≡ 2 * l.j + 1 + 2 = omega arith in
    rw e (two_more _ _ l.invariant (sym c.above_last.ensures ∙ c.if-not-above_last.false)
    (sym c.above_last-in-loop-j.ensures ∙ c.if-not-above_last-2.false))

pub returns-then-n-eq1 : goal.returns-then-n-eq1
unfolding all_rise
returns-then-n-eq1 c = sym (rw c.if-n-eq1.true (rises_first _))

pub above_last-requires-2 : goal.above_last-requires-2
above_last-requires-2 c = (
  c.requires,
  omega (arith, c.if-n-eq0.false),
  omega (arith, c.if-n-eq0.false, c.if-n-eq1.false),
)

-- the last is tested once more where it was the second of a pair
pub returns : goal.returns
returns c =
    let l = c.loop-j in
    let n = c.args.n in
    let d = div-add-mod' (n - 1) 2 in
    let m : (n - 1) % 2 < 2 = mod-lt (n - 1) (omega arith) in
    last_rise _ _ (n - 1) _ (omega (arith, c.if-n-eq0.false, c.if-n-eq1.false))
    (omega (arith, c.if-n-eq0.false))
    (all_down _ (2 * l.j + 1) _ (omega (arith, c.loop-j-test.false)) l.invariant) (sym c.above_last-2.ensures)

pub overflow_sub-pairs : goal.overflow_sub-pairs
overflow_sub-pairs c = omega (arith, c.if-n-eq0.false)

pub loop-j-init : goal.loop-j-init
loop-j-init c = rises_first _

pub overflow_mul-k : goal.overflow_mul-k
overflow_mul-k c = let d = div-mul-le_self (c.args.n - 1) 2 in let f = c.requires.few in omega arith

pub overflow_add-k : goal.overflow_add-k
overflow_add-k c = let d = div-mul-le_self (c.args.n - 1) 2 in let f = c.requires.few in omega arith

pub overflow_add-k-in-loop-j : goal.overflow_add-k-in-loop-j
overflow_add-k-in-loop-j c = let d = div-mul-le_self (c.args.n - 1) 2 in
    let f = c.requires.few in omega arith

pub overflow_sub-n : goal.overflow_sub-n
overflow_sub-n c = omega (arith, c.if-n-eq0.false)
