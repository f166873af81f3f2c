use mathlib.Core.Path.{◌≡◌, sym, ap, ◌∙◌}
use mathlib.Core.Bool.{Bool, true, false, ◌&&◌}
use Prim.Native.Nat.{ℕ, ◌+◌}
use native.Mathlib.Omega.{arith}
use lib.ListN.{drop}
use Rattle.laying.specs.rule.Begins.{begins_table}
use Rattle.laying.proofs.same_at.Goals as goal

fail : {w : Bool} (q s : Bool) → w ≡ (q && s) → q ≡ false → false ≡ w
fail q s e f = sym (e ∙ ap (λ (x : Bool). x && s) f)

pass : {w : Bool} (q s : Bool) → w ≡ (q && s) → q ≡ true → w ≡ s
pass q s e f = e ∙ ap (λ (x : Bool). x && s) f

pub loop-j-init : goal.loop-j-init
loop-j-init c =
    let e : c.args.at ≡ c.args.at + 0 = omega arith in
    (omega arith, ap (λ (n : ℕ). begins_table c.args.part.now (drop n c.args.t.now)) e)

pub returns-then-not-same_eight : goal.returns-then-not-same_eight
returns-then-not-same_eight c =
    let l = c.loop-j in
    let a = c.args in
    fail c.same_eight.result (begins_table (drop (l.j + 8) a.part.now) (drop (a.at + (l.j + 8)) a.t.now))
    (l.invariant.1 ∙ c.same_eight.ensures) c.if-not-same_eight.true

pub loop-j-preserved : goal.loop-j-preserved
loop-j-preserved c =
    let l = c.loop-j in
    let a = c.args in (
      omega arith,
      pass c.same_eight.result (begins_table (drop (l.j + 8) a.part.now) (drop (a.at + (l.j + 8)) a.t.now))
          (l.invariant.1 ∙ c.same_eight.ensures) c.if-not-same_eight.false,
    )

pub returns : goal.returns
returns c = c.same_left.ensures ∙ sym c.loop-j.invariant.1
