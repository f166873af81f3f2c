use mathlib.Core.Path.{◌≡◌, sym, ◌∙◌}
use mathlib.Core.Bool.{true, ◌&&◌}
use Prim.Native.Nat.{◌+◌, ◌-◌, ◌<◌}
use native.Mathlib.Omega.{arith}
use lib.ListN.{length}
use Rattle.below.specs.Below.{and_left, and_right}
use Rattle.filters.proofs.Leads.{shares_none, shares_more, lead_apart, lead_shared}
use Rattle.filters.proofs.lead_of.Goals as goal

pub loop-k-init : goal.loop-k-init
loop-k-init c = let a = c.args in (
  omega arith,
  shares_none a.standard a.s.now a.t.now a.p a.q,
)

pub returns-then-t-q : goal.returns-then-t-q
returns-then-t-q c = let v = c.loop-k.invariant in
    lead_shared _ _ _ _ _ _ c.requires.0 c.requires.1 (omega arith) v.0 v.1

pub returns-then-not-is_plain : goal.returns-then-not-is_plain
returns-then-not-is_plain c =
    let v = c.loop-k.invariant in
    lead_shared _ _ _ _ _ _ c.requires.0 c.requires.1 (omega arith) v.0 v.1

pub returns-then-not-same_byte : goal.returns-then-not-same_byte
returns-then-not-same_byte c =
    let v = c.loop-k.invariant in
    let x = c.is_plain.result in
    let y = c.is_plain-in-loop-k.result in
    let b : (x && y) ≡ true = c.if-not-is_plain.false in
    let i : c.args.p + c.loop-k.k < length c.args.s.now = omega arith in
    let j : c.args.q + c.loop-k.k < length c.args.t.now = omega arith in
    lead_apart _ _ _ _ _ _ i j (sym c.is_plain.ensures ∙ and_left x y b)
    (sym c.is_plain-in-loop-k.ensures ∙ and_right x y b)
    (sym c.if-not-same_byte.true ∙ c.same_byte.ensures) v.1

pub loop-k-preserved : goal.loop-k-preserved
loop-k-preserved c =
    let v = c.loop-k.invariant in
    let x = c.is_plain.result in
    let y = c.is_plain-in-loop-k.result in
    let b : (x && y) ≡ true = c.if-not-is_plain.false in
    let i : c.args.p + c.loop-k.k < length c.args.s.now = omega arith in
    let j : c.args.q + c.loop-k.k < length c.args.t.now = omega arith in (
      omega arith,
      shares_more _ _ _ _ _ _ i j (sym c.is_plain.ensures ∙ and_left x y b)
          (sym c.is_plain-in-loop-k.ensures ∙ and_right x y b)
          (sym c.if-not-same_byte.false ∙ c.same_byte.ensures) v.1,
    )

pub returns : goal.returns
returns c =
    let v = c.loop-k.invariant in
    let e : c.loop-k.k ≡ length c.args.s.now - c.args.p = omega arith in
    rw e at (lead_shared _ _ _ _ _ _ c.requires.0 c.requires.1 (omega arith) v.0 v.1)
