use mathlib.Core.Path.{refl, sym, ◌∙◌}
use native.Mathlib.Omega.{arith}
use Rattle.tags.proofs.second_end.Goals as goal

pub is_named-requires : goal.is_named-requires
is_named-requires c =
    let v = c.usual_end-k.ensures c.if-k-eq0.false in
    let a = v.within in
    let b = v.inside in
    (omega arith, omega arith)

pub returns-else-is_named : goal.returns-else-is_named
returns-else-is_named c e = (
  c.usual_end-k.ensures c.if-k-eq0.false,
  sym c.is_named.ensures ∙ c.if-is_named.false,
)

pub overflow_add-at : goal.overflow_add-at
overflow_add-at c = let v = c.usual_end-k.ensures c.if-k-eq0.false in let a = v.within in let b = v.inside in omega arith

pub overflow_add-at-3 : goal.overflow_add-at-3
overflow_add-at-3 c = let v = c.usual_end-k.ensures c.if-k-eq0.false in let a = v.within in let b = v.inside in omega arith

pub returns-then-k-eq0 : goal.returns-then-k-eq0
returns-then-k-eq0 c e = absurd (e refl)

pub returns-then-is_named : goal.returns-then-is_named
returns-then-is_named c e = absurd (e refl)
