use mathlib.Core.Path.{refl, sym, ◌∙◌}
use native.Mathlib.Omega.{arith}
use lib.ListN.{drop}
use Prim.Native.Nat.{◌+◌}
use Rattle.markup.specs.rule.Bytes.{of_kind}
use Rattle.markup.proofs.Runs.{run_long}
use Rattle.contents.proofs.Walking.{closes}
use Rattle.contents.proofs.end_behind.Goals as goal

pub is_named-requires : goal.is_named-requires
is_named-requires c =
    let r = c.run-e.ensures in
    let a = c.args in
    (omega (arith, r.0, run_long (of_kind 1) (a.at + 2) (drop (a.at + 2) a.d.now)), r.1)

pub returns-then-is_named : goal.returns-then-is_named
returns-then-is_named c z =
    let a = c.args in
    closes a.d.now a.at a.w.now _ (omega arith)
    c.if-d-at-ne60.false
    c.if-d-at-ne47.false
    (sym c.starts_name.ensures
    ∙ c.if-not-starts_name.false)
    c.run-e.ensures.0 c.if-d-e.false
    c.if-d-e-ne62.false
    (sym c.is_named.ensures ∙ c.if-is_named.true)

pub returns-then-d-at-lt3 : goal.returns-then-d-at-lt3
returns-then-d-at-lt3 c e = absurd (e refl)

pub returns-then-d-at-ne60 : goal.returns-then-d-at-ne60
returns-then-d-at-ne60 c e = absurd (e refl)

pub returns-then-d-at-ne47 : goal.returns-then-d-at-ne47
returns-then-d-at-ne47 c e = absurd (e refl)

pub returns-then-not-starts_name : goal.returns-then-not-starts_name
returns-then-not-starts_name c e = absurd (e refl)

pub returns-then-d-e : goal.returns-then-d-e
returns-then-d-e c e = absurd (e refl)

pub returns-then-d-e-ne62 : goal.returns-then-d-e-ne62
returns-then-d-e-ne62 c e = absurd (e refl)

pub overflow_add-result : goal.overflow_add-result
overflow_add-result c = let r = c.if-d-e.false in omega arith

pub returns-else-is_named : goal.returns-else-is_named
returns-else-is_named c e = absurd (e refl)
