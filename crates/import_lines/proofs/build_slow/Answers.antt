-- `import_lines::build_slow` meets its contract.
use mathlib.Core.Path.{sym, ap, ◌∙◌}
use mathlib.Core.Bool.{false}
use Prim.Native.Nat.{ℕ}
use native.Mathlib.Omega.{arith}
use Rattle.import_lines.specs.Undoubled.{undoubled}
use Rattle.import_lines.specs.Walk.{step, step_bad, step_none}
use Rattle.import_lines.specs.Build.{slow_none, slow_some}
use Rattle.import_lines.proofs.build_slow.Goals as goal

pub returns-then-end-ne0 : goal.returns-then-end-ne0
returns-then-end-ne0 c = slow_none _ _ _ _ _ _ c.if-end-ne0.true

pub returns-then-bad-ne0 : goal.returns-then-bad-ne0
returns-then-bad-ne0 c = slow_some c.if-end-ne0.false (step_bad _ _ _ _ _ _ c.if-bad-ne0.true)

pub returns-then-rows-j : goal.returns-then-rows-j
returns-then-rows-j c = slow_some c.if-end-ne0.false (step_none _ _ _ _ _ _ c.if-bad-ne0.false c.if-rows-j.true)

pub take_slow-requires : goal.take_slow-requires
take_slow-requires c =
    let p = c.requires in record {
      tens = p.tens;
      table_known = (p.table_known.0, p.table_known.1, omega (arith, c.if-rows-j.false));
      raw_of = p.raw_of;
      list_len = p.list_len;
    }

pub returns : goal.returns
returns c =
    let a = c.args in
    slow_some
    c.if-end-ne0.false
    (c.take_slow.ensures
    ∙ ap (λ (x : ℕ). step a.t.now a.rows a.j (undoubled false a.raw.now) x a.bytes.now)
    (sym c.if-bad-ne0.false))
