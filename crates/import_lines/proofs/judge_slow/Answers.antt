-- `import_lines::judge_slow` meets its contract.
use mathlib.Core.Path.{sym, ap, ◌∙◌}
use mathlib.Core.Bool.{false}
use mathlib.Core.List.{[]}
use Prim.Native.Nat.{ℕ}
use native.Mathlib.Omega.{arith}
use Rattle.import_lines.specs.Undoubled.{undoubled}
use Rattle.import_lines.specs.Walk.{step, step_bad, step_none}
use Rattle.import_lines.specs.Judge.{judges_any}
use Rattle.import_lines.proofs.judge_slow.Goals as goal

pub returns-then-end-ne0 : goal.returns-then-end-ne0
returns-then-end-ne0 c = c.requires.judges c.if-end-ne0.true

pub returns-then-bad-ne0 : goal.returns-then-bad-ne0
returns-then-bad-ne0 c = judges_any _ _ _ _ _ [] (step_bad _ _ _ _ [] _ c.if-bad-ne0.true)

pub returns-then-rows-j : goal.returns-then-rows-j
returns-then-rows-j c = judges_any _ _ _ _ _ [] (step_none _ _ _ _ [] _ c.if-bad-ne0.false c.if-rows-j.true)

pub take_slow-requires : goal.take_slow-requires
take_slow-requires c =
    let k = c.requires.table_known in record {
      tens = c.requires.tens;
      table_known = (k.0, k.1, omega (arith, c.if-rows-j.false));
      raw_of = c.requires.raw_of;
      list_len = c.requires.list_len;
    }

pub returns : goal.returns
returns c =
    let a = c.args in
    judges_any _ _ _ _ _ a.bytes.now (c.take_slow.ensures
    ∙ ap (λ (x : ℕ). step a.t.now a.rows a.j (undoubled false a.raw.now) x a.bytes.now) (sym c.if-bad-ne0.false))
