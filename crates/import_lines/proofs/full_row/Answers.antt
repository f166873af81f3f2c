-- `import_lines::full_row` meets its contract.
use native.Mathlib.Omega.{arith}
use Rattle.import_lines.proofs.full_row.Goals as goal

pub returns-then-w-gt9999 : goal.returns-then-w-gt9999
returns-then-w-gt9999 c = λ e. absurd (omega arith)

pub lines_count-requires : goal.lines_count-requires
lines_count-requires c = record {
  line_facts = c.requires;
  w_bound = omega (arith, c.if-w-gt9999.false);
}
