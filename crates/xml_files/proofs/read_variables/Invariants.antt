-- `xml_files::read_variables` meets its contract, by the invariant `Ran`.
use mathlib.Core.Path.{◌≡◌}
use Prim.Native.Nat.{◌*◌, ◌-◌}
use lib.ListN.{length}
use Rattle.layout.specs.rule.Layout.{row_size, line_size, most_rows, most_lines}
use Rattle.prefaces.specs.Code.{rule_of}
use Rattle.filters.specs.Sums.{Summing}
use Rattle.xml_files.proofs.Rans.{Ran}
use Rattle.xml_files.proofs.read_variables.Given as goal

abbrev pub invariant-loop-ident : goal.invariant-loop-ident
invariant-loop-ident l = Ran l.bad l.d (rule_of l.m) l.from l.at l.y l.seen l.rows l.lines × (length l.rows ≡ row_size * most_rows)
    × (length l.lines ≡ line_size * most_lines)
    × (length l.marks ≡ 16384) × Summing l.m.latin l.d l.rows l.y.rows l.sums

abbrev pub decreases-loop-ident : goal.decreases-loop-ident
decreases-loop-ident l = 512 - l.y.rows
