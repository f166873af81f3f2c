-- `import_names::same_plain` meets its contract. The invariant: what is left of the name and of the field says whether they are the same.
use mathlib.Core.Path.{◌≡◌}
use mathlib.Core.Bool.{true, false}
use lib.ListN.{length, drop}
use Rattle.scan.specs.rule.Text.{text}
use Rattle.marks.specs.rule.Spelling.{decode_of}
use Rattle.marks.specs.Spelling.{idle}
use Rattle.name_line.specs.rule.Names.{plain_text}
use Rattle.name_line.specs.Names.{bytes_of}
use Rattle.import_rule.specs.rule.Text.{same_bytes}
use Rattle.import_lines.specs.Undoubled.{undoubled}
use Rattle.import_names.proofs.same_plain.Given as goal

abbrev pub invariant-loop-sign : goal.invariant-loop-sign
invariant-loop-sign l = (same_bytes (plain_text l.def l.name) (undoubled false l.raw)
    ≡ same_bytes (bytes_of (decode_of l.s 0 (text l.def l.n))) (undoubled false (drop l.i l.raw)))
    × (idle l.s ≡ true)

abbrev pub decreases-loop-sign : goal.decreases-loop-sign
decreases-loop-sign l = length (decode_of l.s 0 (text l.def l.n))
