-- `import_names::same_rest` meets its contract. The invariant: what is left of the name and of the field says whether they are the same.
use mathlib.Core.Path.{◌≡◌}
use mathlib.Core.Bool.{false}
use Prim.Native.Nat.{◌≤◌, ◌<◌}
use lib.ListN.{length, drop}
use Rattle.contents.specs.rule.Content.{content_signs}
use Rattle.name_line.specs.Names.{bytes_of, rest_text}
use Rattle.import_rule.specs.rule.Text.{same_bytes}
use Rattle.import_lines.specs.Undoubled.{undoubled}
use Rattle.import_names.proofs.same_rest.Given as goal

abbrev pub invariant-loop-sign : goal.invariant-loop-sign
invariant-loop-sign l = (same_bytes (rest_text l.latin l.d l.name) (undoubled false l.raw)
    ≡ same_bytes (bytes_of (content_signs l.latin l.d l.c)) (undoubled false (drop l.k l.raw)))
    × (l.c.next ≤ length l.d) × (l.c.code < 2097152)

abbrev pub decreases-loop-sign : goal.decreases-loop-sign
decreases-loop-sign l = length (content_signs l.latin l.d l.c)
