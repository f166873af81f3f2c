-- `name_line::xml_needs_quotes` meets its contract. The invariant: no sign so far is one of the four bytes.
use mathlib.Core.Path.{◌≡◌}
use Prim.Native.Nat.{◌≤◌, ◌<◌}
use lib.ListN.{length}
use Rattle.contents.specs.rule.Content.{content_signs}
use Rattle.commas.specs.rule.Csv.{holds_special}
use Rattle.name_line.specs.Names.{bytes_of, rest_text}
use Rattle.name_line.proofs.xml_needs_quotes.Given as goal

abbrev pub invariant-loop-sign : goal.invariant-loop-sign
invariant-loop-sign l = (holds_special (rest_text l.latin l.d l.name) ≡ holds_special (bytes_of (content_signs l.latin l.d l.c)))
    × (l.c.next ≤ length l.d) × (l.c.code < 2097152)

abbrev pub decreases-loop-sign : goal.decreases-loop-sign
decreases-loop-sign l = length (content_signs l.latin l.d l.c)
