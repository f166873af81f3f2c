-- `name_line::xml_send_signs` meets its contract. The invariant: the signs that are left to send give the whole.
use Prim.Native.Nat.{◌≤◌, ◌<◌}
use lib.ListN.{length}
use Rattle.contents.specs.rule.Content.{content_signs}
use Rattle.commas.specs.rule.Csv.{doubled}
use Rattle.sink.specs.Sent.{Owed}
use Rattle.name_line.specs.Names.{bytes_of, rest_text}
use Rattle.name_line.proofs.xml_send_signs.Given as goal

abbrev pub invariant-loop-sign : goal.invariant-loop-sign
invariant-loop-sign l = Owed l.bound l.initial.out l.at (doubled (rest_text l.latin l.d l.name)) l.out l.end
    (doubled (bytes_of (content_signs l.latin l.d l.c)))
    × (l.c.next ≤ length l.d) × (l.c.code < 2097152)

abbrev pub decreases-loop-sign : goal.decreases-loop-sign
decreases-loop-sign l = length (content_signs l.latin l.d l.c)
