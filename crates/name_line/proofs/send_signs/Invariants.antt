-- `name_line::send_signs` meets its contract. The invariant: the signs that are left to send give the whole.
use mathlib.Core.Path.{◌≡◌}
use mathlib.Core.Bool.{true}
use lib.ListN.{length}
use Rattle.scan.specs.rule.Text.{text}
use Rattle.marks.specs.rule.Spelling.{decode_of}
use Rattle.marks.specs.Spelling.{idle}
use Rattle.commas.specs.rule.Csv.{doubled}
use Rattle.sink.specs.Sent.{Owed}
use Rattle.name_line.specs.rule.Names.{plain_text}
use Rattle.name_line.specs.Names.{bytes_of}
use Rattle.name_line.proofs.send_signs.Given as goal

abbrev pub invariant-loop-sign : goal.invariant-loop-sign
invariant-loop-sign l = Owed l.bound l.initial.out l.at (doubled (plain_text l.d l.name)) l.out l.end
    (doubled (bytes_of (decode_of l.s 0 (text l.d l.n)))) × (idle l.s ≡ true)

abbrev pub decreases-loop-sign : goal.decreases-loop-sign
decreases-loop-sign l = length (decode_of l.s 0 (text l.d l.n))
