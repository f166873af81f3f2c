-- `name_line::needs_quotes` meets its contract. The invariant: no sign so far is one of the four bytes.
use mathlib.Core.Path.{◌≡◌}
use mathlib.Core.Bool.{true}
use lib.ListN.{length}
use Rattle.scan.specs.rule.Text.{text}
use Rattle.marks.specs.rule.Spelling.{decode_of}
use Rattle.marks.specs.Spelling.{idle}
use Rattle.commas.specs.rule.Csv.{holds_special}
use Rattle.name_line.specs.rule.Names.{plain_text}
use Rattle.name_line.specs.Names.{bytes_of}
use Rattle.name_line.proofs.needs_quotes.Given as goal

abbrev pub invariant-loop-sign : goal.invariant-loop-sign
invariant-loop-sign l = (holds_special (plain_text l.d l.name) ≡ holds_special (bytes_of (decode_of l.s 0 (text l.d l.n))))
    × (idle l.s ≡ true)

abbrev pub decreases-loop-sign : goal.decreases-loop-sign
decreases-loop-sign l = length (decode_of l.s 0 (text l.d l.n))
