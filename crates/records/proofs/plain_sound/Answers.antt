-- `records::plain_sound` meets its contract: no byte below 32 is found, and no row that is illegal.
use mathlib.Core.Path.{refl}
use Rattle.below.specs.Below.{holds_not}
use Rattle.records.specs.rule.Verdict.{rows_verdict, row_verdict, byte_verdict}
use Rattle.records.proofs.Laws.{first_of_plain}
use Rattle.records.proofs.plain_sound.Goals as goal

pub returns-in-None : goal.returns-in-None
unfolding rows_verdict byte_verdict row_verdict
returns-in-None c e =
    rw (
      first_of_plain c.args.bytes.now c.requires.plain,
      ← c.illegal_row.ensures,
      c.in-None.is,
    )

pub returns-in-Some : goal.returns-in-Some
returns-in-Some c e = holds_not e refl
