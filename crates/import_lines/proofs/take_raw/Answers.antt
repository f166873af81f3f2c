-- `import_lines::take_raw` meets its contract.
use Rattle.field_values.specs.Steps.{none_taken, ready_limits}
use Rattle.import_lines.specs.Short.{long_none}
use Rattle.import_lines.specs.Walk.{raw_bare, took_as}
use Rattle.import_lines.proofs.take_raw.Goals as goal

pub returns-then-bare : goal.returns-then-bare
returns-then-bare c =
    took_as (raw_bare c.requires.raw_of c.if-bare.true)
    c.take_field.ensures

pub returns-in_default : goal.returns-in_default
returns-in_default c = none_taken (long_none _ _ _ (ready_limits c.requires.ready) _ c.in_default.ensures)
