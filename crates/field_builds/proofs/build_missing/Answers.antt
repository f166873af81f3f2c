-- `field_builds::build_missing` meets its contract.
use native.Mathlib.Omega.{arith}
use Rattle.field_builds.specs.Built.{built_none, built_some, missing_built}
use Rattle.field_builds.proofs.build_missing.Goals as goal

pub blank_run-requires : goal.blank_run-requires
blank_run-requires c = c.requires.0

pub returns-then-not-blank_run : goal.returns-then-not-blank_run
returns-then-not-blank_run c = built_none (c.blank_run.ensures.1 c.if-not-blank_run.true)

pub overflow_add-result : goal.overflow_add-result
overflow_add-result c = omega (arith, c.requires.1.within)

pub returns : goal.returns
returns c = built_some (missing_built c.requires.1
    (c.blank_run.ensures.0 c.if-not-blank_run.false))
