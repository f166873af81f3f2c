-- `exports::write_export` meets its contract: 20, 40, and then what is exported.
use mathlib.Core.Path.{sym, ◌∙◌}
use Rattle.exports.specs.rule.Text.{export_said, export_after}
use Rattle.exports.specs.rule.Export.{export_verdict}
use Rattle.exports.proofs.write_export.Goals as goal

pub returns-then-not-well_formed : goal.returns-then-not-well_formed
unfolding export_said export_verdict export_after
returns-then-not-well_formed c =
    let e = sym c.well_formed-2.ensures.says ∙ c.if-not-well_formed.true in
    record { says = rw e; leaves = rw e }

pub returns-then-not-yields : goal.returns-then-not-yields
unfolding export_said export_verdict export_after
returns-then-not-yields c =
    let e = sym c.well_formed-2.ensures.says ∙ c.if-not-well_formed.false in
    let f = sym c.yields.ensures ∙ c.if-not-yields.true in
    record { says = rw (e, f); leaves = rw (e, f) }

pub export_tested-requires : goal.export_tested-requires
export_tested-requires c = sym c.well_formed-2.ensures.says
    ∙ c.if-not-well_formed.false

pub returns : goal.returns
unfolding export_verdict
returns c =
    let e = sym c.well_formed-2.ensures.says
    ∙ c.if-not-well_formed.false in
    let f = sym c.yields.ensures ∙ c.if-not-yields.false in
    record {
      says = rw (e, f) c.export_tested.ensures.0;
      leaves = rw (e, f) c.export_tested.ensures.1;
    }
