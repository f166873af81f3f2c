-- `imports::import_file` meets its contract: the tests in their order, and then the text.
use mathlib.Core.Path.{sym, ◌∙◌}
use Rattle.imports.specs.rule.Import.{import_said}
use Rattle.imports.specs.Import.{bad_table_lem, other_table, shared_place, as_said, known, shared_said}
use Rattle.imports.proofs.import_file.Goals as goal

pub returns-then-not-well_formed : goal.returns-then-not-well_formed
unfolding import_said
returns-then-not-well_formed c = bad_table_lem _ _ _ _ (sym c.well_formed-2.ensures.says ∙ c.if-not-well_formed.true)

pub returns-then-not-yields : goal.returns-then-not-yields
unfolding import_said
returns-then-not-yields c = other_table _ _ _ _ (sym c.well_formed-2.ensures.says
    ∙ c.if-not-well_formed.false) (sym c.yields.ensures ∙ c.if-not-yields.true)

pub none_shared-requires : goal.none_shared-requires
none_shared-requires c = let k = known c.args.t.now
    (sym c.well_formed-2.ensures.says ∙ c.if-not-well_formed.false)
    c.read-h.result c.read-h.ensures in record {
      table_known = k.0.0;
      len_bound = k.1;
    }

pub returns-then-not-none_shared : goal.returns-then-not-none_shared
unfolding import_said
returns-then-not-none_shared c =
    shared_place _ _ _ _ (sym c.well_formed-2.ensures.says ∙ c.if-not-well_formed.false)
    (sym c.yields.ensures ∙ c.if-not-yields.false)
    (shared_said c.args.t.now (sym c.well_formed-2.ensures.says
    ∙ c.if-not-well_formed.false) c.read-h.result
    c.read-h.ensures c.none_shared.ensures c.if-not-none_shared.true)

pub import_tested-requires : goal.import_tested-requires
import_tested-requires c =
    let k = known c.args.t.now (sym c.well_formed-2.ensures.says ∙ c.if-not-well_formed.false) c.read-h.result c.read-h.ensures in record {
      table_known = k.0;
      len_bound = k.1;
    }

pub returns : goal.returns
returns c =
    as_said _ _ _ _ (sym c.well_formed-2.ensures.says ∙ c.if-not-well_formed.false)
    (sym c.yields.ensures ∙ c.if-not-yields.false) (shared_said
    c.args.t.now (sym c.well_formed-2.ensures.says
    ∙ c.if-not-well_formed.false) c.read-h.result c.read-h.ensures
    c.none_shared.ensures c.if-not-none_shared.false)
    c.import_tested.ensures
