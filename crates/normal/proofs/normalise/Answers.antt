-- `normal::normalise` meets its contract: the tests in their order, and then the rows.
use mathlib.Core.Path.{◌≡◌, sym, ◌∙◌}
use mathlib.Core.Bool.{true}
use Rattle.sound.specs.rule.Sound.{well_formed}
use Rattle.records.specs.rule.Verdict.{judged_as}
use Rattle.normal.specs.rule.Normal.{normal_said}
use Rattle.normal.proofs.Steps.{not_formed, known, shared_as, short_as, rows_ready, judged_not, judged_done}
use Rattle.normal.proofs.normalise.Goals as goal
use Rattle.normal.proofs.normalise.Goals.{After-read-h}

-- the table is well formed
good : (c : After-read-h) → well_formed c.args.t.now ≡ true
good c = sym c.well_formed-2.ensures.says ∙ c.if-not-well_formed.false

pub returns-then-not-well_formed : goal.returns-then-not-well_formed
unfolding normal_said judged_as
returns-then-not-well_formed c = not_formed _ _ (sym c.well_formed-2.ensures.says ∙ c.if-not-well_formed.true)

pub returns-then-not-none_shared : goal.returns-then-not-none_shared
unfolding normal_said
returns-then-not-none_shared c = shared_as _ _ (good (goal.at.returns-then-not-none_shared c).After-read-h) _ c.read-h.ensures
    c.none_shared.ensures
    c.if-not-none_shared.true

pub returns-then-bytes-len : goal.returns-then-bytes-len
unfolding normal_said judged_as
returns-then-bytes-len c =
    short_as _ _ (good (goal.at.returns-then-bytes-len c).After-read-h) _ c.read-h.ensures c.none_shared.ensures
    c.if-not-none_shared.false c.if-bytes-len.true

pub returns-then-not-is_sound : goal.returns-then-not-is_sound
unfolding normal_said
returns-then-not-is_sound c =
    judged_not _ _ (good (goal.at.returns-then-not-is_sound c).After-read-h) _ c.read-h.ensures c.none_shared.ensures
    c.if-not-none_shared.false c.if-bytes-len.false
    c.judge-j.ensures c.is_sound.ensures c.if-not-is_sound.true

pub returns : goal.returns
unfolding normal_said
returns c =
    judged_done _ _ (good (goal.at.returns c).After-read-h) _ c.read-h.ensures c.none_shared.ensures
    c.if-not-none_shared.false c.if-bytes-len.false
    c.judge-j.ensures c.is_sound.ensures
    c.if-not-is_sound.false c.settle_all.ensures

pub none_shared-requires : goal.none_shared-requires
none_shared-requires c = record {
  table_known = (known _ (good c) _ c.read-h.ensures).0;
  len_bound = (known _ (good c) _ c.read-h.ensures).1;
}

pub judge-j-requires : goal.judge-j-requires
judge-j-requires c = rows_ready _ c.args.bytes.now
    (good (goal.at.judge-j-requires c).After-read-h) _ c.read-h.ensures c.if-bytes-len.false

pub settle_all-requires : goal.settle_all-requires
settle_all-requires c = record {
  table_known = (known _ (good (goal.at.settle_all-requires c).After-read-h) _
      c.read-h.ensures).0;
  len_in_bounds = c.if-bytes-len.false;
}
