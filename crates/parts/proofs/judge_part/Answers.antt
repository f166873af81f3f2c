-- `parts::judge_part` meets its contract: the table, the terminator's number, and then the records.
use mathlib.Core.Path.{sym, ◌∙◌}
use Rattle.files.specs.rule.File.{file_said}
use Rattle.parts.specs.rule.Part.{part_said}
use Rattle.parts.specs.Part.{numbered_ending, part_bad, part_none, part_judged}
use Rattle.parts.proofs.judge_part.Goals as goal

pub returns-then-not-well_formed : goal.returns-then-not-well_formed
unfolding part_said file_said
returns-then-not-well_formed c = record { says = sym (part_bad _ _ _ _ _ (sym c.well_formed-2.ensures.says ∙ c.if-not-well_formed.true)) }

pub returns-then-w-eq0 : goal.returns-then-w-eq0
unfolding part_said
returns-then-w-eq0 c = record {
  says = sym (part_none _ _ _ _ _
      (sym c.well_formed-2.ensures.says ∙ c.if-not-well_formed.false)
      c.terminator_of-w.ensures c.if-w-eq0.true);
}

pub judge_behind-requires : goal.judge_behind-requires
judge_behind-requires c = record {
  tested = record {
    good = sym c.well_formed-2.ensures.says
        ∙ c.if-not-well_formed.false;
    head = c.read-h.ensures;
  };
  ending = rw c.terminator_of-w.ensures (numbered_ending _);
}

pub returns : goal.returns
unfolding part_said
returns c = record {
  says = part_judged _ _ _ _ _
      (sym c.well_formed-2.ensures.says
      ∙ c.if-not-well_formed.false) c.terminator_of-w.ensures
      c.if-w-eq0.false c.judge_behind.ensures;
}
