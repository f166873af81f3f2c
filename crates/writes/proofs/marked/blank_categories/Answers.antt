-- `writes::marked::blank_categories` meets its contract: the places of all categories are one run, or what `write_multiple` does.
use mathlib.Core.Path.{refl, ◌∙◌}
use native.Mathlib.Omega.{arith}
use Rattle.fields.specs.rule.Row.{places_by}
use Rattle.writes.specs.rule.Write.{lent_value}
use Rattle.writes.proofs.Cases.{blanked, as_given, each_blank}
use Rattle.writes.proofs.marked.blank_categories.Goals as goal

pub blank-requires : goal.blank-requires
blank-requires c = let p = c.requires in omega (arith, p.from_one, p.kind.room, p.inside)

pub returns-then-lines_count : goal.returns-then-lines_count
unfolding places_by
returns-then-lines_count c = blanked (c.blank.ensures
    ∙ each_blank _ _ _ _ (c.lines_count.ensures c.if-lines_count.true) _
    _)

pub returns : goal.returns
unfolding lent_value
returns c = as_given refl c.write_multiple.ensures

pub lines_count-requires : goal.lines_count-requires
lines_count-requires c = record {
  line_facts = c.requires.lines;
  w_bound = c.requires.kind.few;
}

pub write_multiple-requires : goal.write_multiple-requires
write_multiple-requires c = record {
  tens = c.powers-powers.ensures;
  ready = c.requires;
}
