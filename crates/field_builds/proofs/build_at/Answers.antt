-- `field_builds::build_at` meets its contract.
use Rattle.field_builds.proofs.build_at.Goals as goal

pub build_code-requires : goal.build_code-requires
build_code-requires c = record {
  tens = c.requires.tens;
  ready = (c.requires.ready, c.in-Single.is);
}

pub build_set-requires : goal.build_set-requires
build_set-requires c = record {
  tens = c.requires.tens;
  ready = (c.requires.ready, c.in-Multiple.is);
  each_legal = c.requires.each_legal;
}

pub build_amount-requires : goal.build_amount-requires
build_amount-requires c = record {
  tens = c.requires.tens;
  ready = (c.requires.ready, c.in-Quantity.is);
}

pub build_text-requires : goal.build_text-requires
build_text-requires c = (
  c.requires.ready,
  c.requires.each_legal.1,
)

pub build_truth-requires : goal.build_truth-requires
build_truth-requires c = c.requires.ready

pub returns-in-Single : goal.returns-in-Single
returns-in-Single c = c.build_code.ensures

pub returns-in-Multiple : goal.returns-in-Multiple
returns-in-Multiple c = c.build_set.ensures

pub returns-in-Quantity : goal.returns-in-Quantity
returns-in-Quantity c = c.build_amount.ensures

pub returns-in-Character : goal.returns-in-Character
returns-in-Character c = c.build_text.ensures

pub returns-in-Logical : goal.returns-in-Logical
returns-in-Logical c = c.build_truth.ensures
