-- `import_names::name_one` meets its contract, case by case.
use native.Mathlib.Omega.{arith}
use Rattle.import_names.specs.Names.{one_bad, one_over, one_same, one_other, row_stands}
use Rattle.import_names.proofs.name_one.Goals as goal

pub returns-then-bad-ne0 : goal.returns-then-bad-ne0
returns-then-bad-ne0 c = one_bad _ _ _ _ _ c.if-bad-ne0.true

pub overflow_add-result : goal.overflow_add-result
overflow_add-result c = omega (arith, c.requires.rows_le_most_rows.2)

pub returns-then-rows-j : goal.returns-then-rows-j
returns-then-rows-j c = one_over _ _ _ _ _ c.if-bad-ne0.false c.if-rows-j.true

pub place_at-place-requires : goal.place_at-place-requires
place_at-place-requires c = row_stands c.args.t.now c.requires.rows_le_most_rows.0
    c.requires.rows_le_most_rows.1 c.if-rows-j.false

pub long_at-long-requires : goal.long_at-long-requires
long_at-long-requires c = row_stands c.args.t.now
    c.requires.rows_le_most_rows.0 c.requires.rows_le_most_rows.1 c.if-rows-j.false

pub returns-then-same_name : goal.returns-then-same_name
returns-then-same_name c = one_same _ _ _ _ _ c.if-bad-ne0.false c.if-rows-j.false
    c.place_at-place.ensures c.long_at-long.ensures c.same_name.ensures c.if-same_name.true

pub overflow_add-result-2 : goal.overflow_add-result-2
overflow_add-result-2 c = omega (arith, c.requires.rows_le_most_rows.2)

pub returns : goal.returns
returns c = one_other _ _ _ _ _ c.if-bad-ne0.false c.if-rows-j.false
    c.place_at-place.ensures c.long_at-long.ensures c.same_name.ensures c.if-same_name.false
