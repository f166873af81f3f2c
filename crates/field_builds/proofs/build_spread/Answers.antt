-- `field_builds::build_spread` meets its contract.
use mathlib.Core.Path.{◌≡◌, refl, sym, ap, ◌∙◌}
use native.Mathlib.Omega.{arith}
use borrow.Author.Rules.{rules}
use borrow.Author.Tests.{not-false}
use lib.Seq.{length-take-le}
use mir.Syntax.{w64}
use mir.Val.{to_z, of_z}
use Rattle.cells.specs.rule.Cell.{count_of}
use Rattle.field_values.specs.Quick.{ready_as, written_as}
use Rattle.field_judges.specs.Judged.{range_between}
use Rattle.field_builds.specs.Built.{built_none, built_some, write_kept, set_built, members_fit}
use Rattle.field_builds.proofs.build_spread.Goals as goal
use Rattle.field_builds.proofs.build_spread.Goals.{After-struct_told-1, After-struct_told-2-1}

-- the row's numbers are read back from their bits as they are
from_back : (c : After-struct_told-1) → to_z w64 (of_z w64 c.args.row.from)
    ≡ c.args.row.from
from_back c = search rules

to_back : (c : After-struct_told-2-1) → to_z w64 (of_z w64 c.args.row.to)
    ≡ c.args.row.to
to_back c = search rules

pub returns-then-not-row : goal.returns-then-not-row
returns-then-not-row c = built_none refl

pub returns-then-low-eq0 : goal.returns-then-low-eq0
returns-then-low-eq0 c = built_none refl

pub returns-then-high-gt9999 : goal.returns-then-high-gt9999
returns-then-high-gt9999 c = built_none refl

pub codes_in-a-requires : goal.codes_in-a-requires
codes_in-a-requires c = (
  c.requires.at_in_bounds.0,
  omega (arith, c.if-low-eq0.false),
  omega (arith, c.if-high-gt9999.false),
  c.requires.at_in_bounds.1,
)

pub returns-then-n-eq0 : goal.returns-then-n-eq0
returns-then-n-eq0 c = built_none refl

pub returns-then-not-stops : goal.returns-then-not-stops
returns-then-not-stops c = built_none refl

pub slice_bounds-spread_full-end : goal.slice_bounds-spread_full-end
slice_bounds-spread_full-end c = let k = c.codes_in-a in
    omega (
      arith,
      k.auto.list,
      c.requires.at_in_bounds.1,
      k.ensures.short,
    )

pub slice_bounds-spread_full-end-2 : goal.slice_bounds-spread_full-end-2
slice_bounds-spread_full-end-2 c =
    let k = c.codes_in-a in
    sym (length-take-le _ _ (omega (
      arith,
      k.auto.list,
      c.requires.at_in_bounds.1,
      k.ensures.short,
    )))

pub spread_full-requires : goal.spread_full-requires
spread_full-requires c =
    let low-is = c.count_of-low.ensures
    ∙ ap count_of
    (from_back
    (goal.at.spread_full-requires c).After-struct_told-1) in
    let high_is = c.count_of-high.ensures
    ∙ ap count_of (to_back (goal.at.spread_full-requires c).After-struct_told-2-1) in record {
      tens = c.requires.tens;
      ready = ready_as c.requires.ready.1
          c.requires.ready.0;
      members_value = members_fit _ _ _ c.codes_in-a.ensures
          c.if-n-eq0.false
          (λ x l h. range_between _ _ _ (not-false _
          c.if-not-row.false)
          (omega (arith, high_is, c.if-high-gt9999.false)) x
          (omega (arith, l, low-is)) (omega (arith, h, high_is)));
    }

pub returns-then-not-is_done : goal.returns-then-not-is_done
returns-then-not-is_done c = built_none
    (write_kept
    (written_as
    c.requires.ready.1 c.spread_full.ensures)
    c.is_done.ensures c.if-not-is_done.true)

pub overflow_add-result : goal.overflow_add-result
overflow_add-result c = let stop = c.stops.ensures
    c.if-not-stops.false in
    omega (
      arith,
      stop.within,
      c.well_formed.1.1.1.1.1.1.0,
    )

pub returns : goal.returns
returns c =
    let stop = c.stops.ensures c.if-not-stops.false in
    built_some (set_built stop c.is_done.ensures c.if-not-is_done.false
    (c.codes_in-a.ensures.reads c.if-n-eq0.false) (written_as
    c.requires.ready.1 c.spread_full.ensures))
