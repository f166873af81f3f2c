-- `writes::marked::bits_blanked` meets its contract.
use mathlib.Core.Path.{sym, ◌∙◌}
use Prim.Native.Nat.{◌+◌, ◌≤◌}
use native.Mathlib.Omega.{arith}
use Rattle.fields.specs.rule.Row.{places_by}
use Rattle.writes.proofs.Cases.{blanked, prefix}
use Rattle.writes.proofs.marked.bits_blanked.Goals as goal

pub blank_all-requires : goal.blank_all-requires
blank_all-requires c = record {
  w_value = sym c.range_has.ensures ∙ c.if-range_has.true;
  bitstring = record { few = c.requires.kind.few; inside = omega arith };
}

pub returns-then-range_has : goal.returns-then-range_has
unfolding places_by
returns-then-range_has c = blanked c.blank_all.ensures

pub slice_bounds-bits_missing-end : goal.slice_bounds-bits_missing-end
slice_bounds-bits_missing-end c = prefix _ 128 c.if-k-le-SHORT.true

pub bits_missing-requires : goal.bits_missing-requires
bits_missing-requires c =
    let few : c.args.row.width + 1 ≤ 128 = c.if-k-le-SHORT.true in record {
      ready = c.requires;
      marks_len_bound = rw (← prefix (c.args.row.width + 1) 128 few) (omega arith);
    }

pub slice_bounds-bits_missing-end-2 : goal.slice_bounds-bits_missing-end-2
slice_bounds-bits_missing-end-2 c = prefix _ 10000 (omega (arith, c.requires.kind.few))

pub bits_missing-requires-2 : goal.bits_missing-requires-2
bits_missing-requires-2 c =
    let few : c.args.row.width + 1 ≤ 10000 = omega (arith, c.requires.kind.few) in record {
      ready = c.requires;
      marks_len_bound = rw (← prefix (c.args.row.width + 1) 10000 few) few;
    }

pub range_has-requires : goal.range_has-requires
range_has-requires c = c.requires.kind.few

pub slice_bounds-marks-end : goal.slice_bounds-marks-end
slice_bounds-marks-end c = omega (arith, c.requires.kind.few)
