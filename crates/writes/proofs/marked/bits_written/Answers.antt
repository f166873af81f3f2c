-- `writes::marked::bits_written` meets its contract.
use Prim.Native.Nat.{◌+◌, ◌≤◌}
use native.Mathlib.Omega.{arith}
use Rattle.writes.proofs.Cases.{prefix}
use Rattle.writes.proofs.marked.bits_written.Goals as goal

pub slice_bounds-bits_set-end-then-k-le-SHORT : goal.slice_bounds-bits_set-end-then-k-le-SHORT
slice_bounds-bits_set-end-then-k-le-SHORT c = prefix _ 128 c.if-k-le-SHORT.true

pub bits_set-requires-then-k-le-SHORT : goal.bits_set-requires-then-k-le-SHORT
bits_set-requires-then-k-le-SHORT c =
    let few : c.args.row.width + 1 ≤ 128 = c.if-k-le-SHORT.true in record {
      ready = c.requires;
      marks_len_bound = rw (← prefix (c.args.row.width + 1) 128 few) (omega arith);
    }

pub slice_bounds-bits_set-end-2 : goal.slice_bounds-bits_set-end-2
slice_bounds-bits_set-end-2 c = prefix _ 10000 (omega (arith, c.requires.kind.few))

pub bits_set-requires-2 : goal.bits_set-requires-2
bits_set-requires-2 c =
    let few : c.args.row.width + 1 ≤ 10000 = omega (arith, c.requires.kind.few) in record {
      ready = c.requires;
      marks_len_bound = rw (← prefix (c.args.row.width + 1) 10000 few) few;
    }

pub each_fits-requires : goal.each_fits-requires
each_fits-requires c = record {
  line_facts = c.requires.lines;
  w_bound = c.requires.kind.few;
}

pub bits_full-requires : goal.bits_full-requires
bits_full-requires c = record {
  ready = c.requires;
  each_fits = c.each_fits.ensures c.if-each_fits.true;
}

pub range_has-requires : goal.range_has-requires
range_has-requires c = c.requires.kind.few

pub slice_bounds-marks-end : goal.slice_bounds-marks-end
slice_bounds-marks-end c = omega (arith, c.requires.kind.few)
