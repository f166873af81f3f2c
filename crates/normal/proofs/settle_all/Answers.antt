-- `normal::settle_all` meets its contract: with little room, with some, or with all.
use mathlib.Core.Logic.{inl, inr}
use Prim.Native.Nat.{◌≤◌}
use native.Mathlib.Omega.{arith}
use Rattle.normal.specs.Settle.{table_settles}
use Rattle.normal.proofs.settle_all.Goals as goal

pub settle_rows-requires : goal.settle_rows-requires
settle_rows-requires c = record {
  tens = c.powers-powers.ensures;
  table_settles = table_settles _ _ c.requires.table_known c.requires.len_in_bounds (inl c.if-len-le-SHORT.true);
}

pub settle_rows-requires-then-len-le-MIDDLING : goal.settle_rows-requires-then-len-le-MIDDLING
settle_rows-requires-then-len-le-MIDDLING c = record {
  tens = c.powers-powers.ensures;
  table_settles = table_settles _ _ c.requires.table_known c.requires.len_in_bounds (inl c.if-len-le-MIDDLING.true);
}

pub settle_rows-requires-2 : goal.settle_rows-requires-2
settle_rows-requires-2 c =
    let h : 9999 ≤ 10000 = omega arith in record {
      tens = c.powers-powers.ensures;
      table_settles = table_settles _ _ c.requires.table_known c.requires.len_in_bounds (inr h);
    }

pub returns-then-len-le-SHORT : goal.returns-then-len-le-SHORT
returns-then-len-le-SHORT c = c.settle_rows.ensures

pub returns-then-len-le-MIDDLING : goal.returns-then-len-le-MIDDLING
returns-then-len-le-MIDDLING c = c.settle_rows-then-len-le-MIDDLING.ensures

pub returns : goal.returns
returns c = c.settle_rows-2.ensures
