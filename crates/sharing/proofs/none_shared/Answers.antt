-- `sharing::none_shared` meets its contract: rows that follow one another, few stamps, or all.
use mathlib.Core.Path.{sym}
use Rattle.sharing.proofs.RowSteps.{zeros}
use Rattle.sharing.proofs.none_shared.Goals as goal

pub rows_follow-requires : goal.rows_follow-requires
rows_follow-requires c = c.requires.table_known

pub returns-then-rows_follow : goal.returns-then-rows_follow
returns-then-rows_follow c = sym (c.rows_follow.ensures c.if-rows_follow.true)

pub rows_apart-requires : goal.rows_apart-requires
rows_apart-requires c = record {
  table_known = c.requires.table_known;
  len_in_bounds = c.if-len-le-SHORT.true;
  by_index = λ q. zeros 256 q;
}

pub returns-then-len-le-SHORT : goal.returns-then-len-le-SHORT
returns-then-len-le-SHORT c = c.rows_apart.ensures

pub rows_apart-requires-2 : goal.rows_apart-requires-2
rows_apart-requires-2 c = record {
  table_known = c.requires.table_known;
  len_in_bounds = c.requires.len_bound;
  by_index = λ q. zeros 16384 q;
}

pub returns : goal.returns
returns c = c.rows_apart-2.ensures
