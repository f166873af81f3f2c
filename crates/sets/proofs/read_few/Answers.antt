-- `sets::read_few` meets its contract: spaces, a wrong subfield, or the numbers that the subfields hold.
use mathlib.Core.Path.{sym, ◌∙◌}
use Prim.Native.Nat.{◌-◌}
use native.Mathlib.Omega.{arith}
use lib.ListN.{length}
use Rattle.sets.specs.Sets.{SpreadRoom}
use Rattle.sets.proofs.SetLaws.{read_missing, read_illegal, as_read, spread_missing, spread_wrong}
use Rattle.sets.proofs.FewLaws.{gathered_small, gathered_set}
use Rattle.sets.proofs.read_few.Goals as goal
use Rattle.sets.proofs.read_few.Goals.{Start}

-- the subfields lie in the record
room : (c : Start) → SpreadRoom (c.args.row.start - 1) c.args.b c.args.row.width c.args.n (length c.args.bytes.now)
room c = record {
  few = c.requires.fields_facts.few;
  holds = c.requires.fields_facts.holds;
  inside = let h = c.requires.fields_facts.inside in let g = c.requires.fields_facts.from_one in
      omega arith;
}

pub returns-then-spread_blank : goal.returns-then-spread_blank
returns-then-spread_blank c = read_missing _ _ (spread_missing _ _ _ _ (sym c.spread_blank.ensures ∙ c.if-spread_blank.true))

pub list_kept-requires : goal.list_kept-requires
list_kept-requires c =
    let g = rw c.in-Some.is at c.gather.ensures in record {
      count_in_bounds = g.few;
      by_index = gathered_small _ _ _ _ _ _ g
          c.requires.fields_facts.few;
    }

pub returns-in-Some : goal.returns-in-Some
returns-in-Some c =
    as_read (gathered_set _ _ _ _ _ _ (rw c.in-Some.is at c.gather.ensures)
    (sym c.spread_blank.ensures ∙ c.if-spread_blank.false)) c.list_kept.ensures

pub returns-in-None : goal.returns-in-None
returns-in-None c =
    read_illegal _ _ (spread_wrong _ _ _ _ (sym c.spread_blank.ensures
    ∙ c.if-spread_blank.false) (rw c.in-None.is at c.gather.ensures))

pub overflow_sub-at : goal.overflow_sub-at
overflow_sub-at c = let h = c.requires.fields_facts.from_one in omega arith

pub spread_blank-requires : goal.spread_blank-requires
spread_blank-requires c = room (goal.at.spread_blank-requires c).Start

pub gather-requires : goal.gather-requires
gather-requires c = record {
  line_facts = c.requires.fields_facts.lines;
  spread_room = room (goal.at.gather-requires c).Start;
  n_in_bounds = c.requires.n_in_bounds;
}
