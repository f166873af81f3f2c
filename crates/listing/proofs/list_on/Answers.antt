-- `listing::list_on` meets its contract: by the record that starts at the place, or by the end of the data.
use mathlib.Core.Path.{sym, ◌∙◌}
use native.Mathlib.Omega.{arith}
use lib.ListN.{drop}
use Rattle.sound.specs.rule.Rows.{length_of}
use Rattle.records.specs.Tables.{table_ready}
use Rattle.cuts.specs.rule.Records.{records_from}
use Rattle.cuts.specs.Records.{EndedAt, next_ended, next_unended, next_nothing, over_past}
use Rattle.files.specs.rule.File.{file_said}
use Rattle.listing.specs.Turns.{count_in}
use Rattle.listing.specs.Places.{listed_record, listed_unended, listed_over}
use Rattle.listing.proofs.list_on.Goals as goal
use Rattle.listing.proofs.list_on.Goals.{In-Ended}

-- what was found of the record that starts here
ended : (c : In-Ended) → let a = c.args in
    EndedAt a.d.now a.w a.p.from (records_from a.w (drop a.p.from a.d.now)) c.in-Ended.start
    c.in-Ended.end c.in-Ended.next
ended c = let a = c.args in
    next_ended a.d.now a.w a.p.from (sym c.next_from.ensures ∙ c.in-Ended.is)

pub slice_bounds-take_record-count : goal.slice_bounds-take_record-count
slice_bounds-take_record-count c = omega (arith, (ended c).starts, (ended c).after, (ended c).inside)

pub slice_bounds-take_record-start : goal.slice_bounds-take_record-start
slice_bounds-take_record-start c = omega (arith, (ended c).starts, (ended c).after, (ended c).inside)

pub slice_bounds-take_record-end : goal.slice_bounds-take_record-end
slice_bounds-take_record-end c = omega (arith, (ended c).starts, (ended c).after, (ended c).inside)

pub take_record-a-requires : goal.take_record-a-requires
take_record-a-requires c = let p = c.requires in record {
  ready = p.ready;
  n_bound = (omega (arith, p.found.1, p.found.2.few), p.found.3);
}

pub turn_of-requires : goal.turn_of-requires
turn_of-requires c = let p = c.requires in omega (arith, p.found.1, p.found.2.few)

pub append_last-requires : goal.append_last-requires
unfolding count_in file_said
append_last-requires c = let p = c.requires in record {
  tens = (
    p.ready.0.tens,
    p.ready.0.tested,
  );
  j_bound = (omega (arith, p.found.1, p.found.2.few), p.found.3);
}

pub append_last-requires-in-Nothing : goal.append_last-requires-in-Nothing
unfolding count_in file_said
append_last-requires-in-Nothing c = let p = c.requires in record {
  tens = (p.ready.0.tens, p.ready.0.tested);
  j_bound = (omega (arith, p.found.1, p.found.2.few), p.found.3);
}

pub returns-in-Ended : goal.returns-in-Ended
returns-in-Ended c =
    let p = c.requires in
    let a = c.args in
    let f = (table_ready a.t.now p.ready.0.tested.good (length_of a.t.now) (omega arith)).few in
    listed_record a.t.now a.w a.d.now a.p p.found.2 f
    (ended (goal.at.returns-in-Ended c).In-Ended) c.turn_of.ensures c.take_record-a.ensures

pub returns-in-Unended : goal.returns-in-Unended
unfolding file_said
returns-in-Unended c =
    let p = c.requires in
    let a = c.args in
    let f = (table_ready a.t.now p.ready.0.tested.good (length_of a.t.now) (omega arith)).few in
    let u = next_unended a.d.now a.w a.p.from (sym c.next_from.ensures
    ∙ c.in-Unended.is) in
    listed_unended a.t.now a.w a.d.now a.p p.found.2 f u.records c.append_last.ensures

pub returns-in-Nothing : goal.returns-in-Nothing
unfolding file_said
returns-in-Nothing c =
    let p = c.requires in
    let a = c.args in
    let f = (table_ready a.t.now p.ready.0.tested.good (length_of a.t.now) (omega arith)).few in
    let o = over_past a.d.now a.w a.p.from (next_nothing a.d.now a.w a.p.from (sym c.next_from.ensures
    ∙ c.in-Nothing.is)) in
    listed_over a.t.now a.w a.d.now a.p p.found.2 f o c.append_last-in-Nothing.ensures

pub next_from-requires : goal.next_from-requires
next_from-requires c = c.requires.found.0.few

pub overflow_add-p : goal.overflow_add-p
overflow_add-p c = let p = c.requires in omega (arith, p.found.1, p.found.2.few)
