-- `listing::take_record` meets its contract: judged before its first row, listed as far as there is room.
use mathlib.Core.Path.{◌≡◌, sym, ap, ◌∙◌}
use native.Mathlib.Omega.{arith}
use Rattle.files.specs.rule.File.{record_verdict, is_sound}
use Rattle.files.specs.File.{sound_so_far, so_far}
use Rattle.files.specs.Tested.{tested_length}
use Rattle.listing.specs.rule.Listing.{last_text}
use Rattle.listing.specs.Turns.{count_in, sound_long, taken_first, taken_fault, taken_more, taken_short, count_on}
use Rattle.lines.specs.Appended.{as_text}
use Rattle.listing.proofs.take_record.Goals as goal
use Rattle.listing.proofs.take_record.Goals.{After-goes_on}

-- the file goes on where the record is sound
going : (c : After-goes_on) → let args = c.args in
    c.goes_on.result ≡ is_sound (record_verdict args.t.now c.first_length-size.result
    args.bytes.now)
going c =
    let a = c.args in
    c.goes_on.ensures ∙ ap sound_so_far c.judge_one-j.ensures
    ∙ so_far (record_verdict a.t.now c.first_length-size.result a.bytes.now) a.n

pub take_rows-requires : goal.take_rows-requires
take_rows-requires c =
    let p = c.requires in
    let a = c.args in
    let e = sym (going (goal.at.take_rows-requires c).After-goes_on) ∙ c.if-goes_on.true in record {
      ready = p.ready.0;
      n_bound = (
        p.n_bound.0,
        rw (tested_length p.ready.0.tested) (sound_long a.t.now c.first_length-size.result a.bytes.now e),
        p.n_bound.1,
      );
    }

pub returns-then-goes_on : goal.returns-then-goes_on
returns-then-goes_on c =
    let a = c.args in
    taken_first a.t.now a.n a.first a.bytes.now c.first_length-size.ensures c.if-row-eq0.true
    (sym (going (goal.at.returns-then-goes_on c).After-goes_on)
    ∙ c.if-goes_on.true) c.take_rows.ensures

pub append_last-requires : goal.append_last-requires
append_last-requires c =
    let p = c.requires in
    let a = c.args in
    let e = ap count_in c.judge_one-j.ensures
    ∙ count_on (record_verdict a.t.now c.first_length-size.result a.bytes.now) a.n in record {
      tens = (p.ready.0.tens, p.ready.0.tested);
      j_bound = (rw e p.n_bound.0, p.n_bound.1);
    }

pub returns-then-row-eq0 : goal.returns-then-row-eq0
returns-then-row-eq0 c =
    let a = c.args in
    taken_fault a.t.now a.n a.first a.bytes.now c.first_length-size.ensures c.if-row-eq0.true
    (sym (going (goal.at.returns-then-row-eq0 c).After-goes_on) ∙ c.if-goes_on.false) (as_text c.append_last.ensures
    (ap (last_text a.t.now) c.judge_one-j.ensures))

pub returns-then-bytes-h : goal.returns-then-bytes-h
returns-then-bytes-h c =
    let p = c.requires in
    let a = c.args in
    taken_short a.t.now a.n a.first a.row a.bytes.now _ _ c.if-row-eq0.false
    (rw (tested_length p.ready.0.tested) at c.if-bytes-h.true) (omega (arith, p.n_bound.1))

pub take_rows-requires-2 : goal.take_rows-requires-2
take_rows-requires-2 c = let p = c.requires in record {
  ready = p.ready.0;
  n_bound = (p.n_bound.0, c.if-bytes-h.false, p.n_bound.1);
}

pub returns : goal.returns
returns c =
    let p = c.requires in
    let a = c.args in
    taken_more a.t.now a.n a.first a.bytes.now c.if-row-eq0.false
    (rw (tested_length p.ready.0.tested) at c.if-bytes-h.false) c.take_rows-2.ensures
