use mathlib.Core.Path.{◌≡◌, sym, ◌∙◌}
use lib.ListN.{length}
use Rattle.values.specs.Room.{holds}
use Rattle.values.proofs.Rooms.{unless_on, unless_told}
use Rattle.entries.proofs.Heads.{none}
use Rattle.entries.proofs.Entries.{Known, known, measure_here, stood_here, stored_here, stood_not, stored_not}
use Rattle.entries.proofs.rest_then.Goals as goal
use Rattle.entries.proofs.rest_then.Goals.{After-end_variable-end}

-- what was told, behind the call
known_here : (c : After-end_variable-end)
    → Known c.args.d.now c.args.h
    c.args.before c.args.lines.now c.rest_on.new.lines
    c.in-Ok.r
known_here c =
    let a = c.args in
    let p = c.requires in
    let e = unless_told c.rest_on.ensures (λ s. let q = sym s ∙ c.in-Ok.is in none cc) in
    known a.d.now a.h a.before p.d_len_bound p.before_in_bounds.1 p.good_head a.lines.now _ p.before_in_bounds.0
    c.rest_on.auto.lines _ _ e.0 e.1 c.in-Ok.is

-- the room is as long as before
kept_here : (c : After-end_variable-end)
    → length c.rest_on.new.lines
    ≡ length c.args.lines.now
kept_here c = c.rest_on.auto.lines

pub settle-requires : goal.settle-requires
settle-requires c =
    let a = c.args in
    let p = c.requires in record {
      tens = p.tens;
      measurable = measure_here a.d.now a.h a.before p.d_len_bound p.before_in_bounds.1 p.good_head a.lines.now _
          p.before_in_bounds.0 (kept_here c) _ (known_here c);
    }

pub returns-in-Ok : goal.returns-in-Ok
returns-in-Ok c =
    let a = c.args in
    let p = c.requires in
    let k = known_here (goal.at.returns-in-Ok c).After-end_variable-end in
    let e = kept_here (goal.at.returns-in-Ok c).After-end_variable-end in
    holds (
      stood_here a.d.now a.h a.before p.d_len_bound p.before_in_bounds.1 p.good_head a.lines.now _ p.before_in_bounds.0 e _ k
          _ _ c.end_variable-end.ensures c.settle.ensures,
      stored_here a.d.now a.h a.before p.d_len_bound p.before_in_bounds.1 p.good_head a.lines.now _ p.before_in_bounds.0 e _
          k,
    )

pub returns-in-Err : goal.returns-in-Err
returns-in-Err c =
    let a = c.args in
    let g = c.in-Err.is in
    unless_on (λ s. let q = sym g ∙ s in cc) (λ l. l)
    (λ e. (stood_not a.d.now a.h a.before _ _ e.0 g, stored_not a.d.now a.h a.before _ _ _ _ e.0 g))
    c.rest_on.ensures
