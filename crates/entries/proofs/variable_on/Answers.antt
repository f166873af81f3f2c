use mathlib.Core.Path.{refl}
use Rattle.values.specs.Room.{holds}
use Rattle.entries.specs.Entry.{stood_of}
use Rattle.entries.proofs.Heads.{none}
use Rattle.entries.proofs.Entries.{good_head, entry_is_lem, entry_not}
use Rattle.entries.proofs.variable_on.Goals as goal

pub rest_then-requires : goal.rest_then-requires
rest_then-requires c =
    let p = c.requires in record {
      classes = p.classes;
      tens = p.tens;
      d_len_bound = p.d_len_bound;
      before_in_bounds = p.before_in_bounds;
      good_head = good_head _ _ _ _ c.head_on.ensures c.in-Ok.is;
    }

pub returns-in-Ok : goal.returns-in-Ok
returns-in-Ok c =
    let e = entry_is_lem _ _ _ _ c.args.before _ _ c.ident_on-i.ensures
    c.head_on.ensures _ c.in-Ok.is in
    rw e c.rest_then.ensures

pub returns-in-Err : goal.returns-in-Err
unfolding stood_of
returns-in-Err c =
    let e = entry_not _ _ _ _ c.args.before _ _
    c.ident_on-i.ensures c.head_on.ensures _ c.in-Err.is in
    rw e (holds (refl, record { stored = λ i. none cc }))
