use mathlib.Core.Path.{◌∙◌, sym, ap}
use mir.Facts.{to_z-of_z}
use Rattle.values.specs.Room.{slot_of}
use Rattle.values.proofs.Facts.{none_marked}
use Rattle.values.proofs.said_before.Goals as goal

pub returns-then-mark-stamp : goal.returns-then-mark-stamp
returns-then-mark-stamp c =
    let p = c.requires in
    none_marked _ _ _ _ _ _ p.marked (c.slot_of-slot.ensures.0 ∙ ap slot_of (sym p.z_value)) c.if-mark-stamp.true

pub returns : goal.returns
returns c = rw (c.repeated.ensures, to_z-of_z c.ranges.z)

pub repeated-requires : goal.repeated-requires
repeated-requires c = c.requires.last_in_bounds
