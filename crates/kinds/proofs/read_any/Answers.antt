use mathlib.Core.Path.{refl, ap, ◌∙◌}
use lib.ListN.{length}
use Rattle.values.proofs.Rooms.{unless_full}
use Rattle.definition.proofs.Wholes.{none_lacking}
use Rattle.kinds.specs.rule.Definition.{answer_of, table_after}
use Rattle.kinds.specs.Code.{mark_of}
use Rattle.kinds.proofs.Rooms.{mark_low, filled_says, filled_leaves}
use Rattle.kinds.proofs.read_any.Goals as goal

pub read_rooms-requires : goal.read_rooms-requires
read_rooms-requires c = (c.requires.0, λ e. (refl, refl))

pub fill-requires : goal.fill-requires
fill-requires c =
    let w = unless_full c.read_rooms.ensures (none_lacking refl refl) in
    let s = w.stands c.in-Held.is in record {
      mark_le_mark_xml = rw c.mark_of-mark.ensures (mark_low _);
      rows_le_most_rows = s.few;
      rows_in_bounds = s.fit;
    }

pub returns-in-Held : goal.returns-in-Held
returns-in-Held c =
    let t = c.args.table.now in
    let w = unless_full c.read_rooms.ensures (none_lacking refl refl) in
    let s = w.stands c.in-Held.is in
    let q = c.fill.ensures in
    let m = c.mark_of-mark.ensures ∙ ap mark_of c.requires.1 in
    record { says = q.value ∙ filled_says _ _ _ _ _ s t; leaves = q.table_after ∙ rw m (filled_leaves _ _ _ _ _ s t) }

pub returns-in-Refused : goal.returns-in-Refused
unfolding answer_of table_after
returns-in-Refused c =
    let t = c.args.table.now in
    let w = unless_full c.read_rooms.ensures (none_lacking refl refl) in
    let q = w.refuses c.in-Refused.is (length t) in
    record { says = rw q; leaves = rw q }
