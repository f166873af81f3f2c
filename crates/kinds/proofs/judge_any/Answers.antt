use mathlib.Core.Path.{refl, ap, ◌∙◌}
use Rattle.layout.specs.rule.Layout.{line_base, most_rows, most_lines}
use Rattle.values.proofs.Rooms.{unless_full}
use Rattle.definition.proofs.Wholes.{none_lacking}
use Rattle.kinds.specs.rule.Against.{against_of}
use Rattle.kinds.specs.Code.{mark_of}
use Rattle.kinds.proofs.Rooms.{mark_low, held_says}
use Rattle.kinds.proofs.judge_any.Goals as goal

pub read_rooms-requires : goal.read_rooms-requires
read_rooms-requires c = (c.requires.0, λ e. (refl, refl))

pub compare-requires : goal.compare-requires
compare-requires c =
    let w = unless_full c.read_rooms.ensures (none_lacking refl refl) in
    let s = w.stands c.in-Held.is in record {
      mark_le_mark_xml = rw c.mark_of-mark.ensures (mark_low _);
      rows_le_most_rows = s.few;
      rows_in_bounds = s.fit;
    }

pub returns-in-Held : goal.returns-in-Held
unfolding against_of
returns-in-Held c =
    let w = unless_full c.read_rooms.ensures (none_lacking refl refl) in
    let s = w.stands c.in-Held.is in
    let m = c.mark_of-mark.ensures ∙ ap mark_of c.requires.1 in
    c.compare.ensures ∙ rw m (held_says _ _ _ _ _ s c.args.t.now)

pub returns-in-Refused : goal.returns-in-Refused
unfolding against_of
returns-in-Refused c =
    let w = unless_full c.read_rooms.ensures (none_lacking refl refl) in
    let q = w.refuses c.in-Refused.is (line_base most_rows most_lines) in
    rw q
