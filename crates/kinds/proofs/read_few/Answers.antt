use mathlib.Core.Path.{refl, sym, ◌∙◌}
use native.Mathlib.Omega.{arith}
use lib.ListN.{length}
use Rattle.below.specs.Below.{holds_not}
use Rattle.values.specs.Room.{holds}
use Rattle.values.proofs.Rooms.{unless_on, unless_told}
use Rattle.kinds.specs.rule.Definition.{answer_of, table_after}
use Rattle.kinds.proofs.Rooms.{never, plain_mark, refused_answer, filled_says, filled_leaves}
use Rattle.kinds.proofs.read_few.Goals as goal

pub read_rooms-requires : goal.read_rooms-requires
read_rooms-requires c =
    let p = c.requires in
    (p.0, λ e. holds_not e p.1)

pub fill-requires : goal.fill-requires
fill-requires c =
    let g = c.in-Held.is in
    let w = unless_told c.read_rooms.ensures
    (λ s. let q = sym s ∙ g in never cc) in record {
      mark_le_mark_xml = omega arith;
      rows_le_most_rows = (w.stands g).few;
      rows_in_bounds = (w.stands g).fit;
    }

pub returns-in-Held : goal.returns-in-Held
returns-in-Held c =
    let t = c.args.table.now in
    let g = c.in-Held.is in
    let w = unless_told c.read_rooms.ensures (λ s. let q = sym s ∙ g in never cc) in
    let s = rw (plain_mark _ c.requires.1) at (w.stands g) in
    let q = c.fill.ensures in
    holds (record { says = q.value ∙ filled_says _ _ _ _ _ s t; leaves = q.table_after ∙ filled_leaves _ _ _ _ _ s t })

pub returns-in-Refused : goal.returns-in-Refused
unfolding answer_of table_after
returns-in-Refused c =
    let t = c.args.table.now in
    let g = c.in-Refused.is in
    unless_on (λ s. (refused_answer (sym g ∙ s), refl)) (λ l. tt)
    (λ w. let q = w.refuses g (length t) in record { says = rw q; leaves = rw q }) c.read_rooms.ensures
