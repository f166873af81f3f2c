use mathlib.Core.Path.{sym, ◌∙◌}
use native.Mathlib.Omega.{arith}
use Rattle.below.specs.Below.{holds_not}
use Rattle.layout.specs.rule.Layout.{line_base, most_rows, most_lines}
use Rattle.values.specs.Room.{holds}
use Rattle.values.proofs.Rooms.{unless_on, unless_told}
use Rattle.kinds.specs.rule.Against.{against_of}
use Rattle.kinds.proofs.Rooms.{never, plain_mark, refused_against, held_says}
use Rattle.kinds.proofs.judge_few.Goals as goal

pub read_rooms-requires : goal.read_rooms-requires
read_rooms-requires c =
    let p = c.requires in
    (p.0, λ e. holds_not e p.1)

pub compare-requires : goal.compare-requires
compare-requires c =
    let g = c.in-Held.is in
    let w = unless_told c.read_rooms.ensures
    (λ s. let q = sym s ∙ g in never cc) in record {
      mark_le_mark_xml = omega arith;
      rows_le_most_rows = (w.stands g).few;
      rows_in_bounds = (w.stands g).fit;
    }

pub returns-in-Held : goal.returns-in-Held
unfolding against_of
returns-in-Held c =
    let g = c.in-Held.is in
    let w = unless_told c.read_rooms.ensures (λ s. let q = sym s ∙ g in never cc) in
    let s = rw (plain_mark _ c.requires.1) at (w.stands g) in
    holds (c.compare.ensures ∙ held_says _ _ _ _ _ s c.args.t.now)

pub returns-in-Refused : goal.returns-in-Refused
unfolding against_of
returns-in-Refused c =
    let g = c.in-Refused.is in
    unless_on (λ s. refused_against (sym g ∙ s)) (λ l. tt) (λ w. let q = w.refuses g (line_base most_rows most_lines) in rw q)
    c.read_rooms.ensures
