-- `writes::marked::blank_multiple` meets its contract: each arm has what the spread is there.
use mathlib.Core.Path.{ap}
use native.Mathlib.Omega.{arith}
use Rattle.layout.specs.declared.Kind.TheVariants.{Multiple}
use Rattle.fields.specs.rule.Row.{places_by}
use Rattle.writes.proofs.Cases.{blanked, ready_as, written_as}
use Rattle.writes.proofs.marked.blank_multiple.Goals as goal

pub blank_categories-requires : goal.blank_categories-requires
blank_categories-requires c = ready_as (ap Multiple c.in-Bits.is) c.requires

pub blank_spread-requires : goal.blank_spread-requires
blank_spread-requires c =
    let h = ready_as (ap Multiple c.in-Fields.is) c.requires in
    record { few = omega (arith, h.kind.few); holds = h.kind.holds; inside = omega (arith, h.from_one, h.kind.room, h.inside) }

pub returns-in-Bits : goal.returns-in-Bits
returns-in-Bits c = written_as (ap Multiple c.in-Bits.is) c.blank_categories.ensures

pub returns-in-Fields : goal.returns-in-Fields
unfolding places_by
returns-in-Fields c = written_as (ap Multiple c.in-Fields.is)
    (blanked c.blank_spread.ensures)
