-- `writes::marked::spread_full` meets its contract.
use native.Mathlib.Omega.{arith}
use borrow.Author.Tests.{lt-ltb, le-ltb}
use Rattle.fields.specs.rule.Row.{fits_by, bytes_by, places_by}
use Rattle.writes.specs.rule.Write.{lent_value}
use Rattle.writes.proofs.Cases.{accepted, many, set_many, set_fits_lem, spread_small}
use Rattle.writes.proofs.marked.spread_full.Goals as goal

pub returns-then-count-members : goal.returns-then-count-members
unfolding lent_value fits_by
returns-then-count-members c = many (set_many c.requires.members_value (lt-ltb _ _ c.if-count-members.true))

pub put_spread-requires : goal.put_spread-requires
put_spread-requires c =
    let h = c.requires.ready in record {
      tens = c.requires.tens;
      subfields = record { few = omega (arith, h.kind.few); holds = h.kind.holds; inside = omega (arith, h.kind.room) };
      small = spread_small h _ c.requires.members_value;
    }

pub returns : goal.returns
unfolding lent_value fits_by places_by bytes_by
returns c =
    accepted (set_fits_lem c.requires.members_value (le-ltb _ _ c.if-count-members.false)) c.put_spread.ensures
