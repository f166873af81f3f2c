-- `columns::list_fields` meets its contract: what was gathered stands in the list.
-- Assumes nothing.
use mathlib.Core.Path.{◌∙◌}
use native.Mathlib.Omega.{arith}
use Rattle.places.specs.rule.Places.{pick}
use Rattle.fields.specs.rule.Row.{spread_places}
use Rattle.columns.specs.Listed.{held_in}
use Rattle.columns.proofs.list_fields.Goals as goal

pub gather-requires : goal.gather-requires
gather-requires c = let p = c.requires in record {
  spread_room = (p.spread_room.0, omega (arith, p.spread_room.1));
  by_index = p.by_index;
  n_value = p.n_value;
}

pub list_room-requires : goal.list_room-requires
list_room-requires c = let p = c.requires in
    omega (arith, c.gather.auto.room, p.spread_room.1, p.spread_room.2)

pub returns : goal.returns
returns c =
    let gathered = c.gather in
    let a = c.args in
    let p = c.requires in
    held_in a.w a.n (pick a.bytes.now (spread_places a.at a.b a.w a.n)) gathered.new.room
    p.spread_room.0.few gathered.ensures c.list_room.new.list (gathered.auto.room ∙ p.spread_room.1)
    c.list_room.ensures
