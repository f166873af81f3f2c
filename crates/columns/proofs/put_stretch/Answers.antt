-- `columns::put_stretch` meets its contract: zeros, and the ones set among them where there is a set.
-- Assumes nothing.
use Prim.Native.Nat.{◌-◌}
use Rattle.columns.specs.Room.{room_on}
use Rattle.columns.specs.Ones.{in_list, missing_made, set_made}
use Rattle.columns.proofs.put_stretch.Goals as goal

pub put_many-requires : goal.put_many-requires
put_many-requires c = (c.requires.3.behind, c.requires.3.inside)

pub returns-then-not-there : goal.returns-then-not-there
returns-then-not-there c =
    let a = c.args in
    missing_made a.there a.out.now _ a.flags a.values (a.past - 1) (in_list a.list.now a.n) c.if-not-there.true
    c.put_many.ensures

pub put_ones-requires : goal.put_ones-requires
put_ones-requires c = (
  c.requires.0,
  c.requires.2,
  room_on c.put_many.auto.out c.requires.3,
)

pub returns : goal.returns
returns c =
    let a = c.args in
    set_made a.there a.out.now _ _ a.flags a.values (a.past - 1) a.list.now a.n
    c.if-not-there.false c.put_many.ensures c.put_ones.ensures
