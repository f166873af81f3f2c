-- `mends::copy_some` meets its contract.
use mathlib.Core.Path.{refl}
use Rattle.mends.specs.Mend.{room_copied}
use Rattle.mends.proofs.copy_some.Goals as goal

pub returns : goal.returns
returns c =
    let a = c.args in
    room_copied a.d.now a.from _ _ _ _ 64 c.requires.0 refl c.copy_in.ensures c.copy_in-2.ensures
