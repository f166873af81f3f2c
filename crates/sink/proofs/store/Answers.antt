-- `sink::store` meets its contract: by fours, and what is left.
use mathlib.Core.Path.{◌∙◌}
use native.Mathlib.Omega.{arith}
use Rattle.sink.proofs.store.Goals as goal

pub store_left-requires : goal.store_left-requires
store_left-requires c =
    let at-fours = c.before.before.before in
    let e = at-fours.store_fours-i.ensures in
    let k = at-fours.store_fours-i.auto.out in
    (e.0, e.1, omega (arith, k, at-fours.requires))

pub returns : goal.returns
returns c = c.store_left.ensures ∙ c.store_fours-i.ensures.2
