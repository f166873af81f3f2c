use native.Mathlib.Omega.{arith}
use mathlib.Core.List.{[], ◌∷◌}
use Rattle.xml_reading.specs.rule.Open.{unknown_at}
use Rattle.elements.proofs.Ranking.{found_unknown, found_behind}
use Rattle.elements.proofs.lying.Goals as goal

pub returns : goal.returns
returns c =
    let a = c.args in
    rw (found_behind a.unknown (unknown_at a.cut ∷ []) (omega arith, tt), found_unknown a.cut)
    (rw (← c.fault_at-first.ensures, ← c.fault_at-second.ensures) (rw (← c.lower-found.ensures)))
