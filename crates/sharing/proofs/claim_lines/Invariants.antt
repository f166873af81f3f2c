-- `sharing::claim_lines` meets its contract. The invariant: what comes of the lines that are left comes of all.
use Prim.Native.Nat.{◌-◌}
use Rattle.sharing.specs.Known.{line_places}
use Rattle.sharing.proofs.Steps.{Onward}
use Rattle.sharing.proofs.claim_lines.Given as goal

abbrev pub invariant-loop-k : goal.invariant-loop-k
invariant-loop-k l = Onward l.own (line_places l.at l.t l.rows l.before 0 l.lines) l.initial.stamps
    (line_places l.at l.t l.rows l.before l.k (l.lines - l.k)) l.stamps
