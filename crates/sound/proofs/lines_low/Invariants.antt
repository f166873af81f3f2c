-- `sound::lines_low` meets its contract. The invariant: what was laid lies over the first 4 k lines.
use Prim.Native.Nat.{◌*◌}
use Rattle.sound.specs.Laid.{Over}
use Rattle.sound.proofs.lines_low.Given as goal

abbrev pub invariant-loop-k : goal.invariant-loop-k
invariant-loop-k l = Over l.t l.v (4 * l.k) l.laid
