-- `sharing::rows_follow` meets its contract. The invariant: the rows passed end at `last` or before it, and share no place.
use Rattle.sharing.specs.Follow.{Passed}
use Rattle.sharing.proofs.rows_follow.Given as goal

abbrev pub invariant-loop-i : goal.invariant-loop-i
invariant-loop-i l = Passed l.t l.rows l.i l.last
