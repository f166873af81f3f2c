-- `digits::put_right` meets its contract. The invariant: the digits of the rest, put at the places that are left, give the whole.
use mathlib.Core.Path.{◌≡◌}
use Rattle.places.specs.rule.Places.{put, run}
use Rattle.fields.specs.rule.Number.{padded}
use Rattle.digits.proofs.put_right.Given as goal

abbrev pub invariant-loop-j : goal.invariant-loop-j
invariant-loop-j l = put l.out (run l.at l.j) (padded l.j l.rest) ≡ put l.initial.out (run l.at l.k) (padded l.k l.n)
