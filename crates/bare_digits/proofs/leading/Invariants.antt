-- `bare_digits::leading` meets its contract. The invariant: without its leading bytes, what is left is the whole without its.
use mathlib.Core.Path.{◌≡◌}
use lib.ListN.{drop}
use Rattle.bare_digits.specs.Bare.{unled}
use Rattle.bare_digits.proofs.leading.Given as goal

abbrev pub invariant-loop-p : goal.invariant-loop-p
invariant-loop-p l = unled l.b (drop l.p l.s) ≡ unled l.b l.s
