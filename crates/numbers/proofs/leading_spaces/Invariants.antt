-- `numbers::leading_spaces` meets its contract. The invariant: without its spaces, what is left is the whole without its.
use mathlib.Core.Path.{◌≡◌}
use lib.ListN.{drop}
use Rattle.fields.specs.rule.Number.{unspaced}
use Rattle.numbers.proofs.leading_spaces.Given as goal

abbrev pub invariant-loop-p : goal.invariant-loop-p
invariant-loop-p l = unspaced (drop l.p l.s) ≡ unspaced l.s
