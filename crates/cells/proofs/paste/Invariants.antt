-- `cells::paste` meets its contract. The invariant: the numbers before j are pasted.
use mathlib.Core.Path.{◌≡◌}
use lib.Seq as Seq
use Rattle.cells.proofs.paste.Given as goal

abbrev pub invariant-loop-j : goal.invariant-loop-j
invariant-loop-j l = l.t ≡ Seq.paste l.initial.t l.at l.src l.j
