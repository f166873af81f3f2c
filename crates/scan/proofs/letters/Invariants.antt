use mathlib.Core.Path.{◌≡◌}
use lib.ListN.{drop}
use Rattle.scan.specs.rule.Text.{text}
use Rattle.scan.specs.rule.Word.{word_of, word_at}
use Rattle.scan.proofs.letters.Given as goal

abbrev pub invariant-loop-x : goal.invariant-loop-x
invariant-loop-x l = word_at l.d l.at l.w ≡ word_of l.n (text l.d l.n) (drop l.x-index l.w)
