-- `scan::spelled` meets its contract. The invariant: if all letters so far are the same, the keyword goes on behind them.
use mathlib.Core.Path.{◌≡◌}
use mathlib.Core.Bool.{true}
use Prim.Native.Nat.{◌+◌}
use lib.ListN.{drop}
use Rattle.scan.specs.rule.Text.{text}
use Rattle.scan.specs.rule.Word.{word_of, word_at}
use Rattle.scan.proofs.spelled.Given as goal

abbrev pub invariant-loop-i : goal.invariant-loop-i
invariant-loop-i l = l.same ≡ true → word_at l.d l.at l.w ≡ word_of (l.at + l.i) (text l.d (l.at + l.i)) (drop l.i l.w)
