-- `texts::write` meets its contract. The invariant: what is left to store, from here, gives the whole.
use mathlib.Core.Path.{◌≡◌}
use mathlib.Core.Bool.{true}
use Prim.Native.Nat.{◌+◌, ◌-◌}
use lib.ListN.{length}
use lib.Seq.{sets}
use Rattle.scan.specs.rule.Text.{text}
use Rattle.marks.specs.declared.Inside.TheVariants.{Plain}
use Rattle.marks.specs.rule.Spelling.{decode_of}
use Rattle.marks.specs.Spelling.{idle}
use Rattle.texts.specs.rule.Decode.{numbers_of}
use Rattle.texts.proofs.write.Given as goal

abbrev pub invariant-loop-k : goal.invariant-loop-k
invariant-loop-k l = (sets l.initial.list 0 (numbers_of (decode_of Plain 0 (text l.s l.at)))
    ≡ sets l.list l.k (numbers_of (decode_of l.inside 0 (text l.s l.n))))
    × (l.k + length (decode_of l.inside 0 (text l.s l.n)) ≡ l.count)
    × (length l.list ≡ length l.initial.list)
    × (idle l.inside ≡ true)

abbrev pub decreases-loop-k : goal.decreases-loop-k
decreases-loop-k l = l.count - l.k
