-- `texts::copy_pairs` meets its contract. The invariant: what is left to store, from here, gives the whole.
use mathlib.Core.Path.{◌≡◌}
use Prim.Native.Nat.{◌+◌, ◌-◌, ◌≤◌}
use lib.ListN.{length}
use lib.Seq.{sets}
use Rattle.scan.specs.rule.Text.{text}
use Rattle.marks.specs.declared.Inside.TheVariants.{Pair}
use Rattle.marks.specs.rule.Spelling.{decode_of}
use Rattle.texts.specs.rule.Decode.{numbers_of}
use Rattle.texts.proofs.copy_pairs.Given as goal

abbrev pub invariant-loop-i : goal.invariant-loop-i
invariant-loop-i l = (sets l.initial.list l.k (numbers_of (decode_of (Pair l.o) 0 (text l.s l.n)))
    ≡ sets l.list l.m (numbers_of (decode_of (Pair l.o) 0 (text l.s l.i))))
    × (l.k + length (decode_of (Pair l.o) 0 (text l.s l.n)) ≡ l.m + length (decode_of (Pair l.o) 0 (text l.s l.i)))
    × (length l.list ≡ length l.initial.list)
    × (l.k ≤ l.m)

abbrev pub decreases-loop-i : goal.decreases-loop-i
decreases-loop-i l = length l.s - l.i
