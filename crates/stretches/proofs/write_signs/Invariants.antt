use mathlib.Core.Path.{◌≡◌}
use Prim.Native.Nat.{◌+◌, ◌≤◌, ◌<◌}
use lib.ListN.{length}
use lib.Seq.{sets}
use Rattle.texts.specs.rule.Decode.{numbers_of}
use Rattle.contents.specs.rule.Content.{begun, signs_from, content_signs}
use Rattle.stretches.proofs.write_signs.Given as goal

abbrev pub invariant-loop-k : goal.invariant-loop-k
invariant-loop-k l = (sets l.initial.list 0 (numbers_of (signs_from l.latin l.d (begun l.at)))
    ≡ sets l.list l.k (numbers_of (content_signs l.latin l.d l.c)))
    × (l.k + length (content_signs l.latin l.d l.c) ≡ l.count)
    × (length l.list ≡ length l.initial.list)
    × (l.c.next ≤ length l.d)
    × (l.c.code < 2097152)
