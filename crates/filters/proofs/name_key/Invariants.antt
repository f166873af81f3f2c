use mathlib.Core.Path.{◌≡◌}
use Prim.Native.Nat.{◌^◌, ◌≤◌, ◌<◌}
use Rattle.names.specs.Name.{key_of}
use Rattle.contents.specs.rule.Content.{begun, signs_from, content_signs}
use Rattle.filters.specs.Code.{Ready}
use Rattle.filters.proofs.name_key.Given as goal

abbrev pub invariant-loop-count : goal.invariant-loop-count
invariant-loop-count l = (key_of 0 0 (signs_from l.latin l.d (begun l.at)) ≡ key_of l.count l.key (content_signs l.latin l.d l.c))
    × (l.count ≤ 8)
    × (l.key < 256 ^ l.count)
    × Ready l.d l.c
