-- `names::spelled_key` meets its contract. The invariant: what the decoder still says makes the whole name's number.
use mathlib.Core.Path.{◌≡◌}
use mathlib.Core.Bool.{true}
use Prim.Native.Nat.{◌^◌, ◌≤◌, ◌<◌}
use Rattle.scan.specs.rule.Text.{text}
use Rattle.marks.specs.declared.Inside.TheVariants.{Plain}
use Rattle.marks.specs.rule.Spelling.{decode_of}
use Rattle.marks.specs.Spelling.{idle}
use Rattle.names.specs.Name.{key_of}
use Rattle.names.proofs.spelled_key.Given as goal

abbrev pub invariant-loop-count : goal.invariant-loop-count
invariant-loop-count l = (key_of 0 0 (decode_of Plain 0 (text l.d l.at)) ≡ key_of l.count l.key (decode_of l.s 0 (text l.d l.n)))
    × (l.count ≤ 8)
    × (l.key < 256 ^ l.count)
    × (idle l.s ≡ true)
