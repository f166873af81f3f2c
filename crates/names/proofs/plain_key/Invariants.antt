-- `names::plain_key` meets its contract. The invariant: what is left makes the whole name's number.
use mathlib.Core.Path.{◌≡◌}
use Prim.Native.Nat.{◌^◌, ◌≤◌, ◌<◌}
use Rattle.scan.specs.rule.Text.{text}
use Rattle.marks.specs.declared.Inside.TheVariants.{Plain}
use Rattle.marks.specs.rule.Spelling.{decode_of}
use Rattle.names.specs.Name.{key_of}
use Rattle.names.proofs.plain_key.Given as goal

abbrev pub invariant-loop-n : goal.invariant-loop-n
invariant-loop-n l = (key_of 0 0 (decode_of Plain 0 (text l.d l.at)) ≡ key_of l.count l.key (decode_of Plain 0 (text l.d l.n)))
    × (l.count ≤ 8) × (l.key < 256 ^ l.count)
