-- Where a tag leads: not beyond the end.
use mathlib.Core.Path.{◌≡◌}
use mathlib.Core.Bool.{Bool}
use mathlib.Core.List.{List, []}
use Prim.Native.Nat.{ℕ, ◌≤◌}
use lib.ListN.{length}
use Rattle.tags.specs.rule.Tag.{tag_of}
use Rattle.tags.specs.declared.Held.{Held}
use Rattle.tags.specs.declared.Tag.TheVariants as tag
use Rattle.pairs.proofs.Lies.{lies_within}
use Rattle.pairs.proofs.Tags.{tag_sound}

pub bare_on : (bad : Bool) (d : List ℕ) (o e : ℕ) (h : Held) (em : Bool) (q n : ℕ) → e ≤ length d → tag_of bad d o e [] [] [] 0 0 0 0
    ≡ tag.Read h em q n → n ≤ length d
bare_on bad d o e h em q n l f = lies_within (tag_sound bad [] d o e 0 h em q n f).lies l
