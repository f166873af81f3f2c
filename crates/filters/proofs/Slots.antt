-- What a start tag that was read holds, where its first two attributes have to be given: both, and a third where it is given.
use mathlib.Core.Path.{◌≡◌}
use mathlib.Core.Logic.{⊎_elim}
use mathlib.Core.Bool.{Bool}
use mathlib.Core.List.{List}
use Prim.Native.Nat.{ℕ}
use Rattle.tags.specs.rule.Tag.{tag_of}
use Rattle.tags.specs.declared.Held.{Held}
use Rattle.tags.specs.declared.Tag.TheVariants.{Read}
use Rattle.elements.specs.Code.{Slot}
use Rattle.elements.proofs.Tags.{tag_tells, both_there}

module _ (d : List ℕ) (f g k : ℕ) where
  pub record Held-two (h : Held) : Type 0 where
    pub first : Slot d f h.a h.ae
    pub second : Slot d g h.b h.be
    pub third : (h.c ≡ 0 → ⊥) → Slot d k h.c h.ce

  pub two_held : (bad : Bool) (o at : ℕ) (x y z : List ℕ) {h : Held} {em : Bool} {p n : ℕ} → tag_of bad d o at x y z f g k 2 ≡ Read h em p n
      → Held-two h
  two_held bad o at x y z e =
      let t = tag_tells d f g k bad o at x y z 2 e in
      let both = both_there d f g k t in
      record { first = both.0; second = both.1; third = λ given. ⊎_elim (λ none. absurd (given none)) (λ s. s) t.slots.c }
