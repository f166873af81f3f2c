-- What the code keeps while it passes bytes that say themselves.
use Rattle.std.specs.Prelude.{◌≡◌, Bool, not, ◌&&◌, List, ℕ, ◌+◌, ◌≤◌, ◌<◌, eqb, length, get_or}
use Rattle.below.specs.rule.Below.{all_below}
use Rattle.markup.specs.declared.Skip.TheVariants.{Past}
use Rattle.angles.specs.rule.Angle.{angle_of}
use Rattle.angles.specs.declared.Angle.TheVariants.{Close}
use Rattle.pairs.specs.rule.Stand.{shut_of}
use Rattle.contents.specs.rule.Step.{mode_in}
use Rattle.contents.specs.rule.Content.{content_from}
use Rattle.contents.specs.declared.Going.{Going}
use Rattle.contents.specs.declared.Said.{Said}
use Rattle.contents.specs.declared.Content.{Content}
use Rattle.contents.specs.declared.Step.{Step}
use Rattle.contents.specs.declared.Step.TheVariants.{More, Over}

-- no <, &, ] or carriage return
unfoldable pub plain_of : ℕ → Bool
plain_of b = not (eqb b 60) && (not (eqb b 38) && (not (eqb b 93) && not (eqb b 13)))

-- the n bytes from i on are such
unfoldable pub all_plain : List ℕ → ℕ → ℕ → Bool
all_plain d i n = all_below n (λ k. plain_of (get_or d (i + k) 0))

-- from p on r may be gone on from, whatever the text and wherever in it
pub record Passes (d : List ℕ) (p r : ℕ) : Type 0 where
  pub again : (bad : Bool) (m : ℕ) (w : List ℕ) (inside : Bool) (unknown : ℕ)
      → content_from bad d m w (record { inside = inside; unknown = unknown; next = p })
      ≡ content_from bad d m w (record { inside = inside; unknown = unknown; next = r })
  pub on : p ≤ r
  pub within : r ≤ length d

-- the same in a text whose mode there is k
pub record Walks (bad : Bool) (d : List ℕ) (k p r : ℕ) : Type 0 where
  pub again : (m : ℕ) (w : List ℕ) (inside : Bool) (unknown : ℕ) → mode_in m inside ≡ k
      → content_from bad d m w (record { inside = inside; unknown = unknown; next = p })
      ≡ content_from bad d m w (record { inside = inside; unknown = unknown; next = r })
  pub on : p ≤ r
  pub within : r ≤ length d

-- at p the end tag of w stands, and n is the place behind it
pub record Closes (d : List ℕ) (p : ℕ) (w : List ℕ) (n : ℕ) : Type 0 where
  pub end : ℕ
  pub inside : p + 1 < length d
  pub less : get_or d p 0 ≡ 60
  pub slash : get_or d (p + 1) 0 ≡ 47
  pub opens : (bad : Bool) → angle_of bad d p ≡ Close end
  pub shuts : (bad : Bool) → shut_of bad d p end w ≡ Past n

-- what such bytes and the step behind them come to
pub data Strides (bad : Bool) (d : List ℕ) (m : ℕ) (w : List ℕ) (g : Going) : Step → Type 0 where
  more : {h : Going} {s : Said} → content_from bad d m w g ≡ content_from bad d m w h → g.next < h.next → h.next ≤ length d
      → Strides bad d m w g (More h s)
  over : {c : Content} → content_from bad d m w g ≡ c → Strides bad d m w g (Over c)
