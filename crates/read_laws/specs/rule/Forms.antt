-- A number's bytes in the paper's own words. SINGLE: "spaces, then digits". QUANTITY: "spaces, `-` or none, digits, at least one before
-- the point; point and decimals as in the block; minus zero is zero"; under point code 2 "the whole part may be empty". Proved both ways:
-- the bytes say a number exactly when they have this form and the form says it; nothing exactly when they are all spaces; and they are
-- wrong exactly when no form fits.
use Rattle.std.specs.Prelude.{◌≡◌, Bool, true, false, List, [], ◌∷◌, ◌++◌, ℕ, ◌+◌, ◌*◌, ◌≤◌, ◌<◌, ℤ, pos, length}
use Rattle.cells.specs.rule.Cell.{number_of}
use Rattle.layout.specs.declared.Format.{Format}
use Rattle.widths.specs.rule.Width.{least_whole}

-- ---- the words
-- spaces, or none
pub data Spaces : List ℕ → Type 0 where
  none : Spaces []
  space : {s : List ℕ} → Spaces s → Spaces (32 ∷ s)

-- `Digits m s n`: the bytes s are digits, `0` to `9`, or none, and after the number m they say n
pub data Digits : ℕ → List ℕ → ℕ → Type 0 where
  end : {m : ℕ} → Digits m [] m
  digit : {m d n : ℕ} {s : List ℕ} → d ≤ 9 → Digits (m * 10 + d) s n → Digits m ((48 + d) ∷ s) n

-- a minus, or none
pub data Sign : Bool → List ℕ → Type 0 where
  plain : Sign false []
  minus : Sign true (45 ∷ [])

-- what stands after the whole digits: the point and the decimals as in the block, where it has a point, and nothing where not
pub data Tail (f : Format) : List ℕ → List ℕ → Type 0 where
  without : f.point ≡ 0 → Tail f [] []
  point : {ds : List ℕ} → (f.point ≡ 0 → ⊥) → length ds ≡ f.decimals → Tail f (46 ∷ ds) ds

-- SINGLE: spaces, then digits, that say z
pub record CodeForm (s : List ℕ) (z : ℤ) : Type 0 where
  pub gap : List ℕ
  pub whole : List ℕ
  pub size : ℕ
  pub made : s ≡ gap ++ whole
  pub blank_gap : Spaces gap
  pub some : 0 < length whole
  pub said : Digits 0 whole size
  pub is : z ≡ pos size

-- QUANTITY: spaces, a minus or none, digits, at least one or, under point code 2, any number of them, and the tail; the digits and
-- decimals together say the size
pub record QuantityForm (f : Format) (s : List ℕ) (z : ℤ) : Type 0 where
  pub gap : List ℕ
  pub sign : List ℕ
  pub whole : List ℕ
  pub tail : List ℕ
  pub decimals : List ℕ
  pub negative : Bool
  pub size : ℕ
  pub made : s ≡ gap ++ (sign ++ (whole ++ tail))
  pub blank_gap : Spaces gap
  pub signed : Sign negative sign
  pub some : least_whole f ≤ length whole
  pub tailed : Tail f tail decimals
  pub said : Digits 0 (whole ++ decimals) size
  pub is : z ≡ number_of negative size
