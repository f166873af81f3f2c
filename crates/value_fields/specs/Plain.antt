-- No number, set or truth holds one of the four bytes: it is written as it stands.
use Rattle.std.specs.Prelude.{◌≡◌, refl, Bool, true, false, cond, ◌||◌, List, [], ◌∷◌, ◌++◌, ℕ}
use Rattle.commas.specs.rule.Csv.{is_special, holds_special}

pub plain_join : (a b : List ℕ) → holds_special a ≡ false → holds_special b ≡ false → holds_special (a ++ b) ≡ false
unfolding holds_special
plain_join [] b e f = f
plain_join (x ∷ a) b e f = go (is_special x) e (λ h. plain_join a b h f)
  where
    go : (p : Bool) → (p || holds_special a) ≡ false → (holds_special a ≡ false → holds_special (a ++ b) ≡ false)
        → (p || holds_special (a ++ b)) ≡ false
    go true e k = e
    go false e k = k e

pub truth_plain : (b : Bool) → holds_special (cond b 49 48 ∷ []) ≡ false
unfolding holds_special is_special
truth_plain true = refl
truth_plain false = refl
