-- A spread of few subfields that is legal, sent code by code.
use Rattle.std.specs.Prelude.{◌≡◌, Bool, cond, List, [], ◌∷◌, ◌++◌, ℕ, ◌≤◌, ◌<◌, ltb, ℤ, pos}
use Rattle.std.proofs.Math.Path.{refl, sym}
use Rattle.std.proofs.Common.{ap, ⊎_elim, arith, ltb-true, ltb-false, lt-ltb, le-ltb}
use Rattle.std.proofs.Math.Bool.{true, false}
use Rattle.below.specs.Below.{lt_or_le}
use Rattle.few_codes.specs.Few.{NextAbove, above, above_next, above_none}
use Rattle.value_fields.specs.rule.Values.{export_number, codes_behind, set_text}

-- ---- codes sent one by one: from one on, where it is one
abbrev pub from_code : List ℕ → ℕ → List ℤ
from_code m c = cond (ltb c 65535) (pos c ∷ above m c) []

module _ (m : List ℕ) (c r : ℕ) (a : NextAbove m c r) where
  pub above_from : above m c ≡ from_code m r
  above_from = go (ltb r 65535) refl
    where
      go : (b : Bool) → ltb r 65535 ≡ b → above m c ≡ cond b (pos r ∷ above m r) []
      go true e = above_next m c r a (ltb-true r 65535 e)
      go false e = above_none m c r a (ltb-false r 65535 e)

  pub next_more : c < 65535 → c < r
  next_more h = ⊎_elim (λ l. (a.here l).0) (λ l. omega arith) (lt_or_le r 65535)

  pub first_next : r < 65535 → export_number 0 (pos r) ++ codes_behind (above m r) ≡ set_text (above m c)
  unfolding set_text
  first_next l = sym (ap set_text (above_next m c r a l))

module _ (m : List ℕ) (c : ℕ) where
  pub from_some : c < 65535 → codes_behind (from_code m c) ≡ (59 ∷ []) ++ (export_number 0 (pos c) ++ codes_behind (above m c))
  unfolding codes_behind
  from_some h = rw (lt-ltb c 65535 h)

  pub from_none : 65535 ≤ c → codes_behind (from_code m c) ≡ []
  unfolding codes_behind
  from_none h = rw (le-ltb c 65535 h)
