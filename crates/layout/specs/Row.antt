-- What follows from rule/Row.antt, and what the code keeps.
use Rattle.std.specs.Prelude.{◌≡◌, Bool, cond}
use Rattle.std.proofs.Math.Path.{refl}
use Rattle.std.proofs.Math.Bool.{true, false}
use Rattle.std.proofs.Common.{eqb-true}
use Rattle.std.proofs.lemmas.Bool.{eqb-false}
use Rattle.std.proofs.Math.Dec.{eqb}
use Rattle.layout.specs.declared.Columns.{Columns}
use Rattle.layout.specs.declared.Format.{Format}
use Rattle.layout.specs.declared.Spread.TheVariants.{Bits, Fields}
use Rattle.layout.specs.declared.Kind.{Kind}
use Rattle.layout.specs.declared.Kind.TheVariants.{Single, Multiple, Quantity, Character, Logical}
use Rattle.layout.specs.rule.Row.{spread_of, kind_of}

-- ---- laws
-- what holds of each kind, under what its type's number and subfields say, holds of a row's kind
module _ (c : Columns) (P : Kind → Type 0) where
  multiple_cases : (c.subfields ≡ 0 → P (Multiple Bits))
      → ((c.subfields ≡ 0 → ⊥) → P (Multiple (Fields c.subfields c.subwidth)))
      → P (Multiple (spread_of c.subfields c.subwidth))
  unfolding spread_of
  multiple_cases m2 m3 = go (eqb c.subfields 0) refl
    where
      go : (b : Bool) → eqb c.subfields 0 ≡ b → P (Multiple (cond b Bits (Fields c.subfields c.subwidth)))
      go true e = m2 (eqb-true c.subfields 0 e)
      go false e = m3 (eqb-false c.subfields 0 e)

  pub kind_cases :
      (c.kind ≡ 1 → P Single)
      → (c.kind ≡ 2 → c.subfields ≡ 0 → P (Multiple Bits))
      → (c.kind ≡ 2 → (c.subfields ≡ 0 → ⊥) → P (Multiple (Fields c.subfields c.subwidth)))
      → (c.kind ≡ 3 → P (Quantity (record { decimals = c.decimals; point = c.point })))
      → (c.kind ≡ 4 → P Character)
      → P Logical
      → P (kind_of c)
  unfolding kind_of
  kind_cases m1 m2 m3 m4 m5 m6 =
      go (eqb c.kind 1) (eqb c.kind 2) (eqb c.kind 3) (eqb c.kind 4) refl refl refl refl
    where
      go : (p q r s : Bool) → eqb c.kind 1 ≡ p → eqb c.kind 2 ≡ q → eqb c.kind 3 ≡ r → eqb c.kind 4 ≡ s
          → P (cond p Single
          (cond q (Multiple (spread_of c.subfields c.subwidth))
          (cond r (Quantity (record { decimals = c.decimals; point = c.point })) (cond s Character Logical))))
      go true q r s e f g h = m1 (eqb-true c.kind 1 e)
      go false true r s e f g h = multiple_cases (m2 (eqb-true c.kind 2 f)) (m3 (eqb-true c.kind 2 f))
      go false false true s e f g h = m4 (eqb-true c.kind 3 g)
      go false false false true e f g h = m5 (eqb-true c.kind 4 h)
      go false false false false e f g h = m6
