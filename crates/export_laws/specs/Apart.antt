-- EQUAL LINES ONLY FOR EQUAL FIELDS: what stands between commas is the field's own, so that a text says its lines and a line its fields. A
-- line
-- has a field at least, as every table has a row.
-- Assumes nothing.
use Rattle.std.specs.Prelude.{◌≡◌, Bool, ◌||◌, ℕ, zero, suc, ◌+◌, ◌≤◌, ◌<◌, ℤ}
use Rattle.std.proofs.Math.Path.{refl, sym, ap}
use Rattle.std.proofs.Common.{◌∙◌, arith}
use Rattle.std.proofs.Math.Bool.{true, false, cond}
use mathlib.Core.List.{List, [], ◌∷◌, ◌++◌, append_assoc}
use borrow.Author.Tests.{eqb-true, eqb-false}
use Rattle.std.proofs.Math.Dec.{eqb}
use Rattle.commas.specs.rule.Csv.{is_special, holds_special, doubled_byte, doubled, field_bytes, behind_first, line_bytes, each}
use Rattle.sound.specs.rule.Rows.{rows_of}
use Rattle.value_fields.specs.rule.Values.{row_field}
use Rattle.record_lines.specs.rule.Lines.{record_line}

-- ---- the first byte, and what follows it
abbrev first : List ℕ → ℕ
first [] = 0
first (b ∷ s) = b

abbrev rest : List ℕ → List ℕ
rest [] = []
rest (b ∷ s) = s

no_way : {A : Type 0} → true ≡ false → A
no_way e = let z : ◌≡◌ {A = ℕ} 0 1 = cc in absurd (omega arith)

-- what ends a field: a comma, or the CR of a line end
pub data Stop : List ℕ → Type 0 where
  comma : {u : List ℕ} → Stop (44 ∷ u)
  cr : {u : List ℕ} → Stop (13 ∷ u)

not_quote : {u w : List ℕ} → Stop u → u ≡ 34 ∷ w → ⊥
not_quote comma e = let z : ◌≡◌ {A = ℕ} 44 34 = ap first e in omega arith
not_quote cr e = let z : ◌≡◌ {A = ℕ} 13 34 = ap first e in omega arith

-- a byte of a field that needs no quotes stops nothing
special_head : (b : ℕ) (s : List ℕ) → is_special b ≡ true → holds_special (b ∷ s) ≡ true
unfolding holds_special
special_head b s e = rw e

not_plain : {u w : List ℕ} (b : ℕ) (s : List ℕ) → holds_special (b ∷ s) ≡ false → Stop u → u ≡ b ∷ w → ⊥
unfolding is_special
not_plain b s p comma e = no_way (sym (special_head b s (rw (← (ap first e)))) ∙ p)
not_plain b s p cr e = no_way (sym (special_head b s (rw (← (ap first e)))) ∙ p)

quote_plain : (b : ℕ) (s : List ℕ) → holds_special (b ∷ s) ≡ false → 34 ≡ b → ⊥
unfolding is_special
quote_plain b s p e = no_way (sym (special_head b s (rw (← e))) ∙ p)

plain_rest : (b : ℕ) (s : List ℕ) → holds_special (b ∷ s) ≡ false → holds_special s ≡ false
unfolding holds_special
plain_rest b s p = go (is_special b) p
  where
    go : (q : Bool) → (q || holds_special s) ≡ false → holds_special s ≡ false
    go true e = no_way e
    go false e = e

-- ---- two fields as they stand
module _ {u w : List ℕ} (stops : Stop u) (ends : Stop w) where
  plain_same : (f g : List ℕ) → holds_special f ≡ false → holds_special g ≡ false → f ++ u ≡ g ++ w → (f ≡ g) × (u ≡ w)
  plain_same [] [] p q e = (refl, e)
  plain_same [] (c ∷ g) p q e = absurd (not_plain c g q stops e)
  plain_same (b ∷ f) [] p q e = absurd (not_plain b f p ends (sym e))
  plain_same (b ∷ f) (c ∷ g) p q e =
      let i = plain_same f g (plain_rest b f p) (plain_rest c g q) (ap rest e) in
      let h : b ≡ c = ap first e in
      (rw (h, i.0), i.1)

  -- ---- two fields in quotes
  doubled_same : (f g : List ℕ) → doubled f ++ (34 ∷ u) ≡ doubled g ++ (34 ∷ w) → (f ≡ g) × (u ≡ w)
  unfolding doubled doubled_byte
  doubled_same [] [] e = (refl, ap rest e)
  doubled_same [] (c ∷ g) e = go (eqb c 34) refl e
    where
      go : (q : Bool) → eqb c 34 ≡ q → 34 ∷ u ≡ (cond q (34 ∷ 34 ∷ []) (c ∷ []) ++ doubled g) ++ (34 ∷ w) → ([] ≡ c ∷ g) × (u ≡ w)
      go true k h = absurd (not_quote stops (ap rest h))
      go false k h = absurd (eqb-false c 34 k (sym (ap first h)))
  doubled_same (b ∷ f) [] e = go (eqb b 34) refl e
    where
      go : (q : Bool) → eqb b 34 ≡ q → (cond q (34 ∷ 34 ∷ []) (b ∷ []) ++ doubled f) ++ (34 ∷ u) ≡ 34 ∷ w → (b ∷ f ≡ []) × (u ≡ w)
      go true k h = absurd (not_quote ends (sym (ap rest h)))
      go false k h = absurd (eqb-false b 34 k (ap first h))
  doubled_same (b ∷ f) (c ∷ g) e = go (eqb b 34) (eqb c 34) refl refl e (λ h. doubled_same f g h)
    where
      go : (p q : Bool) → eqb b 34 ≡ p → eqb c 34 ≡ q
          → (cond p (34 ∷ 34 ∷ []) (b ∷ []) ++ doubled f) ++ (34 ∷ u) ≡ (cond q (34 ∷ 34 ∷ []) (c ∷ []) ++ doubled g) ++ (34 ∷ w)
          → (doubled f ++ (34 ∷ u) ≡ doubled g ++ (34 ∷ w) → (f ≡ g) × (u ≡ w)) → (b ∷ f ≡ c ∷ g) × (u ≡ w)
      go true true k l h i =
          let j = i (ap rest (ap rest h)) in
          let x : b ≡ c = eqb-true b 34 k ∙ sym (eqb-true c 34 l) in
          (rw (x, j.0), j.1)
      go true false k l h i = absurd (eqb-false c 34 l (sym (ap first h)))
      go false true k l h i = absurd (eqb-false b 34 k (ap first h))
      go false false k l h i =
          let j = i (ap rest h) in
          let x : b ≡ c = ap first h in
          (rw (x, j.0), j.1)

  mixed : (f g s : List ℕ) → holds_special g ≡ false → 34 ∷ s ≡ g ++ w → ⊥
  mixed f [] s p e = not_quote ends (sym e)
  mixed f (c ∷ g) s p e = quote_plain c g p (ap first e)

  mixed_too : (f g s : List ℕ) → holds_special f ≡ false → f ++ u ≡ 34 ∷ s → ⊥
  mixed_too [] g s p e = not_quote stops e
  mixed_too (b ∷ f) g s p e = quote_plain b f p (sym (ap first e))

  -- ---- two fields
  pub field_same : (f g : List ℕ) → field_bytes f ++ u ≡ field_bytes g ++ w → (f ≡ g) × (u ≡ w)
  unfolding field_bytes
  field_same f g e = go (holds_special f) (holds_special g) refl refl e
    where
      go : (p q : Bool) → holds_special f ≡ p → holds_special g ≡ q
          → cond p ((34 ∷ []) ++ (doubled f ++ (34 ∷ []))) f ++ u ≡ cond q ((34 ∷ []) ++ (doubled g ++ (34 ∷ []))) g ++ w → (f ≡ g)
          × (u ≡ w)
      go true true k l h =
          doubled_same f g (sym (append_assoc (doubled f) (34 ∷ []) u) ∙ ap rest h ∙ append_assoc (doubled g) (34 ∷ []) w)
      go true false k l h = absurd (mixed f g _ l h)
      go false true k l h = absurd (mixed_too f g _ k h)
      go false false k l h = plain_same f g k l h

-- ---- two lines, and two texts
behind_stop : (fs : List (List ℕ)) (u : List ℕ) → Stop (behind_first fs ++ u)
unfolding behind_first
behind_stop [] u = cr
behind_stop (f ∷ fs) u = comma

behind_same : (fs gs : List (List ℕ)) (u w : List ℕ) → behind_first fs ++ u ≡ behind_first gs ++ w → (fs ≡ gs) × (u ≡ w)
unfolding behind_first
behind_same [] [] u w e = (refl, ap rest (ap rest e))
behind_same [] (g ∷ gs) u w e = let z : ◌≡◌ {A = ℕ} 13 44 = ap first e in absurd (omega arith)
behind_same (f ∷ fs) [] u w e = let z : ◌≡◌ {A = ℕ} 44 13 = ap first e in absurd (omega arith)
behind_same (f ∷ fs) (g ∷ gs) u w e =
    let h = sym (append_assoc (field_bytes f) (behind_first fs) u) ∙ ap rest e ∙ append_assoc (field_bytes g) (behind_first gs) w in
    let i = field_same (behind_stop fs u) (behind_stop gs w) f g h in
    let j = behind_same fs gs u w i.1 in
    (rw (i.0, j.0), j.1)

-- a line with a field
pub data Line : List (List ℕ) → Type 0 where
  line : {f : List ℕ} {fs : List (List ℕ)} → Line (f ∷ fs)

pub line_same : {l m : List (List ℕ)} → Line l → Line m → (u w : List ℕ) → line_bytes l ++ u ≡ line_bytes m ++ w → (l ≡ m) × (u ≡ w)
unfolding line_bytes
line_same (line {f = f} {fs = fs}) (line {f = g} {fs = gs}) u w e =
    let h = sym (append_assoc (field_bytes f) (behind_first fs) u) ∙ e ∙ append_assoc (field_bytes g) (behind_first gs) w in
    let i = field_same (behind_stop fs u) (behind_stop gs w) f g h in
    let j = behind_same fs gs u w i.1 in
    (rw (i.0, j.0), j.1)

-- ---- two records of one table: equal lines, equal fields, row by row
each_line : (f : ℕ → List ℕ) (i n : ℕ) → 1 ≤ n → Line (each f i n)
unfolding each
each_line f i zero h = absurd (omega arith)
each_line f i (suc n) h = line

heads : List (List ℕ) → List ℕ
heads [] = []
heads (f ∷ fs) = f

tails : List (List ℕ) → List (List ℕ)
tails [] = []
tails (f ∷ fs) = fs

each_same : (f g : ℕ → List ℕ) (n i j : ℕ) → each f i n ≡ each g i n → j < n → f (i + j) ≡ g (i + j)
unfolding each heads tails
each_same f g zero i j e h = absurd (omega arith)
each_same f g (suc n) i zero e h = let z : i + 0 ≡ i = omega arith in rw z (ap heads e)
each_same f g (suc n) i (suc j) e h = let z : i + suc j ≡ suc i + j = omega arith in
    rw z (each_same f g n (suc i) j (ap tails e) (omega arith))

pub record_same : (t : List ℤ) (r s : List ℕ) → 1 ≤ rows_of t → line_bytes (record_line t r) ≡ line_bytes (record_line t s)
    → (i : ℕ) → i < rows_of t → row_field t r i ≡ row_field t s i
unfolding record_line
record_same t r s some e i h =
    let l = line_same (each_line (row_field t r) 0 (rows_of t) some) (each_line (row_field t s) 0 (rows_of t) some) [] []
    (ap (λ (x : List ℕ). x ++ []) e) in
    let z : 0 + i ≡ i = omega arith in
    rw z at (each_same (row_field t r) (row_field t s) (rows_of t) 0 i l.0 h)
