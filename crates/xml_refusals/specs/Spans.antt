-- COMMENTS BETWEEN TAGS AND VALUES OF ATTRIBUTES THAT ARE BROKEN, in words: behind what was passed stands what breaks them, 50 there.
use Rattle.std.specs.Prelude.{◌≡◌, ◌↔◌, Bool, true, false, List, [], ◌∷◌, leb, eqb, length, drop, Option, Some, None}
use Rattle.std.proofs.Math.Path.{refl}
use Rattle.std.proofs.Common.{sym, ◌∙◌, arith}
use Prim.Native.Nat.{ℕ, zero, suc, ◌+◌, ◌-◌, ◌<◌, ◌≤◌}
use Rattle.std.proofs.Math.ListN.{get_or}
use borrow.Author.Tests.{eq-eqb, ne_eqb, eqb-true, eqb-false, le-leb, lt-leb, leb-true, leb-false}
use Rattle.markup.specs.rule.Bytes.{is_white, stands, end_fault}
use Rattle.markup.specs.rule.Gap.{xml_comment, move_of, gap_of}
use Rattle.markup.specs.rule.Reference.{reference_of}
use Rattle.markup.specs.declared.Move.TheVariants.{Go, Stop}
use Rattle.markup.specs.declared.Skip.{Skip}
use Rattle.markup.specs.declared.Skip.TheVariants.{Past, Broken}
use Rattle.markup.proofs.Gaps.{move_end, move_white, move_note, move_none, move_less, gap_next, gap_stop}
use Rattle.attributes.specs.rule.Attribute.{value_move, quoted_of}
use Rattle.attributes.proofs.Values.{value_go, value_next, value_stop}
use Rattle.bridge.specs.Lowest.{never}

-- <!--
abbrev note : List ℕ
note = 60 ∷ 33 ∷ 45 ∷ 45 ∷ []

module _ (bad : Bool) (d : List ℕ) where
  -- ---- white space and comments from p on, up to a comment that is broken at q
  pub data GapStops : ℕ → ℕ → Type 0 where
    here : {p q : ℕ} → p < length d → is_white (get_or d p 0) ≡ false → stands note (drop p d) ≡ true
        → xml_comment bad p (p + 4) (drop (p + 4) d) ≡ Broken q → GapStops p q
    white : {p q : ℕ} → p < length d → is_white (get_or d p 0) ≡ true → GapStops (p + 1) q → GapStops p q
    past : {p n q : ℕ} → p < length d → is_white (get_or d p 0) ≡ false → stands note (drop p d) ≡ true
        → xml_comment bad p (p + 4) (drop (p + 4) d) ≡ Past n → GapStops n q → GapStops p q

  gap_halted : {p q : ℕ} → GapStops p q → gap_of bad d p ≡ Broken q
  gap_halted {p} {q} (here h i j r) = gap_stop bad d p (Broken q) (move_note bad d p h i j ∙ rw r)
  gap_halted {p} (white h i y) = gap_next bad d p (p + 1) (move_white bad d p h i) ∙ gap_halted y
  gap_halted {p} (past {n = n} h i j r y) = gap_next bad d p n (move_note bad d p h i j ∙ rw r) ∙ gap_halted y

  gap_seen : (u p q : ℕ) → length d - p < u → gap_of bad d p ≡ Broken q → GapStops p q
  gap_seen zero p q h e = absurd (omega arith)
  gap_seen (suc u) p q h e =
      by (gap_seen u) (leb (length d) p) (is_white (get_or d p 0)) (stands note (drop p d)) refl refl refl where
        none : move_of bad p (drop p d) ≡ Stop (Past p) → GapStops p q
        none m = let f : Past p ≡ Broken q = sym (gap_stop bad d p (Past p) m) ∙ e in never cc

        notes : ((p q : ℕ) → length d - p < u → gap_of bad d p ≡ Broken q → GapStops p q) → p < length d
            → is_white (get_or d p 0) ≡ false → stands note (drop p d) ≡ true → (r : Skip)
            → xml_comment bad p (p + 4) (drop (p + 4) d) ≡ r → GapStops p q
        notes ih l i j (Past n) r =
            let m : move_of bad p (drop p d) ≡ Go n = move_note bad d p l i j ∙ rw r in
            let k = move_less bad d p n m in
            past l i j r (ih n q (omega (arith, k.0, k.1)) (sym (gap_next bad d p n m) ∙ e))
        notes ih l i j (Broken n) r =
            let m : move_of bad p (drop p d) ≡ Stop (Broken n) = move_note bad d p l i j ∙ rw r in
            let f : Broken n ≡ Broken q = sym (gap_stop bad d p (Broken n) m) ∙ e in
            here l i j (r ∙ f)

        by : ((p q : ℕ) → length d - p < u → gap_of bad d p ≡ Broken q → GapStops p q) → (x y z : Bool) → leb (length d) p ≡ x
            → is_white (get_or d p 0) ≡ y → stands note (drop p d) ≡ z → GapStops p q
        by ih true y z i j k = none (move_end bad d p (leb-true (length d) p i))
        by ih false true z i j k =
            let l = leb-false (length d) p i in
            let m = move_white bad d p l j in
            white l j (ih (p + 1) q (omega arith) (sym (gap_next bad d p (p + 1) m) ∙ e))
        by ih false false true i j k =
            notes ih (leb-false (length d) p i) j k (xml_comment bad p (p + 4) (drop (p + 4) d)) refl
        by ih false false false i j k = none (move_none bad d p (leb-false (length d) p i) j k)

  -- GAP: broken at q exactly so
  pub gap_refused_exactly : (p q : ℕ) → (gap_of bad d p ≡ Broken q) ↔ GapStops p q
  gap_refused_exactly p q = (gap_seen (suc (length d - p)) p q (omega arith), gap_halted)

  -- ---- a value from p on, in a tag that opened at o: the file's end, a <, or a bad reference before its quote
  module _ (o quote : ℕ) where
    pub data ValueStops : ℕ → ℕ → Type 0 where
      cut : {p : ℕ} → length d ≤ p → ValueStops p (end_fault bad p o)
      less : {p : ℕ} → p < length d → (get_or d p 0 ≡ quote → ⊥) → get_or d p 0 ≡ 60 → ValueStops p p
      reference : {p : ℕ} → p < length d → (get_or d p 0 ≡ quote → ⊥) → get_or d p 0 ≡ 38 → reference_of p (drop (p + 1) d) ≡ None
          → ValueStops p p
      plain : {p q : ℕ} → p < length d → (get_or d p 0 ≡ quote → ⊥) → (get_or d p 0 ≡ 60 → ⊥) → (get_or d p 0 ≡ 38 → ⊥)
          → ValueStops (p + 1) q → ValueStops p q
      past : {p c n q : ℕ} → p < length d → (get_or d p 0 ≡ quote → ⊥) → get_or d p 0 ≡ 38 → reference_of p (drop (p + 1) d) ≡ Some (c, n)
          → ValueStops n q → ValueStops p q

    value_halted : {p q : ℕ} → ValueStops p q → quoted_of bad o quote d p ≡ Broken q
    unfolding value_move
    value_halted {p} (cut h) = value_stop bad o quote d p (Broken (end_fault bad p o)) (rw (le-leb (length d) p h))
    value_halted {p} (less h i j) =
        value_stop bad o quote d p (Broken p) (rw (lt-leb (length d) p h, ne_eqb (get_or d p 0) quote i, eq-eqb (get_or d p 0) 60 j))
    value_halted {p} (reference h i j r) =
        value_stop bad o quote d p (Broken p)
        (rw (
          lt-leb (length d) p h,
          ne_eqb (get_or d p 0) quote i,
          ne_eqb (get_or d p 0) 60 (λ e. omega arith),
          eq-eqb (get_or d p 0) 38 j,
          r,
        ))
    value_halted {p} (plain h i j k y) =
        value_next bad o quote d p (p + 1)
        (rw (lt-leb (length d) p h, ne_eqb (get_or d p 0) quote i, ne_eqb (get_or d p 0) 60 j, ne_eqb (get_or d p 0) 38 k))
        ∙ value_halted y
    value_halted {p} (past {n = n} h i j r y) =
        value_next bad o quote d p n
        (rw (
          lt-leb (length d) p h,
          ne_eqb (get_or d p 0) quote i,
          ne_eqb (get_or d p 0) 60 (λ e. omega arith),
          eq-eqb (get_or d p 0) 38 j,
          r,
        ))
        ∙ value_halted y

    value_seen : (u p q : ℕ) → length d - p < u → quoted_of bad o quote d p ≡ Broken q → ValueStops p q
    unfolding value_move
    value_seen zero p q h e = absurd (omega arith)
    value_seen (suc u) p q h e =
        by (value_seen u) (leb (length d) p) (eqb b quote) (eqb b 60) (eqb b 38) refl refl refl refl where
          b : ℕ
          b = get_or d p 0

          -- a step that stops, or goes on
          stops : (r : Skip) → value_move bad o quote d p ≡ Stop r → r ≡ Broken q
          stops r m = sym (value_stop bad o quote d p r m) ∙ e

          at_place : {n : ℕ} → ValueStops p n → Broken n ≡ Broken q → ValueStops p q
          at_place {n} y f = let i : n ≡ q = cc in rw (← i) y

          onward : ((p q : ℕ) → length d - p < u → quoted_of bad o quote d p ≡ Broken q → ValueStops p q) → p < length d → (n : ℕ)
              → value_move bad o quote d p ≡ Go n → ValueStops n q
          onward ih l n m =
              let g = value_go bad o quote d p n m in
              let i = g.place in
              let j = g.some in
              let k = g.within in
              ih n q (omega arith) (sym (value_next bad o quote d p n m) ∙ e)

          refers : ((p q : ℕ) → length d - p < u → quoted_of bad o quote d p ≡ Broken q → ValueStops p q) → leb (length d) p ≡ false
              → eqb b quote ≡ false → eqb b 60 ≡ false → eqb b 38 ≡ true → (c : Option (ℕ × ℕ)) → reference_of p (drop (p + 1) d) ≡ c
              → ValueStops p q
          refers ih i j k l (Some (c, n)) r =
              let z = leb-false (length d) p i in
              past z (eqb-false b quote j) (eqb-true b 38 l) r (onward ih z n (rw (i, j, k, l, r)))
          refers ih i j k l None r =
              at_place (reference (leb-false (length d) p i) (eqb-false b quote j) (eqb-true b 38 l) r)
              (stops (Broken p) (rw (i, j, k, l, r)))

          by : ((p q : ℕ) → length d - p < u → quoted_of bad o quote d p ≡ Broken q → ValueStops p q) → (w x y z : Bool)
              → leb (length d) p ≡ w → eqb b quote ≡ x → eqb b 60 ≡ y → eqb b 38 ≡ z → ValueStops p q
          by ih true x y z i j k l =
              at_place (cut (leb-true (length d) p i)) (stops (Broken (end_fault bad p o)) (rw i))
          by ih false true y z i j k l = let f = stops (Past p) (rw (i, j)) in never cc
          by ih false false true z i j k l =
              at_place (less (leb-false (length d) p i) (eqb-false b quote j) (eqb-true b 60 k)) (stops (Broken p) (rw (i, j, k)))
          by ih false false false true i j k l = refers ih i j k l (reference_of p (drop (p + 1) d)) refl
          by ih false false false false i j k l =
              let v = leb-false (length d) p i in
              plain v (eqb-false b quote j) (eqb-false b 60 k) (eqb-false b 38 l) (onward ih v (p + 1) (rw (i, j, k, l)))

    -- VALUE: broken at q exactly so
    pub value_refused_exactly : (p q : ℕ) → (quoted_of bad o quote d p ≡ Broken q) ↔ ValueStops p q
    value_refused_exactly p q = (value_seen (suc (length d - p)) p q (omega arith), value_halted)
