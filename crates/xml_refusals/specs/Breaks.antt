-- THE BYTES THAT BREAK XML, in words: what a < opens, the rest of an end tag, a comment, a reference, an attribute; each with the place of
-- its 50. "A `<` or `</` with no name behind it 50 at the `<`; a tag that the file's end cuts, 50 at its `<`. A byte that is no legal
-- character directly behind `<` or `</` is 50 at that byte": so `end_fault`, by whether a character that is not legal ended the file.
use Rattle.std.specs.Prelude.{◌≡◌, ◌↔◌, Bool, ◌||◌, length, drop, Option, Some, None}
use Rattle.std.proofs.Math.Path.{refl}
use Rattle.std.proofs.Common.{◌∙◌}
use Rattle.std.proofs.Math.Bool.{true, false, cond}
use mathlib.Core.List.{List, [], ◌∷◌}
use Prim.Native.Nat.{ℕ, ◌+◌, ◌<◌, ◌≤◌}
use Rattle.std.proofs.Math.Dec.{leb, eqb}
use Rattle.std.proofs.Math.ListN.{get_or}
use borrow.Author.Tests.{eq-eqb, ne_eqb, eqb-true, eqb-false, le-leb, lt-leb, leb-true, leb-false}
use Rattle.markup.specs.rule.Bytes.{of_kind, starts_name, run_of, stands, end_fault}
use Rattle.markup.specs.rule.Gap.{xml_comment}
use Rattle.markup.specs.rule.Reference.{reference_of}
use Rattle.markup.specs.declared.Skip.{Skip}
use Rattle.markup.specs.declared.Skip.TheVariants.{Past, Broken}
use Rattle.markup.proofs.References.{Referred, reference_exactly}
use Rattle.angles.specs.rule.Angle.{close_of, bang_of, angle_of, end_of}
use Rattle.angles.specs.declared.Angle.{Angle}
use Rattle.angles.specs.declared.Angle.TheVariants as angle
use Rattle.attributes.specs.rule.Attribute.{run_at, on_quoted, quoted_of, valued_of, equals_of, named_of, slash_of, behind_of, attribute_of}
use Rattle.attributes.specs.declared.Attribute.TheVariants.{Shut, Faulty}
use Rattle.pairs.proofs.Stands.{NameAt}
use Rattle.bridge.specs.Lowest.{never}

-- ---- a comment behind its <!-- : the file's end, or two dashes that no > follows
pub data NoteStops (bad : Bool) (opened : ℕ) : ℕ → List ℕ → ℕ → Type 0 where
  over : {p : ℕ} → NoteStops bad opened p [] (end_fault bad p opened)
  dashes : {p b : ℕ} {s : List ℕ} → stands (45 ∷ 45 ∷ []) (b ∷ s) ≡ true → stands (45 ∷ 45 ∷ 62 ∷ []) (b ∷ s) ≡ false
      → NoteStops bad opened p (b ∷ s) p
  further : {p b q : ℕ} {s : List ℕ} → stands (45 ∷ 45 ∷ []) (b ∷ s) ≡ false → NoteStops bad opened (p + 1) s q
      → NoteStops bad opened p (b ∷ s) q

module _ (bad : Bool) (opened : ℕ) where
  note_seen : (p : ℕ) (s : List ℕ) (q : ℕ) → xml_comment bad opened p s ≡ Broken q → NoteStops bad opened p s q
  unfolding xml_comment
  note_seen p [] q e = let i : end_fault bad p opened ≡ q = cc in rw (← i) over
  note_seen p (b ∷ s) q e =
      by (note_seen (p + 1) s q) (stands (45 ∷ 45 ∷ []) (b ∷ s)) (stands (45 ∷ 45 ∷ 62 ∷ []) (b ∷ s)) refl refl e where
        by : (xml_comment bad opened (p + 1) s ≡ Broken q → NoteStops bad opened (p + 1) s q) → (x y : Bool)
            → stands (45 ∷ 45 ∷ []) (b ∷ s) ≡ x → stands (45 ∷ 45 ∷ 62 ∷ []) (b ∷ s) ≡ y
            → cond x (cond y (Past (p + 3)) (Broken p)) (xml_comment bad opened (p + 1) s) ≡ Broken q → NoteStops bad opened p (b ∷ s) q
        by ih true true i j e = never cc
        by ih true false i j e = let k : p ≡ q = cc in rw (← k) (dashes i j)
        by ih false y i j e = further i (ih e)

  note_halted : {p : ℕ} {s : List ℕ} {q : ℕ} → NoteStops bad opened p s q → xml_comment bad opened p s ≡ Broken q
  unfolding xml_comment
  note_halted over = refl
  note_halted (dashes i j) = rw (i, j)
  note_halted (further i y) = rw i (note_halted y)

  -- COMMENT: broken at q exactly so
  pub note_refused_exactly : (p : ℕ) (s : List ℕ) (q : ℕ) → (xml_comment bad opened p s ≡ Broken q) ↔ NoteStops bad opened p s q
  note_refused_exactly p s q = (note_seen p s q, note_halted)

-- ---- REFERENCE: bad exactly when what follows the & is none of the five names and no number of a legal character
pub reference_bad_exactly : (p : ℕ) (s : List ℕ) → (reference_of p s ≡ None) ↔ ((c n : ℕ) → Referred s p c n → ⊥)
reference_bad_exactly p s = (seen, λ h. by (reference_of p s) refl h) where
  differ : (c n : ℕ) → reference_of p s ≡ None → reference_of p s ≡ Some (c, n) → ⊥
  differ c n e f = never cc

  seen : reference_of p s ≡ None → (c n : ℕ) → Referred s p c n → ⊥
  seen e c n r = differ c n e ((reference_exactly p c n s).1 r)

  by : (r : Option (ℕ × ℕ)) → reference_of p s ≡ r → ((c n : ℕ) → Referred s p c n → ⊥) → reference_of p s ≡ None
  by (Some (c, n)) e h = absurd (h c n ((reference_exactly p c n s).0 e))
  by None e h = e

module _ (bad : Bool) (d : List ℕ) where
  -- ---- what a < at p opens
  pub data Angled (p : ℕ) : Angle → Type 0 where
    cut : length d ≤ p + 1 → Angled p (angle.Broken (end_fault bad (p + 1) p))
    -- </
    close : {e : ℕ} → p + 1 < length d → get_or d (p + 1) 0 ≡ 47 → NameAt d (p + 2) e → Angled p (angle.Close e)
    close_cut : p + 1 < length d → get_or d (p + 1) 0 ≡ 47 → length d ≤ p + 2 → Angled p (angle.Broken (end_fault bad (p + 2) p))
    close_nameless : p + 1 < length d → get_or d (p + 1) 0 ≡ 47 → p + 2 < length d → starts_name (get_or d (p + 2) 0) ≡ false
        → Angled p (angle.Broken p)
    -- <?, <![CDATA[, any other <!
    instruction : p + 1 < length d → get_or d (p + 1) 0 ≡ 63 → Angled p angle.Foreign
    cdata : p + 1 < length d → get_or d (p + 1) 0 ≡ 33 → stands (60 ∷ 33 ∷ 91 ∷ 67 ∷ 68 ∷ 65 ∷ 84 ∷ 65 ∷ 91 ∷ []) (drop p d) ≡ true
        → Angled p angle.Foreign
    bang : p + 1 < length d → get_or d (p + 1) 0 ≡ 33 → stands (60 ∷ 33 ∷ 91 ∷ 67 ∷ 68 ∷ 65 ∷ 84 ∷ 65 ∷ 91 ∷ []) (drop p d) ≡ false
        → Angled p (angle.Broken p)
    -- a name, or none
    start : {e : ℕ} → (get_or d (p + 1) 0 ≡ 47 → ⊥) → (get_or d (p + 1) 0 ≡ 63 → ⊥) → (get_or d (p + 1) 0 ≡ 33 → ⊥) → NameAt d (p + 1) e
        → Angled p (angle.Start e)
    nameless : p + 1 < length d → (get_or d (p + 1) 0 ≡ 47 → ⊥) → (get_or d (p + 1) 0 ≡ 63 → ⊥) → (get_or d (p + 1) 0 ≡ 33 → ⊥)
        → starts_name (get_or d (p + 1) 0) ≡ false → Angled p (angle.Broken p)

  angled : (p : ℕ) → Angled p (angle_of bad d p)
  unfolding angle_of close_of bang_of
  angled p =
      by (leb (length d) (p + 1)) (eqb b 47) (eqb b 63) (eqb b 33) (starts_name b) refl refl refl refl refl where
        b : ℕ
        b = get_or d (p + 1) 0

        closes : p + 1 < length d → b ≡ 47 → (x y : Bool) → leb (length d) (p + 2) ≡ x → starts_name (get_or d (p + 2) 0) ≡ y
            → Angled p (cond x (angle.Broken (end_fault bad (p + 2) p))
            (cond y (angle.Close (run_of (of_kind 1) (p + 2) (drop (p + 2) d))) (angle.Broken p)))
        closes h i true y j k = close_cut h i (leb-true (length d) (p + 2) j)
        closes h i false true j k = close h i (record { inside = leb-false (length d) (p + 2) j; starts = k; ends = refl })
        closes h i false false j k = close_nameless h i (leb-false (length d) (p + 2) j) k

        bangs : p + 1 < length d → b ≡ 33 → (x : Bool)
            → stands (60 ∷ 33 ∷ 91 ∷ 67 ∷ 68 ∷ 65 ∷ 84 ∷ 65 ∷ 91 ∷ []) (drop p d) ≡ x → Angled p (cond x angle.Foreign (angle.Broken p))
        bangs h i true j = cdata h i j
        bangs h i false j = bang h i j

        by : (v w x y z : Bool) → leb (length d) (p + 1) ≡ v → eqb b 47 ≡ w → eqb b 63 ≡ x → eqb b 33 ≡ y → starts_name b ≡ z
            → Angled p (cond v (angle.Broken (end_fault bad (p + 1) p))
            (cond w (cond (leb (length d) (p + 2)) (angle.Broken (end_fault bad (p + 2) p))
            (cond (starts_name (get_or d (p + 2) 0)) (angle.Close (run_of (of_kind 1) (p + 2) (drop (p + 2) d))) (angle.Broken p)))
            (cond x angle.Foreign
            (cond y (cond (stands (60 ∷ 33 ∷ 91 ∷ 67 ∷ 68 ∷ 65 ∷ 84 ∷ 65 ∷ 91 ∷ []) (drop p d)) angle.Foreign (angle.Broken p))
            (cond z (angle.Start (run_of (of_kind 1) (p + 1) (drop (p + 1) d))) (angle.Broken p))))))
        by true w x y z h i j k l = cut (leb-true (length d) (p + 1) h)
        by false true x y z h i j k l =
            closes (leb-false (length d) (p + 1) h) (eqb-true b 47 i) (leb (length d) (p + 2)) (starts_name (get_or d (p + 2) 0)) refl refl
        by false false true y z h i j k l = instruction (leb-false (length d) (p + 1) h) (eqb-true b 63 j)
        by false false false true z h i j k l =
            bangs (leb-false (length d) (p + 1) h) (eqb-true b 33 k)
            (stands (60 ∷ 33 ∷ 91 ∷ 67 ∷ 68 ∷ 65 ∷ 84 ∷ 65 ∷ 91 ∷ []) (drop p d)) refl
        by false false false false true h i j k l =
            start (eqb-false b 47 i) (eqb-false b 63 j) (eqb-false b 33 k)
            (record { inside = leb-false (length d) (p + 1) h; starts = l; ends = refl })
        by false false false false false h i j k l =
            nameless (leb-false (length d) (p + 1) h) (eqb-false b 47 i) (eqb-false b 63 j) (eqb-false b 33 k) l

  angle_is : (p : ℕ) {a : Angle} → Angled p a → angle_of bad d p ≡ a
  unfolding angle_of close_of bang_of
  angle_is p (cut h) = rw (le-leb (length d) (p + 1) h)
  angle_is p (close h i n) =
      rw (lt-leb (length d) (p + 1) h, eq-eqb (get_or d (p + 1) 0) 47 i, lt-leb (length d) (p + 2) n.inside, n.starts, ← n.ends)
  angle_is p (close_cut h i j) =
      rw (lt-leb (length d) (p + 1) h, eq-eqb (get_or d (p + 1) 0) 47 i, le-leb (length d) (p + 2) j)
  angle_is p (close_nameless h i j k) =
      rw (lt-leb (length d) (p + 1) h, eq-eqb (get_or d (p + 1) 0) 47 i, lt-leb (length d) (p + 2) j, k)
  angle_is p (instruction h i) = rw (lt-leb (length d) (p + 1) h, i)
  angle_is p (cdata h i j) = rw (lt-leb (length d) (p + 1) h, i, j)
  angle_is p (bang h i j) = rw (lt-leb (length d) (p + 1) h, i, j)
  angle_is p (start i j k n) =
      rw (
        lt-leb (length d) (p + 1) n.inside,
        ne_eqb (get_or d (p + 1) 0) 47 i,
        ne_eqb (get_or d (p + 1) 0) 63 j,
        ne_eqb (get_or d (p + 1) 0) 33 k,
        n.starts,
        ← n.ends,
      )
  angle_is p (nameless h i j k l) =
      rw (
        lt-leb (length d) (p + 1) h,
        ne_eqb (get_or d (p + 1) 0) 47 i,
        ne_eqb (get_or d (p + 1) 0) 63 j,
        ne_eqb (get_or d (p + 1) 0) 33 k,
        l,
      )

  -- ANGLE: whatever a < opens, it opens exactly so
  pub angle_exactly : (p : ℕ) (a : Angle) → (angle_of bad d p ≡ a) ↔ Angled p a
  angle_exactly p a = (λ e. rw (← e) (angled p), angle_is p)

  -- ---- behind the name of an end tag that opened at o: white space up to n, and then >, the file's end, or another byte
  pub data EndsBy (o e : ℕ) : Skip → Type 0 where
    whole : {n : ℕ} → run_of (of_kind 0) e (drop e d) ≡ n → n < length d → get_or d n 0 ≡ 62 → EndsBy o e (Past (n + 1))
    cut : {n : ℕ} → run_of (of_kind 0) e (drop e d) ≡ n → length d ≤ n → EndsBy o e (Broken (end_fault bad n o))
    other : {n : ℕ} → run_of (of_kind 0) e (drop e d) ≡ n → n < length d → (get_or d n 0 ≡ 62 → ⊥) → EndsBy o e (Broken n)

  ends_by : (o e : ℕ) → EndsBy o e (end_of bad d o e)
  unfolding end_of
  ends_by o e = by (leb (length d) n) (eqb (get_or d n 0) 62) refl refl where
    n : ℕ
    n = run_of (of_kind 0) e (drop e d)

    by : (x y : Bool) → leb (length d) n ≡ x → eqb (get_or d n 0) 62 ≡ y
        → EndsBy o e (cond x (Broken (end_fault bad n o)) (cond y (Past (n + 1)) (Broken n)))
    by true y h i = cut refl (leb-true (length d) n h)
    by false true h i = whole refl (leb-false (length d) n h) (eqb-true (get_or d n 0) 62 i)
    by false false h i = other refl (leb-false (length d) n h) (eqb-false (get_or d n 0) 62 i)

  end_is : (o e : ℕ) {r : Skip} → EndsBy o e r → end_of bad d o e ≡ r
  unfolding end_of
  end_is o e (whole {n} r h i) = rw (r, lt-leb (length d) n h, i)
  end_is o e (cut {n} r h) = rw (r, le-leb (length d) n h)
  end_is o e (other {n} r h i) = rw (r, lt-leb (length d) n h, ne_eqb (get_or d n 0) 62 i)

  -- END: the rest of an end tag is answered exactly so
  pub end_exactly : (o e : ℕ) (r : Skip) → (end_of bad d o e ≡ r) ↔ EndsBy o e r
  end_exactly o e r = (λ i. rw (← i) (ends_by o e), end_is o e)

  -- ---- an attribute, or the tag's end, is due behind at, in a tag that opened at o
  module _ (o at : ℕ) where
    -- white space goes up to n, where neither > nor / stands
    pub record Goes (n : ℕ) : Type 0 where
      pub white : run_at 0 d at ≡ n
      pub inside : n < length d
      pub no_end : get_or d n 0 ≡ 62 → ⊥
      pub no_slash : get_or d n 0 ≡ 47 → ⊥

    -- behind it stands a name, and behind that white space up to k
    pub record Named (n k : ℕ) : Type 0 where
      pub goes : Goes n
      pub spaced : n ≡ at → ⊥
      pub starts : starts_name (get_or d n 0) ≡ true
      pub white : run_at 0 d (run_at 1 d n) ≡ k

    -- there stands =, and behind it white space up to v
    pub record Signed (n k v : ℕ) : Type 0 where
      pub named : Named n k
      pub inside : k < length d
      pub sign : get_or d k 0 ≡ 61
      pub white : run_at 0 d (k + 1) ≡ v

    pub data AttributeStops : ℕ → Type 0 where
      cut : {n : ℕ} → run_at 0 d at ≡ n → length d ≤ n → AttributeStops (end_fault bad n o)
      slash_cut : {n : ℕ} → run_at 0 d at ≡ n → n < length d → get_or d n 0 ≡ 47 → length d ≤ n + 1 → AttributeStops (end_fault bad n o)
      slash : {n : ℕ} → run_at 0 d at ≡ n → n < length d → get_or d n 0 ≡ 47 → n + 1 < length d → (get_or d (n + 1) 0 ≡ 62 → ⊥)
          → AttributeStops n
      unspaced : {n : ℕ} → Goes n → n ≡ at → AttributeStops n
      nameless : {n : ℕ} → Goes n → (n ≡ at → ⊥) → starts_name (get_or d n 0) ≡ false → AttributeStops n
      sign_cut : {n k : ℕ} → Named n k → length d ≤ k → AttributeStops (end_fault bad k o)
      signless : {n k : ℕ} → Named n k → k < length d → (get_or d k 0 ≡ 61 → ⊥) → AttributeStops k
      value_cut : {n k v : ℕ} → Signed n k v → length d ≤ v → AttributeStops (end_fault bad v o)
      unquoted : {n k v : ℕ} → Signed n k v → v < length d → (eqb (get_or d v 0) 34 || eqb (get_or d v 0) 39) ≡ false → AttributeStops v
      in_value : {n k v q : ℕ} → Signed n k v → v < length d → (eqb (get_or d v 0) 34 || eqb (get_or d v 0) 39) ≡ true
          → quoted_of bad o (get_or d v 0) d (v + 1) ≡ Broken q → AttributeStops q

    moved : {p q : ℕ} → p ≡ q → AttributeStops p → AttributeStops q
    moved e y = rw (← e) y

    module _ {q : ℕ} where
      value_seen : (n k v : ℕ) → Signed n k v → valued_of bad d o n (run_at 1 d n) v ≡ Faulty q → AttributeStops q
      unfolding valued_of
      value_seen n k v s z = by (leb (length d) v) (eqb (get_or d v 0) 34 || eqb (get_or d v 0) 39) refl refl z where
        quoted : leb (length d) v ≡ false → (eqb (get_or d v 0) 34 || eqb (get_or d v 0) 39) ≡ true → (r : Skip)
            → quoted_of bad o (get_or d v 0) d (v + 1) ≡ r → on_quoted n (run_at 1 d n) (v + 1) r ≡ Faulty q → AttributeStops q
        quoted h i (Past j) r z = never cc
        quoted h i (Broken j) r z = let k : j ≡ q = cc in moved k (in_value s (leb-false (length d) v h) i r)

        by : (x y : Bool) → leb (length d) v ≡ x → (eqb (get_or d v 0) 34 || eqb (get_or d v 0) 39) ≡ y
            → cond x (Faulty (end_fault bad v o))
            (cond y (on_quoted n (run_at 1 d n) (v + 1) (quoted_of bad o (get_or d v 0) d (v + 1))) (Faulty v)) ≡ Faulty q
            → AttributeStops q
        by true y h i z = let j : end_fault bad v o ≡ q = cc in moved j (value_cut s (leb-true (length d) v h))
        by false true h i z = quoted h i (quoted_of bad o (get_or d v 0) d (v + 1)) refl z
        by false false h i z = let j : v ≡ q = cc in moved j (unquoted s (leb-false (length d) v h) i)

      sign_seen : (n k : ℕ) → Named n k → equals_of bad d o n (run_at 1 d n) k ≡ Faulty q → AttributeStops q
      unfolding equals_of
      sign_seen n k s z = by (leb (length d) k) (eqb (get_or d k 0) 61) refl refl z where
        by : (x y : Bool) → leb (length d) k ≡ x → eqb (get_or d k 0) 61 ≡ y
            → cond x (Faulty (end_fault bad k o)) (cond y (valued_of bad d o n (run_at 1 d n) (run_at 0 d (k + 1))) (Faulty k)) ≡ Faulty q
            → AttributeStops q
        by true y h i z = let j : end_fault bad k o ≡ q = cc in moved j (sign_cut s (leb-true (length d) k h))
        by false true h i z =
            value_seen n k (run_at 0 d (k + 1))
            (record { named = s; inside = leb-false (length d) k h; sign = eqb-true (get_or d k 0) 61 i; white = refl }) z
        by false false h i z = let j : k ≡ q = cc in moved j (signless s (leb-false (length d) k h) (eqb-false (get_or d k 0) 61 i))

      slash_seen : (n : ℕ) → run_at 0 d at ≡ n → n < length d → get_or d n 0 ≡ 47 → slash_of bad d o n ≡ Faulty q → AttributeStops q
      unfolding slash_of
      slash_seen n r h i z = by (leb (length d) (n + 1)) (eqb (get_or d (n + 1) 0) 62) refl refl z where
        by : (x y : Bool) → leb (length d) (n + 1) ≡ x → eqb (get_or d (n + 1) 0) 62 ≡ y
            → cond x (Faulty (end_fault bad n o)) (cond y (Shut true n (n + 2)) (Faulty n)) ≡ Faulty q → AttributeStops q
        by true y j k z = let l : end_fault bad n o ≡ q = cc in moved l (slash_cut r h i (leb-true (length d) (n + 1) j))
        by false true j k z = never cc
        by false false j k z =
            let l : n ≡ q = cc in moved l (slash r h i (leb-false (length d) (n + 1) j) (eqb-false (get_or d (n + 1) 0) 62 k))

      attribute_seen : attribute_of bad d o at ≡ Faulty q → AttributeStops q
      unfolding attribute_of behind_of named_of
      attribute_seen z =
          by (leb (length d) n) (eqb b 62) (eqb b 47) (eqb n at) (starts_name b) refl refl refl refl refl z where
            n : ℕ
            n = run_at 0 d at

            b : ℕ
            b = get_or d n 0

            goes : leb (length d) n ≡ false → eqb b 62 ≡ false → eqb b 47 ≡ false → Goes n
            goes h i j =
                record { white = refl; inside = leb-false (length d) n h; no_end = eqb-false b 62 i; no_slash = eqb-false b 47 j }

            by : (v w x y s : Bool) → leb (length d) n ≡ v → eqb b 62 ≡ w → eqb b 47 ≡ x → eqb n at ≡ y → starts_name b ≡ s
                → cond v (Faulty (end_fault bad n o))
                (cond w (Shut false n (n + 1))
                (cond x (slash_of bad d o n)
                (cond y (Faulty n)
                (cond s (equals_of bad d o n (run_at 1 d n) (run_at 0 d (run_at 1 d n))) (Faulty n))))) ≡ Faulty q → AttributeStops q
            by true w x y s h i j k l z = let m : end_fault bad n o ≡ q = cc in moved m (cut refl (leb-true (length d) n h))
            by false true x y s h i j k l z = never cc
            by false false true y s h i j k l z = slash_seen n refl (leb-false (length d) n h) (eqb-true b 47 j) z
            by false false false true s h i j k l z =
                let m : n ≡ q = cc in moved m (unspaced (goes h i j) (eqb-true n at k))
            by false false false false true h i j k l z =
                sign_seen n (run_at 0 d (run_at 1 d n))
                (record { goes = goes h i j; spaced = eqb-false n at k; starts = l; white = refl }) z
            by false false false false false h i j k l z =
                let m : n ≡ q = cc in moved m (nameless (goes h i j) (eqb-false n at k) l)

    -- ---- and back
    goes_on : {n : ℕ} → Goes n → attribute_of bad d o at
        ≡ cond (eqb n at) (Faulty n) (cond (starts_name (get_or d n 0)) (named_of bad d o n) (Faulty n))
    unfolding attribute_of behind_of
    goes_on {n} g =
        rw (g.white, lt-leb (length d) n g.inside, ne_eqb (get_or d n 0) 62 g.no_end, ne_eqb (get_or d n 0) 47 g.no_slash)

    named_on : {n k : ℕ} → Named n k → attribute_of bad d o at ≡ equals_of bad d o n (run_at 1 d n) k
    unfolding named_of
    named_on {n} y = goes_on y.goes ∙ rw (ne_eqb n at y.spaced, y.starts, y.white)

    signed_on : {n k v : ℕ} → Signed n k v → attribute_of bad d o at ≡ valued_of bad d o n (run_at 1 d n) v
    unfolding equals_of
    signed_on {n} {k} y =
        named_on y.named ∙ rw (lt-leb (length d) k y.inside, eq-eqb (get_or d k 0) 61 y.sign, y.white)

    attribute_halted : {q : ℕ} → AttributeStops q → attribute_of bad d o at ≡ Faulty q
    unfolding attribute_of behind_of slash_of equals_of valued_of
    attribute_halted (cut {n} r h) = rw (r, le-leb (length d) n h)
    attribute_halted (slash_cut {n} r h i j) = rw (r, lt-leb (length d) n h, i, le-leb (length d) (n + 1) j)
    attribute_halted (slash {n} r h i j k) =
        rw (r, lt-leb (length d) n h, i, lt-leb (length d) (n + 1) j, ne_eqb (get_or d (n + 1) 0) 62 k)
    attribute_halted (unspaced {n} g e) = goes_on g ∙ rw (eq-eqb n at e)
    attribute_halted (nameless {n} g e i) = goes_on g ∙ rw (ne_eqb n at e, i)
    attribute_halted (sign_cut {k = k} y h) = named_on y ∙ rw (le-leb (length d) k h)
    attribute_halted (signless {k = k} y h i) = named_on y ∙ rw (lt-leb (length d) k h, ne_eqb (get_or d k 0) 61 i)
    attribute_halted (value_cut {v = v} y h) = signed_on y ∙ rw (le-leb (length d) v h)
    attribute_halted (unquoted {v = v} y h i) = signed_on y ∙ rw (lt-leb (length d) v h, i)
    attribute_halted (in_value {v = v} y h i r) = signed_on y ∙ rw (lt-leb (length d) v h, i, r)

    -- ATTRIBUTE: 50 at q exactly so
    pub attribute_refused_exactly : (q : ℕ) → (attribute_of bad d o at ≡ Faulty q) ↔ AttributeStops q
    attribute_refused_exactly q = (attribute_seen, attribute_halted)
