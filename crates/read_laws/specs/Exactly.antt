-- What follows from rule/Exactly.antt, and what the code keeps.
use Rattle.std.proofs.Math.Path.{◌≡◌, refl, ap}
use Rattle.std.proofs.Common.{◌∙◌, arith, eqb-true, leb-true, le-leb}
use Rattle.std.specs.Prelude.{Bool, ℕ, zero, suc, leb, ℤ, pos, length, get_or}
use Rattle.std.proofs.Math.Bool.{true, false, cond}
use mathlib.Core.List.{List, [], ◌∷◌}
use Rattle.std.proofs.Math.Dec.{eqb}
use Rattle.below.specs.Below.{holds_not, and_left, and_right, and_true}
use Rattle.cells.specs.rule.Cell.{eq_z}
use Rattle.cells.specs.Cell.{same_true, same_self}
use Rattle.layout.specs.declared.Format.{Format}
use Rattle.layout.specs.declared.Spread.TheVariants.{Bits, Fields}
use Rattle.layout.specs.declared.Kind.{Kind}
use Rattle.layout.specs.declared.Kind.TheVariants.{Single, Multiple, Quantity, Character, Logical}
use Rattle.layout.specs.declared.Row.{Row}
use Rattle.fields.specs.rule.Legal.{legal}
use Rattle.fields.specs.rule.Number.{Said, blank, says, wrong, all_spaces, code_of, quantity_of}
use Rattle.fields.specs.rule.Field.{missing, number, members, text, truth, Field, holds, illegal, number_field, single_says, quantity_says}
use Rattle.fields.specs.rule.Field.{all_bits, set_bits, bits_field, all_entries, spread_set, spread_field, all_plain, unended, text_field}
use Rattle.fields.specs.rule.Field.{truth_field}
use Rattle.fields.specs.rule.Row.{categories, field_by}
use Rattle.numbers.specs.rule.Format.{FormatFacts}
use Rattle.read_laws.specs.rule.Forms.{Spaces, CodeForm, QuantityForm}
use Rattle.read_laws.specs.Forms.{code_exactly, code_blank_exactly, code_wrong_exactly}
use Rattle.read_laws.specs.Forms.{quantity_exactly, quantity_blank_exactly, quantity_wrong_exactly, spaces_all, all_spaces_lem}
use Rattle.read_laws.specs.rule.Kinds.{BitForm}
use Rattle.read_laws.specs.Kinds.{single_exactly, zero_not, not_zero, bits_exactly}
use Rattle.read_laws.specs.rule.Others.{Entries}
use Rattle.read_laws.specs.Others.{text_exactly, spread_exactly, spread_set_of, spread_set_is}
use Rattle.read_laws.specs.Missing.{spaces_missing}
use Rattle.read_laws.specs.rule.Exactly.{AllPlain, Illegal, single, quantity, bitstring, spread, character, logical, FieldSays}
use Rattle.read_laws.specs.rule.Exactly.{blank_field}
use Rattle.read_laws.specs.rule.Exactly.{single_zero, single_number, quantity_number, bits_set, spread_set_lem, character_text}
use Rattle.read_laws.specs.rule.Exactly.{logical_true, logical_false, no_value, Given}

module _ (t : List ℤ) (v : ℕ) (r : Row) (s : List ℕ) where
  -- ---- spaces or not
  not_spaces : (Spaces s → ⊥) → all_spaces s ≡ false
  not_spaces n = go (all_spaces s) refl
    where
      go : (b : Bool) → all_spaces s ≡ b → b ≡ false
      go true e = absurd (n (all_spaces_lem s e))
      go false e = refl

  spaces_not : all_spaces s ≡ false → Spaces s → ⊥
  spaces_not e a = holds_not (spaces_all a) e

  -- ---- SINGLE
  single_named : FieldSays t v r s Single (field_by Single t v r s)
  unfolding field_by single_says number_field
  single_named = go (code_of s) refl
    where
      by : (z : ℤ) → code_of s ≡ says z → (a b : Bool) → eq_z z (pos 0) ≡ a → legal t v r z ≡ b
          → FieldSays t v r s Single (cond a (holds missing) (cond b (holds (number z)) illegal))
      by z u true b p q = single_zero ((code_exactly s (pos 0)).0 (u ∙ ap says (same_true z (pos 0) p)))
      by z u false true p q = single_number ((code_exactly s z).0 u) (not_zero z p) q
      by z u false false p q =
          no_value
          (single (λ a. let e = (code_blank_exactly s).1 a in let k : ◌≡◌ {A = ℕ} 0 1 = cc in omega arith)
          (λ y f. let e = (code_exactly s y).1 f in let w : z ≡ y = cc in (not_zero y (rw w at p), rw w at q)))

      go : (x : Said) → code_of s ≡ x → FieldSays t v r s Single (single_says (legal t v r) x)
      go blank u = blank_field ((code_blank_exactly s).0 u)
      go wrong u = let e = (code_wrong_exactly s).0 u in no_value (single e.0 (λ z f. absurd (e.1 z f)))
      go (says z) u = by z u (eq_z z (pos 0)) (legal t v r z) refl refl

  single_illegal : (Spaces s → ⊥) → ((z : ℤ) → CodeForm s z → (z ≡ pos 0 → ⊥) × (legal t v r z ≡ false)) → field_by Single t v r s ≡ illegal
  unfolding field_by single_says number_field
  single_illegal n h = go (code_of s) refl
    where
      go : (x : Said) → code_of s ≡ x → single_says (legal t v r) x ≡ illegal
      go blank u = absurd (n ((code_blank_exactly s).0 u))
      go wrong u = refl
      go (says z) u = let q = h z ((code_exactly s z).0 u) in rw (zero_not z q.0, q.1)

  -- ---- QUANTITY
  module _ (f : Format) (facts : FormatFacts f) where
    quantity_named : FieldSays t v r s (Quantity f) (field_by (Quantity f) t v r s)
    unfolding field_by quantity_says number_field
    quantity_named = go (quantity_of f s) refl
      where
        by : (z : ℤ) → quantity_of f s ≡ says z → (b : Bool) → legal t v r z ≡ b
            → FieldSays t v r s (Quantity f) (cond b (holds (number z)) illegal)
        by z u true q = quantity_number ((quantity_exactly f facts s z).0 u) q
        by z u false q =
            no_value
            (quantity (λ a. let e = (quantity_blank_exactly f facts s).1 a in let k : ◌≡◌ {A = ℕ} 0 1 = cc in omega arith)
            (λ y g. let e = (quantity_exactly f facts s y).1 g in let w : z ≡ y = cc in rw w at q))

        go : (x : Said) → quantity_of f s ≡ x → FieldSays t v r s (Quantity f) (quantity_says (legal t v r) x)
        go blank u = blank_field ((quantity_blank_exactly f facts s).0 u)
        go wrong u = let e = (quantity_wrong_exactly f facts s).0 u in no_value (quantity e.0 (λ z g. absurd (e.1 z g)))
        go (says z) u = by z u (legal t v r z) refl

    quantity_only : {z : ℤ} → QuantityForm f s z → legal t v r z ≡ true → field_by (Quantity f) t v r s ≡ holds (number z)
    unfolding field_by quantity_says number_field
    quantity_only {z} g l = rw ((quantity_exactly f facts s z).1 g, l)

    quantity_illegal : (Spaces s → ⊥) → ((z : ℤ) → QuantityForm f s z → legal t v r z ≡ false) → field_by (Quantity f) t v r s ≡ illegal
    unfolding field_by quantity_says number_field
    quantity_illegal n h = go (quantity_of f s) refl
      where
        go : (x : Said) → quantity_of f s ≡ x → quantity_says (legal t v r) x ≡ illegal
        go blank u = absurd (n ((quantity_blank_exactly f facts s).0 u))
        go wrong u = refl
        go (says z) u = rw (h z ((quantity_exactly f facts s z).0 u))

  -- ---- a bitstring
  module _ (even : length (categories t v r) ≡ length s) where
    cs : List ℕ
    cs = categories t v r

    bits_named : FieldSays t v r s (Multiple Bits) (field_by (Multiple Bits) t v r s)
    unfolding field_by bits_field cs
    bits_named = go (all_spaces s) (all_bits s) refl refl
      where
        go : (a b : Bool) → all_spaces s ≡ a → all_bits s ≡ b
            → FieldSays t v r s (Multiple Bits) (cond a (holds missing) (cond b (holds (members (set_bits cs s))) illegal))
        go true b p q = blank_field (all_spaces_lem s p)
        go false true p q = bits_set (spaces_not p) ((bits_exactly cs s even (set_bits cs s)).0 (rw (p, q))).0
        go false false p q =
            no_value
            (bitstring (spaces_not p)
            (λ ms f. let e : illegal ≡ holds (members ms) = rw (p, q) at ((bits_exactly cs s even ms).1 f p) in
            let k : ◌≡◌ {A = ℕ} 0 1 = cc in omega arith))

    bits_illegal : (Spaces s → ⊥) → ((ms : List ℤ) → BitForm (categories t v r) s ms → ⊥) → field_by (Multiple Bits) t v r s ≡ illegal
    unfolding field_by bits_field cs
    bits_illegal n h = go (all_bits s) refl
      where
        go : (b : Bool) → all_bits s ≡ b → cond (all_spaces s) (holds missing) (cond b (holds (members (set_bits cs s))) illegal) ≡ illegal
        go true q = absurd (h (set_bits cs s) ((bits_exactly cs s even (set_bits cs s)).0 (rw (not_spaces n, q))).0)
        go false q = rw (not_spaces n)

  -- ---- a spread
  module _ (n b : ℕ) where
    ok : ℤ → Bool
    ok = legal t v r

    spread_named : FieldSays t v r s (Multiple (Fields n b)) (field_by (Multiple (Fields n b)) t v r s)
    unfolding field_by spread_field ok
    spread_named = go (all_spaces s) (all_entries ok r.width n s) refl refl
      where
        go : (a c : Bool) → all_spaces s ≡ a → all_entries ok r.width n s ≡ c
            → FieldSays t v r s (Multiple (Fields n b))
            (cond a (holds missing) (cond c (holds (members (spread_set r.width n s))) illegal))
        go true c p q = blank_field (all_spaces_lem s p)
        go false true p q =
            spread_set_lem (spaces_not p) ((spread_exactly ok r.width n s (spread_set r.width n s)).0 (rw (p, q))).1
            (spread_set_of r.width n s)
        go false false p q =
            no_value
            (spread (spaces_not p)
            (λ e. let x : illegal ≡ holds (members (spread_set r.width n s)) =
            rw (p, q) at ((spread_exactly ok r.width n s (spread_set r.width n s)).1 p e refl) in
            let k : ◌≡◌ {A = ℕ} 0 1 = cc in omega arith))

    spread_illegal : (Spaces s → ⊥) → (Entries (legal t v r) r.width n s → ⊥) → field_by (Multiple (Fields n b)) t v r s ≡ illegal
    unfolding field_by spread_field ok
    spread_illegal m h = go (all_entries ok r.width n s) refl
      where
        go : (c : Bool) → all_entries ok r.width n s ≡ c
            → cond (all_spaces s) (holds missing) (cond c (holds (members (spread_set r.width n s))) illegal) ≡ illegal
        go true q = absurd (h ((spread_exactly ok r.width n s (spread_set r.width n s)).0 (rw (not_spaces m, q))).1)
        go false q = rw (not_spaces m)

-- ---- CHARACTER: no byte below 32
plain_all : (s : List ℕ) → all_plain s ≡ true → AllPlain s
unfolding all_plain
plain_all [] e p h = absurd (omega arith)
plain_all (b ∷ s) e zero h = leb-true 32 b (and_left (leb 32 b) (all_plain s) e)
plain_all (b ∷ s) e (suc p) h = plain_all s (and_right (leb 32 b) (all_plain s) e) p (omega arith)

all_plain_lem : (s : List ℕ) → AllPlain s → all_plain s ≡ true
unfolding all_plain
all_plain_lem [] h = refl
all_plain_lem (b ∷ s) h = and_true (leb 32 b) (all_plain s) (le-leb 32 b (h 0 (omega arith)))
    (all_plain_lem s (λ p l. h (suc p) (omega arith)))

module _ (t : List ℤ) (v : ℕ) (r : Row) (s : List ℕ) where
  character_named : FieldSays t v r s Character (field_by Character t v r s)
  unfolding field_by text_field
  character_named = go (all_spaces s) (all_plain s) refl refl
    where
      go : (a b : Bool) → all_spaces s ≡ a → all_plain s ≡ b
          → FieldSays t v r s Character (cond a (holds missing) (cond b (holds (text (unended s))) illegal))
      go true b p q = blank_field (all_spaces_lem s p)
      go false true p q = character_text ((text_exactly s (unended s)).0 (rw (p, q))).0 (plain_all s q)
      go false false p q = no_value (character (spaces_not t v r s p) (λ h. holds_not (all_plain_lem s h) q))

  character_illegal : (Spaces s → ⊥) → (AllPlain s → ⊥) → field_by Character t v r s ≡ illegal
  unfolding field_by text_field
  character_illegal n h = go (all_plain s) refl
    where
      go : (b : Bool) → all_plain s ≡ b → cond (all_spaces s) (holds missing) (cond b (holds (text (unended s))) illegal) ≡ illegal
      go true q = absurd (h (plain_all s q))
      go false q = rw (not_spaces t v r s n)

  -- ---- LOGICAL: one byte
  one_byte_lem : {b : ℕ} → length s ≡ 1 → get_or s 0 0 ≡ b → s ≡ b ∷ []
  one_byte_lem n e = go s n e
    where
      go : (x : List ℕ) {b : ℕ} → length x ≡ 1 → get_or x 0 0 ≡ b → x ≡ b ∷ []
      go [] n e = absurd (omega arith)
      go (a ∷ []) n e = rw e
      go (a ∷ c ∷ x) n e = absurd (omega arith)

  logical_named : length s ≡ 1 → FieldSays t v r s Logical (field_by Logical t v r s)
  unfolding field_by truth_field
  logical_named n = go (all_spaces s) (eqb (get_or s 0 0) 49) (eqb (get_or s 0 0) 48) refl refl refl
    where
      go : (a b c : Bool) → all_spaces s ≡ a → eqb (get_or s 0 0) 49 ≡ b → eqb (get_or s 0 0) 48 ≡ c
          → FieldSays t v r s Logical (cond a (holds missing) (cond b (holds (truth true)) (cond c (holds (truth false)) illegal)))
      go true b c p q u = blank_field (all_spaces_lem s p)
      go false true c p q u = logical_true (one_byte_lem n (eqb-true (get_or s 0 0) 49 q))
      go false false true p q u = logical_false (one_byte_lem n (eqb-true (get_or s 0 0) 48 u))
      go false false false p q u =
          no_value
          (logical (spaces_not t v r s p) (λ e. holds_not (ap (λ (x : List ℕ). eqb (get_or x 0 0) 49) e) q)
          (λ e. holds_not (ap (λ (x : List ℕ). eqb (get_or x 0 0) 48) e) u))

  logical_illegal : length s ≡ 1 → (Spaces s → ⊥) → (s ≡ 49 ∷ [] → ⊥) → (s ≡ 48 ∷ [] → ⊥) → field_by Logical t v r s ≡ illegal
  unfolding field_by truth_field
  logical_illegal l n one none = go (eqb (get_or s 0 0) 49) (eqb (get_or s 0 0) 48) refl refl
    where
      go : (b c : Bool) → eqb (get_or s 0 0) 49 ≡ b → eqb (get_or s 0 0) 48 ≡ c
          → cond (all_spaces s) (holds missing) (cond b (holds (truth true)) (cond c (holds (truth false)) illegal)) ≡ illegal
      go true c q u = absurd (one (one_byte_lem l (eqb-true (get_or s 0 0) 49 q)))
      go false true q u = absurd (none (one_byte_lem l (eqb-true (get_or s 0 0) 48 u)))
      go false false q u = rw (not_spaces t v r s n)

  -- ---- THE FIELD, both ways
  pub field_named : (k : Kind) → Given t v r s k → FieldSays t v r s k (field_by k t v r s)
  field_named Single g = single_named t v r s
  field_named (Multiple Bits) g = bits_named t v r s g
  field_named (Multiple (Fields n b)) g = spread_named t v r s n b
  field_named (Quantity f) g = quantity_named t v r s f g
  field_named Character g = character_named
  field_named Logical g = logical_named g

  illegal_only : {k : Kind} → Given t v r s k → Illegal t v r s k → field_by k t v r s ≡ illegal
  illegal_only g (single n h) = single_illegal t v r s n h
  illegal_only g (quantity {f} n h) = quantity_illegal t v r s f g n h
  illegal_only g (bitstring n h) = bits_illegal t v r s g n h
  illegal_only g (spread {n} {b} m h) = spread_illegal t v r s n b m h
  illegal_only g (character n h) = character_illegal n h
  illegal_only g (logical n h m) = logical_illegal g n h m

  pub field_only : {k : Kind} {f : Field} → Given t v r s k → FieldSays t v r s k f → field_by k t v r s ≡ f
  unfolding field_by truth_field all_spaces single_says
  field_only {k} g (blank_field a) = spaces_missing k t v r s a
  field_only g (single_zero f) = rw ((code_exactly s (pos 0)).1 f, same_self (pos 0))
  field_only g (single_number {z} f n l) = (single_exactly (legal t v r) s z).1 (record { form = f; some = n; legal_number = l })
  field_only g (quantity_number {f} h l) = quantity_only t v r s f g h l
  field_only g (bits_set {ms} n f) = (bits_exactly (categories t v r) s g ms).1 f (not_spaces t v r s n)
  field_only g (spread_set_lem {n} {b} {ms} m e h) =
      (spread_exactly (legal t v r) r.width n s ms).1 (not_spaces t v r s m) e (spread_set_is r.width n s ms h)
  field_only g (character_text {x} f p) = (text_exactly s x).1 f (all_plain_lem s p)
  field_only g (logical_true e) = rw e
  field_only g (logical_false e) = rw e
  field_only g (no_value i) = illegal_only g i

  -- ILLEGAL EXACTLY when it is neither spaces nor the form with a legal number
  illegal_by : {k : Kind} {f : Field} → FieldSays t v r s k f → f ≡ illegal → Illegal t v r s k
  illegal_by (no_value i) e = i
  illegal_by (blank_field a) e = let k : ◌≡◌ {A = ℕ} 0 1 = cc in absurd (omega arith)
  illegal_by (single_zero f) e = let k : ◌≡◌ {A = ℕ} 0 1 = cc in absurd (omega arith)
  illegal_by (single_number f n l) e = let k : ◌≡◌ {A = ℕ} 0 1 = cc in absurd (omega arith)
  illegal_by (quantity_number h l) e = let k : ◌≡◌ {A = ℕ} 0 1 = cc in absurd (omega arith)
  illegal_by (bits_set n f) e = let k : ◌≡◌ {A = ℕ} 0 1 = cc in absurd (omega arith)
  illegal_by (spread_set_lem m f h) e = let k : ◌≡◌ {A = ℕ} 0 1 = cc in absurd (omega arith)
  illegal_by (character_text f p) e = let k : ◌≡◌ {A = ℕ} 0 1 = cc in absurd (omega arith)
  illegal_by (logical_true q) e = let k : ◌≡◌ {A = ℕ} 0 1 = cc in absurd (omega arith)
  illegal_by (logical_false q) e = let k : ◌≡◌ {A = ℕ} 0 1 = cc in absurd (omega arith)

  pub illegal_exactly : (k : Kind) → Given t v r s k
      → (field_by k t v r s ≡ illegal → Illegal t v r s k) × (Illegal t v r s k → field_by k t v r s ≡ illegal)
  illegal_exactly k g = (λ e. illegal_by (field_named k g) e, λ i. illegal_only g i)
