-- A bitstring that is legal and has every category from 1 to its width: its entries by its bytes, one behind the other.
-- Assumes nothing.
use Rattle.std.specs.Prelude.{◌≡◌, Bool, ◌&&◌, ℕ, zero, suc, ◌+◌, ◌-◌, ◌*◌, ◌≤◌, ◌<◌, eqb, ltb, ℤ, pos, set}
use Rattle.std.proofs.Math.Path.{refl, ap}
use Rattle.std.proofs.Common.{sym, ◌∙◌, add-zero, add-one, get_or-set_same}
use Rattle.std.proofs.Math.Logic.{⊎_elim}
use Rattle.std.proofs.Math.Bool.{true, false, cond}
use mathlib.Core.List.{List, [], ◌∷◌, ◌++◌}
use native.Mathlib.Omega.{arith}
use borrow.Author.Tests.{eq-eqb, ne_eqb, lt-ltb, le-ltb}
use Rattle.std.proofs.Math.ListN.{length, get_or}
use Rattle.std.proofs.Math.Seq.{get_or-set_other}
use Rattle.below.specs.Below.{holds_not, lt_or_le}
use Rattle.cells.specs.rule.Cell.{count_of}
use Rattle.places.specs.rule.Places.{pick}
use Rattle.layout.specs.declared.Kind.TheVariants.{Multiple}
use Rattle.layout.specs.declared.Row.{Row}
use Rattle.layout.specs.declared.Spread.TheVariants.{Bits}
use Rattle.fields.specs.rule.Number.{all_spaces}
use Rattle.fields.specs.rule.Legal.{legal}
use Rattle.fields.specs.rule.Field.{Field, holds, illegal, missing, members, is_member, all_bits, set_bits, bits_field, passing}
use Rattle.fields.specs.rule.Row.{defined, bit_places, reading_of}
use Rattle.sets.specs.rule.Sets.{is_illegal}
use Rattle.sets.specs.Full.{EachLegal, always, each_defined}
use Rattle.sets.specs.Marks.{flag}
use Rattle.sets.specs.Sets.{bits_field_at}
use Rattle.sets.proofs.MarkLaws.{flag_back}
use Rattle.readings.proofs.Laws.{as_bits}
use Rattle.matrix.specs.declared.Entry.{Entry}
use Rattle.matrix.specs.declared.Entry.TheVariants.{Scaled}
use Rattle.matrix.specs.Put.{put_entries}
use Rattle.matrix.specs.Entry.{entries_none, entries_then}
use Rattle.matrix.specs.Noughts.{noughts}
use Rattle.columns.specs.rule.Columns.{member_entry}
use Rattle.columns.specs.Reach.{Readable, bits_covered}
use Rattle.columns.specs.Marked.{marked_entry, member_entries}
use Rattle.columns.specs.Members.{reached}
use Rattle.columns.specs.Ones.{stretch_from, length_stretch, stretch_then, stretch_noughts}
use Rattle.columns.specs.Rows.{MarkedSet}
use Rattle.columns.specs.Listed.{member_passing}
use Rattle.columns.specs.Near.{RowPut}

-- category c is one of the first w, and its byte in the bitstring that starts at the place p is `1`
unfoldable pub set_at : List ℕ → ℕ → ℕ → ℕ → Bool
set_at r p w zero = false
set_at r p w (suc k) = ltb k w && eqb (get_or r (p + k) 0) 49

-- the entries of the first i categories of w put, and their ones marked besides those that are
pub record BitsPut (r : List ℕ) (p w i flags values : ℕ) (marks marks' out out' : List ℕ) : Type 0 where
  pub leaves : out' ≡ put_entries out flags values (stretch_from true (set_at r p w) 1 i)
  pub met : (c : ℕ) → c < length marks → get_or marks' c 0 ≡ cond (set_at r p i c) 1 (get_or marks c 0)

-- ---- category by category
set_here : (r : List ℕ) (p w k : ℕ) → k < w → set_at r p w (k + 1) ≡ eqb (get_or r (p + k) 0) 49
unfolding set_at
set_here r p w k h = rw (add-one k, lt-ltb k w h)

set_none : (r : List ℕ) (p w c : ℕ) → w + 1 ≤ c → set_at r p w c ≡ false
unfolding set_at
set_none r p w zero h = absurd (omega arith)
set_none r p w (suc k) h = rw (le-ltb k w (omega arith))

set_other : (r : List ℕ) (p k c : ℕ) → (c ≡ k + 1 → ⊥) → set_at r p (k + 1) c ≡ set_at r p k c
unfolding set_at
set_other r p k zero h = refl
set_other r p k (suc j) h = ⊎_elim
    (λ (l : j < k). rw (lt-ltb j (k + 1) (omega arith), lt-ltb j k l))
    (λ (l : k ≤ j). ⊎_elim
    (λ (m : k < j). rw (le-ltb j (k + 1) (omega arith), le-ltb j k l))
    (λ (m : j ≤ k). absurd (h (omega arith)))
    (lt_or_le k j))
    (lt_or_le j k)

set_start : (r : List ℕ) (p c : ℕ) → set_at r p 0 c ≡ false
unfolding set_at
set_start r p zero = refl
set_start r p (suc k) = rw (le-ltb k 0 (omega arith))

pub bits_start : (r : List ℕ) (p w flags values : ℕ) (marks out : List ℕ) → BitsPut r p w 0 flags values marks marks out out
unfolding stretch_from
bits_start r p w flags values marks out = record {
  leaves = sym (entries_none out flags values);
  met = λ c l. rw (set_start r p c);
}

module _ (r : List ℕ) (p w k flags values : ℕ) {marks marks' out out' : List ℕ} (b : BitsPut r p w k flags values marks marks' out out')
    (low : k < w) (room : flags + w ≤ values) where
  one_put : {e : Entry} {out'' : List ℕ} → e ≡ marked_entry true (flag (set_at r p w (k + 1)))
      → out'' ≡ put_entries out' (flags + k) (values + 8 * k) (e ∷ [])
      → out'' ≡ put_entries out flags values (stretch_from true (set_at r p w) 1 (k + 1))
  unfolding stretch_from
  one_put {e} {out''} is q =
      let xs = stretch_from true (set_at r p w) 1 k in
      let n : length xs ≡ k = length_stretch true (set_at r p w) 1 k in
      let o : 1 + k ≡ k + 1 = omega arith in
      q ∙ ap (λ (l : List ℕ). put_entries l (flags + k) (values + 8 * k) (e ∷ [])) b.leaves
      ∙ ap (λ (j : ℕ). put_entries (put_entries out flags values xs) (flags + j) (values + 8 * j) (e ∷ [])) (sym n)
      ∙ entries_then out flags values xs (e ∷ []) (omega arith)
      ∙ ap (λ (x : Entry). put_entries out flags values (xs ++ (x ∷ [])))
      (is ∙ ap (λ (j : ℕ). marked_entry true (flag (set_at r p w j))) (sym o))
      ∙ ap (put_entries out flags values) (sym (stretch_then true (set_at r p w) 1 k 1))

  pub bits_one : {out'' : List ℕ} → get_or r (p + k) 0 ≡ 49 → length marks' ≡ length marks → k + 1 < length marks
      → out'' ≡ put_entries out' (flags + k) (values + 8 * k) (Scaled (pos 1) 1 ∷ [])
      → BitsPut r p w (k + 1) flags values marks (set marks' (k + 1) 1) out out''
  unfolding marked_entry
  bits_one e same h q = record {
    leaves = one_put (rw (set_here r p w k low, e)) q;
    met = λ c l. ⊎_elim (λ (x : c < k + 1). other c l (λ y. omega arith))
        (λ (x : k + 1 ≤ c). ⊎_elim (λ (y : k + 1 < c). other c l (λ z. omega arith)) (λ (y : c ≤ k + 1). here c (omega arith))
        (lt_or_le (k + 1) c))
        (lt_or_le c (k + 1));
  }
    where
      other : (c : ℕ) → c < length marks → (c ≡ k + 1 → ⊥) → get_or (set marks' (k + 1) 1) c 0
          ≡ cond (set_at r p (k + 1) c) 1 (get_or marks c 0)
      other c l n = get_or-set_other marks' (k + 1) c 1 0 n ∙ b.met c l
          ∙ ap (λ (x : Bool). cond x 1 (get_or marks c 0)) (sym (set_other r p k c n))

      here : (c : ℕ) → c ≡ k + 1 → get_or (set marks' (k + 1) 1) c 0 ≡ cond (set_at r p (k + 1) c) 1 (get_or marks c 0)
      here c n = rw (n, set_here r p (k + 1) k (omega arith), e) (get_or-set_same marks' (k + 1) 1 0 (omega arith))

  pub bits_none : {out'' : List ℕ} → (get_or r (p + k) 0 ≡ 49 → ⊥)
      → out'' ≡ put_entries out' (flags + k) (values + 8 * k) (Scaled (pos 0) 1 ∷ [])
      → BitsPut r p w (k + 1) flags values marks marks' out out''
  unfolding marked_entry
  bits_none e q = record {
    leaves = one_put (rw (set_here r p w k low, ne_eqb (get_or r (p + k) 0) 49 e)) q;
    met = λ c l. b.met c l ∙ ap (λ (x : Bool). cond x 1 (get_or marks c 0)) (sym (alike c));
  }
    where
      alike : (c : ℕ) → set_at r p (k + 1) c ≡ set_at r p k c
      alike c = ⊎_elim (λ (x : c < k + 1). set_other r p k c (λ y. omega arith))
          (λ (x : k + 1 ≤ c). ⊎_elim (λ (y : k + 1 < c). set_other r p k c (λ z. omega arith)) (λ (y : c ≤ k + 1). here (omega arith))
          (lt_or_le (k + 1) c))
          (lt_or_le c (k + 1))
        where
          here : c ≡ k + 1 → set_at r p (k + 1) c ≡ set_at r p k c
          here n =
              rw (n, set_here r p (k + 1) k (omega arith), ne_eqb (get_or r (p + k) 0) 49 e) (sym (set_none r p k (k + 1) (omega arith)))

-- ---- what a bitstring says whose categories are all from 1 to w
set_passing : (r : List ℕ) (p a n : ℕ) → set_bits (defined always a n) (pick r (bit_places p (defined always a n)))
    ≡ passing (λ z. eqb (get_or r (p + (count_of z - 1)) 0) 49) a n
unfolding set_bits defined bit_places passing count_of
set_passing r p a zero = refl
set_passing r p a (suc n) = rw (set_passing r p (suc a) n)

set_member : (r : List ℕ) (p w c : ℕ) → 1 ≤ c → c ≤ w
    → is_member (set_bits (defined always 1 w) (pick r (bit_places p (defined always 1 w)))) (pos c) ≡ set_at r p w c
unfolding set_at count_of
set_member r p w zero h l = absurd (omega arith)
set_member r p w (suc k) h l =
    let e : suc k - 1 ≡ k = omega arith in
    rw (set_passing r p 1 w, lt-ltb k w (omega arith))
    (member_passing (λ z. eqb (get_or r (p + (count_of z - 1)) 0) 49) 1 w (suc k) h (λ x. omega arith)
    ∙ ap (λ (i : ℕ). eqb (get_or r (p + i) 0) 49) e)

first_byte : (r : List ℕ) (p w : ℕ) → 1 ≤ w → pick r (bit_places p (defined always 1 w))
    ≡ get_or r p 0 ∷ pick r (bit_places p (defined always 2 (w - 1)))
unfolding defined bit_places
first_byte r p w h =
    let e : w ≡ suc (w - 1) = omega arith in
    ap (λ (n : ℕ). pick r (bit_places p (defined always 1 n))) e ∙ rw (add-zero p)

module _ (cs : List ℕ) (b : ℕ) (s : List ℕ) (good : is_illegal (bits_field cs (b ∷ s)) ≡ false) where
  first_space : b ≡ 32 → bits_field cs (b ∷ s) ≡ holds missing
  unfolding bits_field all_spaces all_bits is_illegal
  first_space e = rw e (go (all_spaces s) (rw e at good))
    where
      go : (x : Bool) → is_illegal (cond x (holds missing) illegal) ≡ false → cond x (holds missing) illegal ≡ holds missing
      go true g = refl
      go false g = holds_not refl g

  first_bit : (b ≡ 32 → ⊥) → bits_field cs (b ∷ s) ≡ holds (members (set_bits cs (b ∷ s)))
  unfolding bits_field all_spaces is_illegal
  first_bit n = rw (ne_eqb b 32 n) (go (all_bits (b ∷ s)) (rw (ne_eqb b 32 n) at good))
    where
      go : (x : Bool) → is_illegal (cond x (holds (members (set_bits cs (b ∷ s)))) illegal) ≡ false
          → cond x (holds (members (set_bits cs (b ∷ s)))) illegal ≡ holds (members (set_bits cs (b ∷ s)))
      go true g = refl
      go false g = holds_not refl g

member_stretch : (f : Field) (there : Bool) (has : ℕ → Bool) (c n : ℕ)
    → ((x : ℕ) → c ≤ x → x < c + n → member_entry x f ≡ marked_entry there (flag (has x)))
    → member_entries f (defined always c n) ≡ stretch_from there has c n
unfolding member_entries defined stretch_from
member_stretch f there has c zero h = refl
member_stretch f there has c (suc n) h =
    rw (h c (omega arith) (omega arith), member_stretch f there has (suc c) n (λ x a b. h x (omega arith) (omega arith)))

module _ (r : List ℕ) (p w flags values : ℕ) (some : 1 ≤ w) (good : is_illegal (bits_field_at (defined always 1 w) p r) ≡ false) where
  abbrev whole : Field
  whole = bits_field_at (defined always 1 w) p r

  abbrev rest : List ℕ
  rest = pick r (bit_places p (defined always 2 (w - 1)))

  legal_first : is_illegal (bits_field (defined always 1 w) (get_or r p 0 ∷ rest)) ≡ false
  legal_first = rw (first_byte r p w some) at good

  missing_stretch : get_or r p 0 ≡ 32 → member_entries whole (defined always 1 w) ≡ stretch_from false (λ c. false) 1 w
  unfolding member_entry marked_entry
  missing_stretch e = member_stretch whole false (λ c. false) 1 w (λ x a b.
      rw (first_byte r p w some, first_space (defined always 1 w) (get_or r p 0) rest legal_first e))

  set_stretch : (get_or r p 0 ≡ 32 → ⊥) → member_entries whole (defined always 1 w) ≡ stretch_from true (set_at r p w) 1 w
  unfolding member_entry marked_entry
  set_stretch n = member_stretch whole true (set_at r p w) 1 w (λ x a b.
      rw (
        first_byte r p w some,
        first_bit (defined always 1 w) (get_or r p 0) rest legal_first n,
        ← first_byte r p w some,
        set_member r p w x a (omega arith),
        flag_back (set_at r p w x),
      ))

  pub whole_missing : get_or r p 0 ≡ 32 → (marks out : List ℕ) {out' : List ℕ} → out' ≡ put_entries out flags values (noughts false w)
      → RowPut (member_entries whole (defined always 1 w)) (w + 1) w flags values marks marks out out' false true
  whole_missing e marks out q =
      let made = missing_stretch e in (
        q ∙ ap (put_entries out flags values)
            (sym (made ∙ stretch_noughts false (λ c. false) 1 w (λ x a b. refl))),
        λ n. record { has = λ c. false; made = made; met = λ c l. refl; none = λ c a b. refl; absent = λ z c. refl },
      )

  pub whole_set : (get_or r p 0 ≡ 32 → ⊥) → (marks marks' out : List ℕ) {out' : List ℕ} → w < length marks
      → BitsPut r p w w flags values marks marks' out out'
      → RowPut (member_entries whole (defined always 1 w)) (w + 1) w flags values marks marks' out out' true true
  whole_set n marks marks' out low b =
      let made = set_stretch n in (
        b.leaves ∙ ap (put_entries out flags values) (sym made),
        λ e. record {
          has = set_at r p w;
          made = made;
          met = λ c l. b.met c (omega arith);
          none = λ c a l. set_none r p w c a;
          absent = λ z c. holds_not refl z;
        },
      )

-- ---- a row of a table that is such a bitstring
length_always : (c n : ℕ) → length (defined always c n) ≡ n
unfolding defined
length_always c zero = refl
length_always c (suc n) = ap suc (length_always (suc c) n)

module _ {t : List ℤ} {v : ℕ} {r : Row} {size : ℕ} (q : Readable t v r size) (e : r.kind ≡ Multiple Bits) {allowed : List ℕ}
    {gap count : ℕ} (m : MarkedSet t v r allowed gap count) (h : r.width < gap) where
  marked_legal : (c : ℕ) → 1 ≤ c → c < gap → legal t v r (pos c) ≡ true
  marked_legal c a b =
      let w = m.run.within in
      sym (flag_back (legal t v r (pos c))) ∙ eq-eqb (flag (legal t v r (pos c))) 1 (sym (m.marks.at c (omega arith)) ∙ m.run.all c a b)

  each : EachLegal t v r r.width
  each c a b = marked_legal c a (omega arith)

  pub whole_gap : r.width + 1 ≡ gap
  whole_gap = ⊎_elim
      (λ (l : r.width + 1 < gap).
      absurd (omega (arith, (bits_covered q e).below (r.width + 1) (marked_legal (r.width + 1) (omega arith) l))))
      (λ (l : gap ≤ r.width + 1). omega arith)
      (lt_or_le (r.width + 1) gap)

  whole_codes : defined (legal t v r) 1 9999 ≡ defined always 1 r.width
  whole_codes =
      let k : r.width + 1 - 1 ≡ r.width = omega arith in
      reached (bits_covered q e) ∙ ap (defined (legal t v r) 1) k ∙ each_defined t v r r.width each

  pub whole_count : count ≡ r.width
  whole_count = m.many ∙ ap (λ (l : List ℕ). length l) whole_codes ∙ length_always 1 r.width

  pub whole_reading : (bytes : List ℕ) → reading_of t v r bytes ≡ bits_field_at (defined always 1 r.width) (r.start - 1) bytes
  whole_reading bytes =
      as_bits t v r bytes e
      ∙ ap (λ (cs : List ℕ). bits_field_at cs (r.start - 1) bytes) (each_defined t v r r.width each)

  pub whole_put : (bytes : List ℕ) (flags values : ℕ) (marks marks' out : List ℕ) {out' : List ℕ} {there near : Bool}
      → RowPut (member_entries (bits_field_at (defined always 1 r.width) (r.start - 1) bytes) (defined always 1 r.width))
      (r.width + 1) r.width flags values marks marks' out out' there near
      → RowPut (member_entries (reading_of t v r bytes) (defined (legal t v r) 1 9999)) gap count flags values marks marks' out out' there
      near
  whole_put bytes flags values marks marks' out p = rw (whole_reading bytes, whole_codes, whole_count, ← whole_gap) p
