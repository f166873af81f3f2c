-- What follows from rule/Others.antt, and what the code keeps.
use Rattle.std.specs.Prelude.{◌≡◌, Bool, cond, ◌&&◌, ◌||◌, List, [], ◌∷◌, ◌++◌, eqb, ℤ, pos, negsuc, length, take, drop}
use Rattle.std.proofs.Math.Path.{refl, ap}
use Rattle.std.proofs.Common.{sym, ◌∙◌, append_assoc, eq-or-lt_of_le, eqb-true, eq-eqb, ne_eqb, lt-ltb, ltb-true, lit<, length-append}
use Rattle.std.proofs.Common.{length-take}
use Rattle.std.proofs.Math.Logic.{⊎_elim}
use Rattle.std.proofs.Math.Bool.{true, false}
use Prim.Native.Nat.{ℕ, zero, suc, ◌+◌, ◌-◌, ◌*◌, ◌^◌, ◌≤◌, ◌<◌}
use Rattle.std.proofs.Math.Nat.{pow-le-pow_right}
use native.Mathlib.Omega.{arith}
use Rattle.below.specs.Below.{holds_not, and_left, and_right, or_true, either_true}
use Rattle.cells.specs.rule.Cell.{eq_z}
use Rattle.cells.specs.Cell.{same_true, same_self}
use Rattle.fields.specs.rule.Number.{Said, blank, says, wrong, all_spaces, code_of, decimal_from}
use Rattle.fields.specs.rule.Field.{missing, members, text, truth, holds, illegal, all_plain, unended, text_field, truth_field}
use Rattle.fields.specs.rule.Field.{entry_good, entry_is, all_entries, some_entry, passing, spread_set, spread_field, is_member}
use Rattle.fields.specs.rule.Field.{rising_from}
use Rattle.fieldlaws.specs.TextLaws.{unended_blank}
use Rattle.fieldlaws.specs.RisingLaws.{Rising, skip, keep, rising_empty, rises_here, rises_next, rises_both, members_back, passing_same}
use Rattle.numbers.specs.Room.{decimal_room}
use Rattle.read_laws.specs.rule.Forms.{Spaces, CodeForm}
use Rattle.read_laws.specs.Forms.{code_exactly, code_blank_exactly, spaces_all, all_spaces_lem, digits_only_lem}
use Rattle.read_laws.specs.Forms.{digits_say}
use Rattle.read_laws.specs.rule.Others.{TextForm, EntryForm, unused, zero_entry, entry, Entries, done, next, SomeSays, here, there}
use Rattle.read_laws.specs.rule.Others.{SpreadSet}

more_left : (b : ℕ) (s : List ℕ) → all_spaces (b ∷ s) ≡ false → unended (b ∷ s) ≡ b ∷ unended s
unfolding unended
more_left b s e = rw e

head_not : (b : ℕ) (s : List ℕ) → all_spaces (b ∷ s) ≡ false → all_spaces s ≡ true → b ≡ 32 → ⊥
unfolding all_spaces
head_not b s e f q = holds_not (rw (eq-eqb b 32 q) f) e

not_all : (b : ℕ) (s : List ℕ) → all_spaces s ≡ false → all_spaces (b ∷ s) ≡ false
unfolding all_spaces
not_all b s e = rw e (go (eqb b 32))
  where
    go : (c : Bool) → c && false ≡ false
    go true = refl
    go false = refl

text_split : (s : List ℕ) → all_spaces s ≡ false → TextForm s (unended s)
unfolding all_spaces
text_split [] e = holds_not refl e
text_split (b ∷ s) e = go (all_spaces s) refl (λ q. text_split s q)
  where
    go : (c : Bool) → all_spaces s ≡ c → (all_spaces s ≡ false → TextForm s (unended s)) → TextForm (b ∷ s) (unended (b ∷ s))
    go true a ih = record {
      front = [];
      last = b;
      gap = s;
      ends = more_left b s e ∙ rw (unended_blank s a);
      made = rw (more_left b s e, unended_blank s a);
      no_space = head_not b s e a;
      blank_gap = all_spaces_lem s a;
    }
    go false a ih =
        let f = ih a in
        record {
          front = b ∷ f.front;
          last = f.last;
          gap = f.gap;
          ends = more_left b s e ∙ ap (λ (l : List ℕ). b ∷ l) f.ends;
          made = ap (λ (l : List ℕ). b ∷ l) f.made ∙ rw (more_left b s e);
          no_space = f.no_space;
          blank_gap = f.blank_gap;
        }

one_not : (b : ℕ) (s : List ℕ) → (b ≡ 32 → ⊥) → all_spaces (b ∷ s) ≡ false
unfolding all_spaces
one_not b s h = rw (ne_eqb b 32 h)

text_joined : (front : List ℕ) (last : ℕ) (gap : List ℕ) → (last ≡ 32 → ⊥) → Spaces gap
    → (all_spaces (front ++ (last ∷ gap)) ≡ false) × (unended (front ++ (last ∷ gap)) ≡ front ++ (last ∷ []))
text_joined [] last gap h g =
    let n = one_not last gap h in
    (n, more_left last gap n ∙ rw (unended_blank gap (spaces_all g)))
text_joined (b ∷ front) last gap h g =
    let r = text_joined front last gap h g in
    let n = not_all b (front ++ (last ∷ gap)) r.0 in
    (n, more_left b (front ++ (last ∷ gap)) n ∙ rw r.1)

module _ (s x : List ℕ) where
  text_by : (c d : Bool) → all_spaces s ≡ c → all_plain s ≡ d
      → cond c (holds missing) (cond d (holds (text (unended s))) illegal) ≡ holds (text x)
      → TextForm s x × (all_plain s ≡ true)
  text_by true d a b e = let k : ◌≡◌ {A = ℕ} 0 1 = cc in absurd (omega arith)
  text_by false false a b e = let k : ◌≡◌ {A = ℕ} 0 1 = cc in absurd (omega arith)
  text_by false true a b e = let w : unended s ≡ x = cc in (rw w at (text_split s a), b)

  text_of : TextForm s x → all_plain s ≡ true → text_field s ≡ holds (text x)
  unfolding text_field
  text_of f p =
      let m : s ≡ f.front ++ (f.last ∷ f.gap) = f.made ∙ rw (f.ends, append_assoc) in
      let r = text_joined f.front f.last f.gap f.no_space f.blank_gap in
      let a : all_spaces s ≡ false = rw m r.0 in
      let u : unended s ≡ x = rw (m, f.ends) r.1 in
      rw (a, p, u)

  -- A TEXT reads as x exactly when its bytes are x, which ends in no space, and spaces, and none is below 32
  pub text_exactly : (text_field s ≡ holds (text x) → TextForm s x × (all_plain s ≡ true)) × (TextForm s x → all_plain s ≡ true
      → text_field s ≡ holds (text x))
  unfolding text_field
  text_exactly = (λ e. text_by (all_spaces s) (all_plain s) refl refl e, text_of)

-- ---- LOGICAL: one byte
pub truth_exactly :
    (truth_field (49 ∷ []) ≡ holds (truth true)) × (truth_field (48 ∷ []) ≡ holds (truth false)) × (truth_field (32 ∷ []) ≡ holds missing)
    × ((b : ℕ) → (b ≡ 49 → ⊥) → (b ≡ 48 → ⊥) → (b ≡ 32 → ⊥) → truth_field (b ∷ []) ≡ illegal)
unfolding truth_field all_spaces
truth_exactly = (refl, refl, refl, λ b p q r. rw (ne_eqb b 32 r, ne_eqb b 49 p, ne_eqb b 48 q))

module _ (ok : ℤ → Bool) (x : List ℕ) where
  entry_by : (y : Said) → code_of x ≡ y → entry_good ok y ≡ true → EntryForm ok x
  unfolding entry_good
  entry_by blank u e = unused ((code_blank_exactly x).0 u)
  entry_by wrong u e = holds_not e refl
  entry_by (says z) u e = go (eq_z z (pos 0)) refl e
    where
      go : (c : Bool) → eq_z z (pos 0) ≡ c → c || ok z ≡ true → EntryForm ok x
      go true a q = zero_entry ((code_exactly x (pos 0)).0 (u ∙ ap says (same_true z (pos 0) a)))
      go false a q = entry z ((code_exactly x z).0 u) q

  entry_of_lem : EntryForm ok x → entry_good ok (code_of x) ≡ true
  unfolding entry_good
  entry_of_lem (unused r) = rw ((code_blank_exactly x).1 r)
  entry_of_lem (zero_entry f) = rw ((code_exactly x (pos 0)).1 f, same_self (pos 0))
  entry_of_lem (entry z f l) = rw ((code_exactly x z).1 f, l) (or_true (eq_z z (pos 0)))

module _ (ok : ℤ → Bool) (w : ℕ) where
  entries_from : (n : ℕ) (s : List ℕ) → all_entries ok w n s ≡ true → Entries ok w n s
  unfolding all_entries
  entries_from zero s e = done
  entries_from (suc n) s e =
      let first = entry_good ok (code_of (take w s)) in
      let rest = all_entries ok w n (drop w s) in
      next (entry_by ok (take w s) (code_of (take w s)) refl (and_left first rest e)) (entries_from n (drop w s) (and_right first rest e))

  entries_to : {n : ℕ} {s : List ℕ} → Entries ok w n s → all_entries ok w n s ≡ true
  unfolding all_entries
  entries_to done = refl
  entries_to (next {s} e r) = rw (entry_of_lem ok (take w s) e, entries_to r)

module _ (c : ℤ) (w : ℕ) where
  says_by : (x : List ℕ) (y : Said) → code_of x ≡ y → entry_is c y ≡ true → CodeForm x c
  unfolding entry_is
  says_by x blank u e = holds_not e refl
  says_by x wrong u e = holds_not e refl
  says_by x (says z) u e = (code_exactly x c).0 (u ∙ ap says (same_true z c e))

  says_of : (x : List ℕ) → CodeForm x c → entry_is c (code_of x) ≡ true
  unfolding entry_is
  says_of x f = rw ((code_exactly x c).1 f, same_self c)

  some_from : (n : ℕ) (s : List ℕ) → some_entry c w n s ≡ true → SomeSays c w n s
  unfolding some_entry
  some_from zero s e = holds_not e refl
  some_from (suc n) s e =
      ⊎_elim (λ q. here (says_by (take w s) (code_of (take w s)) refl q)) (λ q. there (some_from n (drop w s) q))
      (either_true (entry_is c (code_of (take w s))) (some_entry c w n (drop w s)) e)

  some_to : {n : ℕ} {s : List ℕ} → SomeSays c w n s → some_entry c w n s ≡ true
  unfolding some_entry
  some_to (here {s} f) = rw (says_of (take w s) f)
  some_to (there {n} {s} r) = rw (some_to r) (or_true (entry_is c (code_of (take w s))))

pos_same : (c k : ℕ) → eq_z (pos c) (pos k) ≡ true → c ≡ k
unfolding eq_z
pos_same c k e = eqb-true c k e

-- ---- the numbers that pass: rising, none twice, and no others
module _ (f : ℤ → Bool) where
  pub passing_rises : (n c : ℕ) (a : ℕ) → a < c → rising_from (pos a) (passing f c n) ≡ true
  unfolding rising_from passing
  passing_rises zero c a h = refl
  passing_rises (suc n) c a h = go (f (pos c)) (passing_rises n (suc c) c (omega arith)) (passing_rises n (suc c) a (omega arith))
    where
      go : (b : Bool) → rising_from (pos c) (passing f (suc c) n) ≡ true → rising_from (pos a) (passing f (suc c) n) ≡ true
          → rising_from (pos a) (cond b (pos c ∷ passing f (suc c) n) (passing f (suc c) n)) ≡ true
      go true r s = rw (lt-ltb a c h) r
      go false r s = s

  -- a number is among them exactly when it lies there and passes
  pub passing_has : (n c k : ℕ) → is_member (passing f c n) (pos k) ≡ true → (c ≤ k) × (k < c + n) × (f (pos k) ≡ true)
  unfolding is_member passing
  passing_has zero c k e = holds_not e refl
  passing_has (suc n) c k e = go (f (pos c)) refl e (λ q. passing_has n (suc c) k q)
    where
      go : (b : Bool) → f (pos c) ≡ b → is_member (cond b (pos c ∷ passing f (suc c) n) (passing f (suc c) n)) (pos k) ≡ true
          → (is_member (passing f (suc c) n) (pos k) ≡ true → (suc c ≤ k) × (k < suc c + n) × (f (pos k) ≡ true))
          → (c ≤ k) × (k < c + suc n) × (f (pos k) ≡ true)
      go true p q ih =
          ⊎_elim (λ a. let w : c ≡ k = pos_same c k a in (omega arith, omega arith, rw w at p))
          (λ a. let r = ih a in (omega (arith, r.0), omega (arith, r.1), r.2))
          (either_true (eq_z (pos c) (pos k)) (is_member (passing f (suc c) n) (pos k)) q)
      go false p q ih = let r = ih q in (omega (arith, r.0), omega (arith, r.1), r.2)

  pub passing_of : (n c k : ℕ) → c ≤ k → k < c + n → f (pos k) ≡ true → is_member (passing f c n) (pos k) ≡ true
  unfolding is_member passing
  passing_of zero c k a b e = absurd (omega arith)
  passing_of (suc n) c k a b e =
      ⊎_elim
      (λ q. let p : f (pos c) ≡ true = rw (← q) at e in rw (p, ← q, same_self (pos c)))
      (λ l. go (f (pos c)) (passing_of n (suc c) k l (omega arith) e))
      (eq-or-lt_of_le a)
    where
      go : (b : Bool) → is_member (passing f (suc c) n) (pos k) ≡ true
          → is_member (cond b (pos c ∷ passing f (suc c) n) (passing f (suc c) n)) (pos k) ≡ true
      go true r = rw r (or_true (eq_z (pos c) (pos k)))
      go false r = r

-- ---- a run of digits says less than ten to the count of its bytes
code_few : (x : List ℕ) (k : ℕ) → CodeForm x (pos k) → k < 10 ^ length x
code_few x k f =
    let e : k ≡ f.size = same f.is in
    let n : length x ≡ length f.gap + length f.whole = ap length f.made ∙ length-append f.gap f.whole in
    let h : decimal_from 0 f.whole + 1 ≤ (0 + 1) * 10 ^ length f.whole = decimal_room 0 f.whole (digits_only_lem f.said) in
    let l : 10 ^ length f.whole ≤ 10 ^ length x = pow-le-pow_right (lit< tt) (omega arith) in
    omega (arith, digits_say f.said)
  where
    same : {a b : ℕ} → pos a ≡ pos b → a ≡ b
    same q = cc

some_few : (k w : ℕ) {n : ℕ} {s : List ℕ} → SomeSays (pos k) w n s → k < 10 ^ w
some_few k w (here {s} f) =
    let l : 10 ^ length (take w s) ≤ 10 ^ w = pow-le-pow_right (lit< tt) (rw length-take (omega arith)) in
    omega (arith, code_few (take w s) k f)
some_few k w (there r) = some_few k w r

module _ (w n : ℕ) (s : List ℕ) where
  pub spread_has : (k : ℕ) → is_member (spread_set w n s) (pos k) ≡ true → (1 ≤ k) × SomeSays (pos k) w n s
  spread_has k e = let r = passing_has (λ c. some_entry c w n s) (10 ^ w - 1) 1 k e in (r.0, some_from (pos k) w n s r.2)

  pub has_spread : (k : ℕ) → 1 ≤ k → SomeSays (pos k) w n s → is_member (spread_set w n s) (pos k) ≡ true
  has_spread k a r = passing_of (λ c. some_entry c w n s) (10 ^ w - 1) 1 k a (omega (arith, some_few k w r)) (some_to (pos k) w r)

  pub spread_rises : rising_from (pos 0) (spread_set w n s) ≡ true
  spread_rises = passing_rises (λ c. some_entry c w n s) (10 ^ w - 1) 1 0 (omega arith)

  pub spread_set_of : SpreadSet w n s (spread_set w n s)
  spread_set_of = record { rises = spread_rises; has = spread_has; all = has_spread }

-- and there is one such set
member_here : (b : ℕ) (ms : List ℤ) → is_member (pos b ∷ ms) (pos b) ≡ true
unfolding is_member
member_here b ms = rw (same_self (pos b))

member_next : (k b : ℕ) (ms : List ℤ) → is_member ms (pos k) ≡ true → is_member (pos b ∷ ms) (pos k) ≡ true
unfolding is_member
member_next k b ms e = rw e (or_true (eq_z (pos b) (pos k)))

rise_within : (top n a : ℕ) (ms : List ℤ) → a + n ≡ top → rising_from (pos a) ms ≡ true → ((k : ℕ) → is_member ms (pos k) ≡ true → k ≤ top)
    → Rising (suc a) n ms
rise_within top n a [] q e h = rising_empty (suc a) n
rise_within top n a (negsuc b ∷ ms) q e h = holds_not (rises_here (pos a) (negsuc b) ms e) refl
rise_within top zero a (pos b ∷ ms) q e h =
    let x : a < b = ltb-true a b (rises_here (pos a) (pos b) ms e) in
    let y : b ≤ top = h b (member_here b ms) in
    absurd (omega arith)
rise_within top (suc n) a (pos b ∷ ms) q e h =
    let later : rising_from (pos b) ms ≡ true = rises_next (pos a) (pos b) ms e in
    ⊎_elim
    (λ s. rw (← s) (keep (rise_within top n (suc a) ms (omega arith) (rw s later) (λ k m. h k (member_next k b ms m)))))
    (λ s. skip (rise_within top n (suc a) (pos b ∷ ms) (omega arith) (rises_both (pos (suc a)) (pos b) ms (lt-ltb (suc a) b s) later) h))
    (eq-or-lt_of_le (ltb-true a b (rises_here (pos a) (pos b) ms e)))

both_ways : (a b : Bool) → (a ≡ true → b ≡ true) → (b ≡ true → a ≡ true) → a ≡ b
both_ways true b f g = sym (f refl)
both_ways false true f g = g refl
both_ways false false f g = refl

module _ (w n : ℕ) (s : List ℕ) (ms : List ℤ) where
  pub spread_set_is : SpreadSet w n s ms → ms ≡ spread_set w n s
  spread_set_is h =
      let few : (k : ℕ) → is_member ms (pos k) ≡ true → k ≤ 10 ^ w - 1 = λ k m. omega (arith, some_few k w (h.has k m).1) in
      let r : Rising 1 (10 ^ w - 1) ms = rise_within (10 ^ w - 1) (10 ^ w - 1) 0 ms (omega arith) h.rises few in
      sym (members_back r)
      ∙ passing_same (is_member ms) (λ c. some_entry c w n s) 1 (10 ^ w - 1)
      (λ x l. both_ways (is_member ms (pos x)) (some_entry (pos x) w n s) (λ e. some_to (pos x) w (h.has x e).1)
      (λ e. h.all x l (some_from (pos x) w n s e)))

module _ (ok : ℤ → Bool) (w n : ℕ) (s : List ℕ) (ms : List ℤ) where
  spread_by : (c d : Bool) → all_spaces s ≡ c → all_entries ok w n s ≡ d
      → cond c (holds missing) (cond d (holds (members (spread_set w n s))) illegal) ≡ holds (members ms)
      → (all_spaces s ≡ false) × Entries ok w n s × (ms ≡ spread_set w n s)
  spread_by true d a b e = let k : ◌≡◌ {A = ℕ} 0 1 = cc in absurd (omega arith)
  spread_by false false a b e = let k : ◌≡◌ {A = ℕ} 0 1 = cc in absurd (omega arith)
  spread_by false true a b e = let q : ms ≡ spread_set w n s = cc in (a, entries_from ok w n s b, q)

  -- A SPREAD reads as this set exactly when each subfield is unused or says a legal number, not all are spaces, and the set is that of the
  -- numbers from 1 on that some subfield says
  pub spread_exactly :
      (spread_field ok w n s ≡ holds (members ms) → (all_spaces s ≡ false) × Entries ok w n s × (ms ≡ spread_set w n s))
      × (all_spaces s ≡ false → Entries ok w n s → ms ≡ spread_set w n s → spread_field ok w n s ≡ holds (members ms))
  unfolding spread_field
  spread_exactly = (λ e. spread_by (all_spaces s) (all_entries ok w n s) refl refl e, λ a b q. rw (a, entries_to ok w b, q))
