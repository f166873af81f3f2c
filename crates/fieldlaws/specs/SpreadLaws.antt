-- A spread: a set that may be written reads back, and what is read may be written.
use Rattle.std.specs.Prelude.{◌≡◌, Bool, cond, ◌||◌, ℤ, length, take, drop}
use Rattle.std.proofs.Math.Path.{refl}
use Rattle.std.proofs.Common.{sym, ap, ◌∙◌, zero-mul, suc-mul, ne_eqb, length-append, take_at, drop_at}
use Rattle.std.proofs.Math.Bool.{true, false}
use mathlib.Core.List.{List, [], ◌∷◌, ◌++◌}
use Prim.Native.Nat.{ℕ, zero, suc, ◌+◌, ◌-◌, ◌*◌, ◌/◌, ◌%◌, ◌^◌, ◌≤◌}
use native.Mathlib.Omega.{arith}
use Rattle.std.proofs.Math.IntN.{pos}
use Rattle.below.specs.Below.{holds_not, and_left, and_right, or_true}
use Rattle.cells.specs.rule.Cell.{eq_z, signed_of}
use Rattle.cells.specs.Cell.{same_true}
use Rattle.widths.specs.Width.{ten_some}
use Rattle.fields.specs.rule.Number.{Said, blank, says, wrong, all_spaces, code_of, padded, code_bytes}
use Rattle.fields.specs.rule.Field.{members, holds, entry_good, entry_is, all_entries, some_entry}
use Rattle.fields.specs.rule.Field.{spread_set, spread_field, spread_bytes, is_member, passing, all_legal, set_fits}
use Rattle.fieldlaws.specs.Tests.{counts_differ}
use Rattle.fieldlaws.specs.NumberLaws.{length_code, code_back}
use Rattle.fieldlaws.specs.RisingLaws.{Rising, fits_of, members_back, passing_same}
use Rattle.fieldlaws.specs.RisingLaws.{passing_rises, passing_legal, legal_here, legal_next}

pub length_spread_bytes : (w n : ℕ) (ms : List ℤ) → length (spread_bytes w n ms) ≡ n * w
unfolding spread_bytes
length_spread_bytes w zero ms = sym (zero-mul w)
length_spread_bytes w (suc n) [] = rw (length-append, length_code, length_spread_bytes w n [], suc-mul n w) (omega arith)
length_spread_bytes w (suc n) (m ∷ ms) = rw (length-append, length_code, length_spread_bytes w n ms, suc-mul n w) (omega arith)

-- the first subfield, and the others
module _ (w : ℕ) (z : ℤ) (rest : List ℕ) where
  front : take w (code_bytes w z ++ rest) ≡ code_bytes w z
  front = take_at (code_bytes w z) rest w (length_code w z)

  others : drop w (code_bytes w z ++ rest) ≡ rest
  others = drop_at (code_bytes w z) rest w (length_code w z)

  -- it begins with a digit
  seen : 1 ≤ w → all_spaces (code_bytes w z ++ rest) ≡ false
  unfolding code_bytes padded all_spaces
  seen h = let e : w ≡ suc (w - 1) = omega arith in first w (w - 1) e
    where
      first : (w v : ℕ) → w ≡ suc v → all_spaces (code_bytes w z ++ rest) ≡ false
      first w v e = rw e (rw (ne_eqb (48 + (signed_of z).size / 10 ^ v % 10) 32 (λ q. omega arith)))

entry_zero : (w : ℕ) → 1 ≤ w → code_of (code_bytes w (pos 0)) ≡ says (pos 0)
unfolding code_bytes signed_of
entry_zero w h = code_back w 0 h (ten_some w)

module _ (ok : ℤ → Bool) (w : ℕ) (wide : 1 ≤ w) (reads : (z : ℤ) → ok z ≡ true → code_of (code_bytes w z) ≡ says z) where
  bytes_seen : (n : ℕ) (ms : List ℤ) → 1 ≤ n → all_spaces (spread_bytes w n ms) ≡ false
  unfolding spread_bytes
  bytes_seen zero ms h = absurd (omega arith)
  bytes_seen (suc n) [] h = seen w (pos 0) (spread_bytes w n []) wide
  bytes_seen (suc n) (m ∷ ms) h = seen w m (spread_bytes w n ms) wide

  unused_good : (n : ℕ) → all_entries ok w n (spread_bytes w n []) ≡ true
  unfolding all_entries spread_bytes entry_good eq_z
  unused_good zero = refl
  unused_good (suc n) = rw (front w (pos 0) (spread_bytes w n []), others w (pos 0) (spread_bytes w n []), entry_zero w wide)
      (unused_good n)

  bytes_good : (n : ℕ) (ms : List ℤ) → all_legal ok ms ≡ true → all_entries ok w n (spread_bytes w n ms) ≡ true
  unfolding all_entries spread_bytes entry_good
  bytes_good zero ms l = refl
  bytes_good (suc n) [] l = unused_good (suc n)
  bytes_good (suc n) (m ∷ ms) l =
      let here : ok m ≡ true = legal_here ok m ms l in
      rw (front w m (spread_bytes w n ms), others w m (spread_bytes w n ms), reads m here)
      (rw (here, or_true) (bytes_good n ms (legal_next ok m ms l)))

  unused_none : (n c : ℕ) → 1 ≤ c → some_entry (pos c) w n (spread_bytes w n []) ≡ false
  unfolding some_entry spread_bytes entry_is eq_z
  unused_none zero c h = refl
  unused_none (suc n) c h =
      rw (front w (pos 0) (spread_bytes w n []), others w (pos 0) (spread_bytes w n []), entry_zero w wide)
      (rw (ne_eqb 0 c (λ e. omega arith)) (unused_none n c h))

  -- a subfield holds c where c is a member
  bytes_some : (n c : ℕ) (ms : List ℤ) → 1 ≤ c → all_legal ok ms ≡ true → length ms ≤ n
      → some_entry (pos c) w n (spread_bytes w n ms) ≡ is_member ms (pos c)
  unfolding some_entry spread_bytes entry_is is_member
  bytes_some n c [] h l few = unused_none n c h
  bytes_some zero c (m ∷ ms) h l few = absurd (omega arith)
  bytes_some (suc n) c (m ∷ ms) h l few =
      rw (front w m (spread_bytes w n ms), others w m (spread_bytes w n ms), reads m (legal_here ok m ms l))
      (ap (λ (b : Bool). eq_z m (pos c) || b) (bytes_some n c ms h (legal_next ok m ms l) (omega arith)))

  pub spread_back : (n : ℕ) (ms : List ℤ) → 1 ≤ n → all_legal ok ms ≡ true → length ms ≤ n → Rising 1 (10 ^ w - 1) ms
      → spread_field ok w n (spread_bytes w n ms) ≡ holds (members ms)
  unfolding spread_field
  spread_back n ms some l few rising =
      let e : spread_set w n (spread_bytes w n ms) ≡ ms =
      passing_same (λ c. some_entry c w n (spread_bytes w n ms)) (is_member ms) 1 (10 ^ w - 1) (λ x h. bytes_some n x ms h l few)
      ∙ members_back rising in
      rw (bytes_seen n ms some, bytes_good n ms l, e)

-- ---- what is read may be written
module _ (ok : ℤ → Bool) (c : ℕ) (some : 1 ≤ c) where
  entry_legal : (x : Said) → entry_good ok x ≡ true → entry_is (pos c) x ≡ true → ok (pos c) ≡ true
  unfolding entry_good entry_is
  entry_legal blank g e = holds_not e refl
  entry_legal wrong g e = holds_not e refl
  entry_legal (says z) g e =
      let q : z ≡ pos c = same_true z (pos c) e in
      let g' : (eq_z (pos c) (pos 0) || ok (pos c)) ≡ true = rw q at g in
      rw (counts_differ c 0 (λ x. omega arith)) at g'

  some_legal : (w n : ℕ) (s : List ℕ) → all_entries ok w n s ≡ true → some_entry (pos c) w n s ≡ true → ok (pos c) ≡ true
  unfolding all_entries some_entry
  some_legal w zero s g e = holds_not e refl
  some_legal w (suc n) s g e =
      let x = code_of (take w s) in
      let a = all_entries ok w n (drop w s) in
      go (entry_is (pos c) x) refl (and_left (entry_good ok x) a g) e (some_legal w n (drop w s) (and_right (entry_good ok x) a g))
    where
      go : (b : Bool) → entry_is (pos c) (code_of (take w s)) ≡ b → entry_good ok (code_of (take w s)) ≡ true
          → (b || some_entry (pos c) w n (drop w s)) ≡ true
          → (some_entry (pos c) w n (drop w s) ≡ true → ok (pos c) ≡ true) → ok (pos c) ≡ true
      go true q g e ih = entry_legal (code_of (take w s)) g q
      go false q g e ih = ih e

none_passes : (f : ℤ → Bool) (c n : ℕ) → ((x : ℕ) → c ≤ x → f (pos x) ≡ false) → passing f c n ≡ []
unfolding passing
none_passes f c zero e = refl
none_passes f c (suc n) e = rw (e c (omega arith)) (none_passes f (suc c) n (λ x h. e x (omega arith)))

-- at most one number is this one
one_passes : (y : ℤ) (c n : ℕ) → length (passing (λ z. eq_z y z) c n) ≤ 1
unfolding passing
one_passes y c zero = omega arith
one_passes y c (suc n) = go (eq_z y (pos c)) refl (one_passes y (suc c) n)
  where
    go : (b : Bool) → eq_z y (pos c) ≡ b → length (passing (λ z. eq_z y z) (suc c) n) ≤ 1
        → length (cond b (pos c ∷ passing (λ z. eq_z y z) (suc c) n) (passing (λ z. eq_z y z) (suc c) n)) ≤ 1
    go true q h =
        let s : y ≡ pos c = same_true y (pos c) q in
        let e : passing (λ z. eq_z y z) (suc c) n ≡ [] =
        none_passes (λ z. eq_z y z) (suc c) n (λ x l. rw s (counts_differ c x (λ e. omega arith))) in
        rw e (omega arith)
    go false q h = h

said_passes : (x : Said) (c n : ℕ) → length (passing (λ z. entry_is z x) c n) ≤ 1
unfolding entry_is
said_passes blank c n = let e : passing (λ z. false) c n ≡ [] = none_passes (λ z. false) c n (λ x h. refl) in rw e (omega arith)
said_passes wrong c n = let e : passing (λ z. false) c n ≡ [] = none_passes (λ z. false) c n (λ x h. refl) in rw e (omega arith)
said_passes (says y) c n = one_passes y c n

either_passes : (f g : ℤ → Bool) (c n : ℕ) → length (passing (λ z. f z || g z) c n) ≤ length (passing f c n) + length (passing g c n)
unfolding passing
either_passes f g c zero = omega arith
either_passes f g c (suc n) = go (f (pos c)) (g (pos c)) (either_passes f g (suc c) n)
  where
    go : (a b : Bool) → length (passing (λ z. f z || g z) (suc c) n) ≤ length (passing f (suc c) n) + length (passing g (suc c) n)
        → length (cond (a || b) (pos c ∷ passing (λ z. f z || g z) (suc c) n) (passing (λ z. f z || g z) (suc c) n))
        ≤ length (cond a (pos c ∷ passing f (suc c) n) (passing f (suc c) n))
        + length (cond b (pos c ∷ passing g (suc c) n) (passing g (suc c) n))
    go true true h = omega arith
    go true false h = omega arith
    go false true h = omega arith
    go false false h = h

-- no more members than subfields
pub spread_few : (w n : ℕ) (s : List ℕ) (c k : ℕ) → length (passing (λ z. some_entry z w n s) c k) ≤ n
unfolding some_entry
spread_few w zero s c k = let e : passing (λ z. false) c k ≡ [] = none_passes (λ z. false) c k (λ x h. refl) in rw e (omega arith)
spread_few w (suc n) s c k =
    omega (
      arith,
      either_passes (λ z. entry_is z (code_of (take w s))) (λ z. some_entry z w n (drop w s)) c k,
      said_passes (code_of (take w s)) c k,
      spread_few w n (drop w s) c k,
    )

pub spread_fit : (ok : ℤ → Bool) (w n : ℕ) (s : List ℕ) → all_entries ok w n s ≡ true → set_fits ok (spread_set w n s) ≡ true
spread_fit ok w n s g =
    fits_of ok (passing_rises (λ c. some_entry c w n s) 1 (10 ^ w - 1))
    (passing_legal (λ c. some_entry c w n s) ok 1 (10 ^ w - 1) (λ x h e. some_legal ok x h w n s g e))
