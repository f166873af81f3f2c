-- A stretch measured byte by byte measures what the rule says: its signs where a quote behind it closes it, else it is no text.
use mathlib.Core.Path.{◌≡◌, refl, ◌∙◌, sym, ap}
use mathlib.Core.Bool.{Bool, true, false, cond, ◌||◌}
use mathlib.Core.List.{List, [], ◌∷◌, ◌++◌}
use Prim.Native.Nat.{ℕ, suc, ◌+◌, ◌≤◌, ◌<◌}
use native.Mathlib.Omega.{arith}
use native.Mathlib.Nat.{zero-add}
use lib.Dec.{eqb, ltb}
use lib.IntN.{ℤ, pos}
use lib.ListN.{length, take, drop, get_or, set, length-append, length-drop}
use lib.Seq.{sets, sets-eq, drop-append-le, length-take-le}
use borrow.Author.Tests.{eq-eqb, ne_eqb, le-leb, lt-ltb, ltb-true, ltb-false}
use Rattle.ascii.specs.rule.Class.{class_of, upper_of}
use Rattle.signs.specs.declared.Sign.{Sign}
use Rattle.signs.specs.declared.Sign.TheVariants.{Byte}
use Rattle.signs.specs.rule.Sign.{sign_number}
use Rattle.scan.specs.rule.Text.{Text, stop, sign, kept, text}
use Rattle.scan.specs.rule.Number.{is_digit}
use Rattle.scan.proofs.Texts.{text_dropped, text_kept, kept_byte}
use Rattle.marks.specs.declared.Inside.{Inside}
use Rattle.marks.specs.declared.Inside.TheVariants.{Plain, Opened, Shut, Ell, Pair, Low}
use Rattle.marks.specs.declared.Move.{Move}
use Rattle.marks.specs.declared.Move.TheVariants.{Go, Closed, Wrong}
use Rattle.marks.specs.declared.Skip.TheVariants.{Past}
use Rattle.marks.specs.rule.Marks.{is_hex, inside_of, moved, string_of}
use Rattle.marks.specs.rule.Spelling.{gives_of, gone, decode_of}
use Rattle.marks.proofs.Complete.{before}
use Rattle.std.specs.Prelude.{Option, Some, None}
use Rattle.texts.specs.declared.Pace.{Pace}
use Rattle.texts.specs.declared.Pace.TheVariants.{On}
use Rattle.texts.specs.rule.Decode.{closes_at, cut_off, inside_text, signs_at, numbers_of}
use Rattle.texts.specs.Measured.{is_mark, ended_in, completes, measured, measure_from, paced_of, Paced}

-- ---- a byte of plain text that is no mark
plain_go : (b p : ℕ) → is_mark b ≡ false → inside_of Plain b p ≡ Go Plain
unfolding inside_of
plain_go b p = by (eqb b 34) (eqb b 123) where
  by : (x y : Bool) → (x || y) ≡ false → cond x Closed (cond y (Go (Opened p)) (Go Plain)) ≡ Go Plain
  by true y e = let z : ◌≡◌ {A = ℕ} 0 1 = cc in absurd (omega arith)
  by false true e = let z : ◌≡◌ {A = ℕ} 0 1 = cc in absurd (omega arith)
  by false false e = refl

plain_gives : (a b : ℕ) → is_mark b ≡ false → gives_of Plain a b ≡ Byte b ∷ []
unfolding gives_of
plain_gives a b = by (eqb b 34) (eqb b 123) where
  by : (x y : Bool) → (x || y) ≡ false → cond y [] (Byte b ∷ []) ≡ Byte b ∷ []
  by true y e = let z : ◌≡◌ {A = ℕ} 0 1 = cc in absurd (omega arith)
  by false true e = let z : ◌≡◌ {A = ℕ} 0 1 = cc in absurd (omega arith)
  by false false e = refl

low_class : (b : ℕ) → b < 32 → class_of b ≡ 0
unfolding class_of
low_class b h = rw (lt-ltb b 32 h)

module _ (d : List ℕ) (i : ℕ) (h : i < length d) where
  -- it says itself
  pub decode_kept : 32 ≤ get_or d i 0 → is_mark (get_or d i 0) ≡ false → decode_of Plain 0 (text d i) ≡ Byte (get_or d i 0)
      ∷ decode_of Plain 0 (text d (i + 1))
  unfolding decode_of
  decode_kept g e =
      rw (
        text_kept d i h (kept_byte (get_or d i 0) g),
        plain_go (get_or d i 0) i e,
        plain_gives 0 (get_or d i 0) e,
        before (get_or d i 0) 0 (text d (i + 1)),
      )

  -- or nothing, where it is dropped
  pub decode_dropped : get_or d i 0 < 32 → decode_of Plain 0 (text d i) ≡ decode_of Plain 0 (text d (i + 1))
  decode_dropped g = ap (decode_of Plain 0) (text_dropped d i h (low_class (get_or d i 0) g))

  pub measure_over : (c : ℕ) → is_mark (get_or d i 0) ≡ false → measure_from Plain c (text d i)
      ≡ measure_from Plain (c + cond (ltb (get_or d i 0) 32) 0 1) (text d (i + 1))
  unfolding measure_from completes
  measure_over c e = by (ltb (get_or d i 0) 32) refl where
    by : (q : Bool) → ltb (get_or d i 0) 32 ≡ q → measure_from Plain c (text d i) ≡ measure_from Plain (c + cond q 0 1) (text d (i + 1))
    by true f = let z : c ≡ c + 0 = omega arith in
        rw (← z) (ap (measure_from Plain c) (text_dropped d i h (low_class (get_or d i 0) (ltb-true _ _ f))))
    by false f = rw (
      text_kept d i h (kept_byte (get_or d i 0) (ltb-false _ _ f)),
      plain_go (get_or d i 0) i e,
      plain_gives 0 (get_or d i 0) e,
    )

-- ---- steps of the measuring loop
module _ (s : Inside) (c : ℕ) {t : Text} where
  pub measure_on : {p b : ℕ} {u : Text} {m : Move} {v : Inside} → t ≡ sign p b u → m ≡ inside_of s b p → m ≡ Go v → measure_from s c t
      ≡ measure_from v (c + completes s b) u
  unfolding measure_from
  measure_on e f g = rw (e, sym f ∙ g)

  pub measure_closed : {p b : ℕ} {u : Text} {m : Move} → t ≡ sign p b u → m ≡ inside_of s b p → m ≡ Closed → measure_from s c t ≡ None
  unfolding measure_from
  measure_closed e f g = rw (e, sym f ∙ g)

  pub measure_wrong : {p b o : ℕ} {u : Text} {m : Move} → t ≡ sign p b u → m ≡ inside_of s b p → m ≡ Wrong o → measure_from s c t ≡ None
  unfolding measure_from
  measure_wrong e f g = rw (e, sym f ∙ g)

  pub measure_end : {p : ℕ} → t ≡ stop p → measure_from s c t ≡ ended_in s c
  unfolding measure_from
  measure_end e = rw e

-- ---- one byte read
pub paced_on : {k j n m i size : ℕ} {t u : Inside} → On k n t ≡ On j m u → i < n → n ≤ size → k ≤ 1 → (i < m) × (m ≤ size) × (j ≤ 1)
paced_on {k} {j} {n} {m} e h l f = let p : k ≡ j = cc in let q : n ≡ m = cc in (omega arith, omega arith, omega arith)

pub paced : {d : List ℕ} {s : Inside} {n : ℕ} {r q : Pace} → Paced d s n r → r ≡ q → (c : ℕ) → measure_from s c (text d n)
    ≡ paced_of d c s q
paced {d} {s} p e c = p.paces c ∙ ap (paced_of d c s) e

-- ---- the whole
-- how many signs a byte completes does not hang on the byte before it
gives_count : (s : Inside) (a b : ℕ) → completes s b ≡ length (gives_of s a b)
unfolding completes gives_of
gives_count Plain a b = refl
gives_count (Opened o) a b = refl
gives_count (Shut o) a b = refl
gives_count (Ell o) a b = refl
gives_count (Pair o) a b = refl
gives_count (Low o) a b = refl

-- the extent of bytes that start at p, read on from s behind a, where c signs were said before: a quote behind them closes them, or not
abbrev extent_of : List ℕ → ℕ → Inside → ℕ → ℕ → Option ℕ
extent_of l p s a c = cond (closes_at (p + length l + 1) (string_of s (kept p (l ++ 34 ∷ []))))
    (Some (c + length (decode_of s a (kept p l))))
    None

over : (p : ℕ) (s : Inside) (a c : ℕ) → ended_in s c ≡ extent_of [] p s a c
unfolding ended_in kept string_of decode_of inside_of is_hex is_digit upper_of class_of
over p Plain a c = let z : c + 0 ≡ c = omega arith in rw (eq-eqb (p + 1) (p + 0 + 1) (omega arith), z)
over p (Opened o) a c = refl
over p (Shut o) a c = refl
over p (Ell o) a c = refl
over p (Pair o) a c = refl
over p (Low o) a c = refl

extent : (l : List ℕ) (p : ℕ) (s : Inside) (a c : ℕ) → measure_from s c (kept p l) ≡ extent_of l p s a c
unfolding measure_from kept string_of decode_of
extent [] p s a c = over p s a c
extent (x ∷ l) p s a c = by (eqb (class_of x) 0) (λ u y k. extent l (p + 1) u y k) where
  e : p + suc (length l) ≡ p + 1 + length l
  e = omega arith

  at_byte : (m : Move) → ((u : Inside) (y k : ℕ) → measure_from u k (kept (p + 1) l) ≡ extent_of l (p + 1) u y k)
      → measured m (λ u. measure_from u (c + completes s x) (kept (p + 1) l))
      ≡ cond (closes_at (p + suc (length l) + 1) (moved m (λ u. string_of u (kept (p + 1) (l ++ 34 ∷ []))) (Past (p + 1))))
      (Some (c + length (gone m (gives_of s a x) (λ u. decode_of u x (kept (p + 1) l))))) None
  at_byte (Go u) ih =
      let n : c + length (gives_of s a x ++ decode_of u x (kept (p + 1) l)) ≡ c + completes s x + length (decode_of u x (kept (p + 1) l)) =
      rw (length-append (gives_of s a x) (decode_of u x (kept (p + 1) l)), gives_count s a x) (omega arith) in
      rw (e, n) (ih u x (c + completes s x))
  at_byte Closed ih = rw (ne_eqb (p + 1) (p + suc (length l) + 1) (λ q. omega arith))
  at_byte (Wrong o) ih = refl

  by : (q : Bool) → ((u : Inside) (y k : ℕ) → measure_from u k (kept (p + 1) l) ≡ extent_of l (p + 1) u y k)
      → measure_from s c (cond q (kept (p + 1) l) (sign p x (kept (p + 1) l)))
      ≡ cond (closes_at (p + suc (length l) + 1) (string_of s
      (cond q (kept (p + 1) (l ++ 34 ∷ [])) (sign p x (kept (p + 1) (l ++ 34 ∷ []))))))
      (Some (c + length (decode_of s a (cond q (kept (p + 1) l) (sign p x (kept (p + 1) l)))))) None
  by true ih = rw e (ih s a c)
  by false ih = at_byte (inside_of s x p) ih

-- MEASURED: a stretch that lies in the definition measures its signs where it is the inside of a text
pub measure_is : (d : List ℕ) (place long : ℕ) → place + long ≤ length d → measure_from Plain 0 (text (cut_off d place long) place)
    ≡ cond (inside_text d place long) (Some (length (signs_at d place long))) None
unfolding inside_text signs_at text
measure_is d place long h =
    let n : length (take (place + long) d) ≡ place + long = length-take-le (place + long) d h in
    let m : length (drop place (take (place + long) d)) ≡ long = length-drop place (take (place + long) d) ∙ omega arith in
    rw (le-leb (place + long) (length d) h, drop-append-le place (take (place + long) d) (34 ∷ []) (omega arith))
    (rw (m, zero-add (length (decode_of Plain 0 (kept place (drop place (take (place + long) d)))))) at
    (extent (drop place (take (place + long) d)) place Plain 0 0))

-- ---- what is written
pub numbers_count : (s : List Sign) → length (numbers_of s) ≡ length s
unfolding numbers_of
numbers_count [] = refl
numbers_count (x ∷ s) = ap suc (numbers_count s)

-- WRITTEN: numbers that are stored one by one from the start stand there, and behind them what stood there
pub written : (s : List Sign) (list : List ℤ) → length s ≤ length list → sets list 0 (numbers_of s) ≡ numbers_of s ++ drop (length s) list
written s list h =
    let n = numbers_count s in
    sets-eq (numbers_of s) list 0 (omega arith) ∙ rw (n, zero-add (length s))

-- one sign is stored, and what follows it is left
pub next_stored : (list : List ℤ) (m : ℕ) {s rest : List Sign} {x : Sign} → s ≡ x ∷ rest → sets list m (numbers_of s)
    ≡ sets (set list m (pos (sign_number x))) (suc m) (numbers_of rest)
unfolding numbers_of
next_stored list m e = rw e

none : {A : Type 0} (l : List A) → length l ≡ 0 → l ≡ []
none [] e = refl
none (x ∷ l) e = absurd (omega arith)

-- nothing is left to store: it is done
pub all_written : (s rest : List Sign) (list list' : List ℤ) (n m : ℕ) → sets list 0 (numbers_of s) ≡ sets list' m (numbers_of rest)
    → length rest ≡ 0 → n ≡ length s → n ≤ length list → list' ≡ numbers_of s ++ drop n list
unfolding numbers_of
all_written s rest list list' n m e f g h = sym (rw (none rest f) at e) ∙ rw g (written s list (omega arith))
