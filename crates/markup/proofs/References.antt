-- A reference, in XML's words.
use mathlib.Core.Path.{◌≡◌, refl, sym, ap, ◌∙◌}
use mathlib.Core.Logic.{◌↔◌}
use mathlib.Core.Bool.{Bool, true, false, cond}
use mathlib.Core.List.{List, [], ◌∷◌, ◌++◌, append_assoc}
use Prim.Native.Nat.{ℕ, suc, ◌+◌, ◌≤◌, ◌<◌}
use native.Mathlib.Omega.{arith}
use lib.Dec.{ltb, leb, eqb}
use lib.ListN.{length, drop, length-append}
use borrow.Author.Tests.{eqb-true, ne_eqb, ltb-true, leb-true, le-leb, lt-leb}
use Rattle.std.proofs.Common.{Option, Some, None}
use Rattle.below.specs.Below.{and_right, holds_not}
use Rattle.utf.specs.rule.Chars.{legal_character}
use Rattle.markup.specs.rule.Bytes.{is_digit, is_hex, is_name, starts_name, of_kind, run_of, bytes_while, rest_of, stands}
use Rattle.markup.specs.rule.Reference.{reference_number, held_below, digit_kind, closed_reference, named_character, numbered_of}
use Rattle.markup.specs.rule.Reference.{reference_of}
use Rattle.markup.specs.rule.Grammar.{Each, no_more, each, ReferenceDigits, digits, Ref, lt, gt, amp, apos, quot, decimal, hex}
use Rattle.markup.proofs.Runs.{run_splits, run_long, each_bytes, small}
use Rattle.markup.proofs.Gaps.{stands_split}

-- ---- runs of bytes that all pass
run_bytes : (f : ℕ → Bool) {s : List ℕ} (x : ℕ) (t : List ℕ) → Each f s → f x ≡ false → bytes_while f (s ++ x ∷ t) ≡ s
unfolding bytes_while
run_bytes f x t no_more h = rw h
run_bytes f x t (each {b} {s} e r) h = rw (e, run_bytes f x t r h)

run_rest : (f : ℕ → Bool) {s : List ℕ} (x : ℕ) (t : List ℕ) → Each f s → f x ≡ false → rest_of f (s ++ x ∷ t) ≡ x ∷ t
unfolding rest_of
run_rest f x t no_more h = rw h
run_rest f x t (each {b} {s} e r) h = rw (e, run_rest f x t r h)

-- ---- held values
legal_not : (c : ℕ) → 2000000 < c → legal_character c ≡ false
unfolding legal_character
legal_not c h =
    rw (
      le-leb 32 c (omega arith),
      lt-leb c 55295 (omega arith),
      le-leb 57344 c (omega arith),
      lt-leb c 65533 (omega arith),
      le-leb 65536 c (omega arith),
      lt-leb c 1114111 (omega arith),
    )
    (rw (ne_eqb c 9 (λ e. omega arith), ne_eqb c 10 (λ e. omega arith), ne_eqb c 13 (λ e. omega arith)))

legal_small : (c : ℕ) → legal_character c ≡ true → held_below c ≡ c
unfolding held_below
legal_small c e = by (ltb 2000000 c) refl where
  by : (q : Bool) → ltb 2000000 c ≡ q → cond q 2000000 c ≡ c
  by false f = refl
  by true f = holds_not e (legal_not c (ltb-true 2000000 c f))

legal_held : (v : ℕ) → legal_character (held_below v) ≡ true → held_below v ≡ v
unfolding held_below legal_character
legal_held v e = by (ltb 2000000 v) e where
  by : (q : Bool) → legal_character (cond q 2000000 v) ≡ true → cond q 2000000 v ≡ v
  by false e = refl
  by true e = let z : ◌≡◌ {A = ℕ} 0 1 = cc in absurd (omega arith)

no_zero : {A : Type 0} → legal_character 0 ≡ true → A
unfolding legal_character
no_zero e = let z : ◌≡◌ {A = ℕ} 0 1 = cc in absurd (omega arith)

-- ---- complete
no_semicolon : (h : Bool) → of_kind (digit_kind h) 59 ≡ false
unfolding of_kind is_hex is_digit
no_semicolon true = refl
no_semicolon false = refl

numbered_complete : (h : Bool) (n : ℕ) {s : List ℕ} {c : ℕ} (t : List ℕ) → Each (of_kind (digit_kind h)) s → c ≡ reference_number h 0 s
    → legal_character c
    ≡ true
    → numbered_of h n (s ++ 59 ∷ t) ≡ Some (c, n + length s + 1)
unfolding numbered_of closed_reference
numbered_complete h n {s} {c} t e q k =
    let f = of_kind (digit_kind h) in
    let z = no_semicolon h in
    rw (run_long f n (s ++ 59 ∷ t)) (rw (run_bytes f 59 t e z, run_rest f 59 t e z, ← q, legal_small c k, k))

no_x : (b : ℕ) → of_kind 2 b ≡ true → b ≡ 120 → ⊥
unfolding of_kind is_digit
no_x b e f = let h = leb-true b 57 (and_right (leb 48 b) (leb b 57) e) in omega arith

first : {f : ℕ → Bool} {b : ℕ} {s : List ℕ} → Each f (b ∷ s) → f b ≡ true
first (each e r) = e

decimal_complete : (p : ℕ) {b c : ℕ} {s : List ℕ} (t : List ℕ) → Each (of_kind 2) (b ∷ s) → c ≡ reference_number false 0 (b ∷ s)
    → legal_character c ≡ true
    → reference_of p (35 ∷ (b ∷ s) ++ 59 ∷ t) ≡ Some (c, p + 2 + length (b ∷ s) + 1)
unfolding reference_of stands
decimal_complete p {b} {c} {s} t r q k = rw (ne_eqb b 120 (no_x b (first r))) (numbered_complete false (p + 2) t r q k)

hex_complete : (p : ℕ) {c : ℕ} {s : List ℕ} (t : List ℕ) → Each (of_kind 3) s → c ≡ reference_number true 0 s → legal_character c ≡ true
    → reference_of p (35 ∷ 120 ∷ s ++ 59 ∷ t) ≡ Some (c, p + 3 + length s + 1)
unfolding reference_of stands
hex_complete p t r q k = numbered_complete true (p + 3) t r q k

pub reference_complete : (p : ℕ) {u : List ℕ} {c : ℕ} → Ref u c → (t : List ℕ) → reference_of p (u ++ t) ≡ Some (c, p + 1 + length u)
unfolding reference_of stands named_character closed_reference of_kind run_of rest_of is_name is_digit starts_name legal_character
reference_complete p lt t = ap (λ (n : ℕ). Some (60, n)) (omega arith)
reference_complete p gt t = ap (λ (n : ℕ). Some (62, n)) (omega arith)
reference_complete p amp t = ap (λ (n : ℕ). Some (38, n)) (omega arith)
reference_complete p apos t = ap (λ (n : ℕ). Some (39, n)) (omega arith)
reference_complete p quot t = ap (λ (n : ℕ). Some (34, n)) (omega arith)
reference_complete p (decimal {c = c} (digits {b} {s} r) q k) t =
    let l = length-append (b ∷ s) (59 ∷ []) in
    let n : p + 2 + length (b ∷ s) + 1 ≡ p + 1 + suc (length ((b ∷ s) ++ 59 ∷ [])) = omega arith in
    ap (λ (x : List ℕ). reference_of p (35 ∷ x)) (append_assoc (b ∷ s) (59 ∷ []) t) ∙ decimal_complete p t r q k
    ∙ ap (λ (n : ℕ). Some (c, n)) n
reference_complete p (hex {c = c} (digits {b} {s} r) q k) t =
    let l = length-append (b ∷ s) (59 ∷ []) in
    let n : p + 3 + length (b ∷ s) + 1 ≡ p + 1 + suc (suc (length ((b ∷ s) ++ 59 ∷ []))) = omega arith in
    ap (λ (x : List ℕ). reference_of p (35 ∷ 120 ∷ x)) (append_assoc (b ∷ s) (59 ∷ []) t) ∙ hex_complete p t r q k
    ∙ ap (λ (n : ℕ). Some (c, n)) n

-- ---- sound
-- from the & at p on a reference that says c stands before n
pub record Referred (s : List ℕ) (p c n : ℕ) : Type 0 where
  pub bytes : List ℕ
  pub rest : List ℕ
  pub ref : Ref bytes c
  pub split : s ≡ bytes ++ rest
  pub place : n ≡ p + 1 + length bytes

record Closed (c c' n n' : ℕ) (r : List ℕ) : Type 0 where
  pub after : List ℕ
  pub semicolon : r ≡ 59 ∷ after
  pub good : legal_character c ≡ true
  pub same : c' ≡ c
  pub next : n' ≡ n + 1

closed_is : (n c c' n' : ℕ) (r : List ℕ) → closed_reference n c r ≡ Some (c', n') → Closed c c' n n' r
unfolding closed_reference
closed_is n c c' n' [] e = let z : ◌≡◌ {A = ℕ} 0 1 = cc in absurd (omega arith)
closed_is n c c' n' (b ∷ s) e = by (eqb b 59) (legal_character c) refl refl e where
  by : (q r : Bool) → eqb b 59 ≡ q → legal_character c ≡ r → cond {A = Option (ℕ × ℕ)} q (cond r (Some (c, n + 1)) None) None
      ≡ Some (c', n')
      → Closed c c' n n' (b ∷ s)
  by true true f g e =
      let h = eqb-true b 59 f in
      let p : ◌≡◌ {A = ℕ × ℕ} (c, n + 1) (c', n') = cc in
      record {
        after = s;
        semicolon = rw h;
        good = g;
        same = ap (λ (k : ℕ × ℕ). k.0) (sym p);
        next = ap (λ (k : ℕ × ℕ). k.1) (sym p);
      }
  by true false f g e = let z : ◌≡◌ {A = ℕ} 0 1 = cc in absurd (omega arith)
  by false r f g e = let z : ◌≡◌ {A = ℕ} 0 1 = cc in absurd (omega arith)

record Numbered (h : Bool) (s : List ℕ) (n c' n' : ℕ) : Type 0 where
  pub figures : List ℕ
  pub after : List ℕ
  pub digits_are : ReferenceDigits h figures
  pub split : s ≡ figures ++ 59 ∷ after
  pub value : c' ≡ reference_number h 0 figures
  pub good : legal_character c' ≡ true
  pub next : n' ≡ n + length figures + 1

numbered_sound : (h : Bool) (n c' n' : ℕ) (s : List ℕ) → numbered_of h n s ≡ Some (c', n') → Numbered h s n c' n'
unfolding numbered_of reference_number
numbered_sound h n c' n' s e =
    let f = of_kind (digit_kind h) in
    let k = closed_is (run_of f n s) (held_below (reference_number h 0 (bytes_while f s))) c' n' (rest_of f s) e in
    let v = legal_held (reference_number h 0 (bytes_while f s)) k.good in
    let l = run_long f n s in
    let x = k.same in
    let y = k.next in
    record {
      figures = bytes_while f s;
      after = k.after;
      digits_are = some (bytes_while f s) (each_bytes f s) k.good;
      split = run_splits f s ∙ ap (λ (t : List ℕ). bytes_while f s ++ t) k.semicolon;
      value = x ∙ v;
      good = rw x k.good;
      next = omega arith;
    } where
      some : (l : List ℕ) → Each (of_kind (digit_kind h)) l → legal_character (held_below (reference_number h 0 l)) ≡ true
          → ReferenceDigits h l
      some [] a g = no_zero (rw (small 0 (omega arith)) at g)
      some (b ∷ l) a g = digits a

-- how long the name of such a character is, with its semicolon
abbrev pub long_of : ℕ → ℕ
long_of c = cond (leb 60 c) 3 (cond (eqb c 38) 4 5)

-- one of the five names stands
record Which (s : List ℕ) : Type 0 where
  pub name : List ℕ
  pub code : ℕ
  pub after : List ℕ
  pub ref : Ref name code
  pub split : s ≡ name ++ after
  pub says : named_character s ≡ code
  pub long : length name ≡ long_of code

named_which : (s : List ℕ) → (named_character s ≡ 0 → ⊥) → Which s
unfolding named_character
named_which s h =
    by (stands lt_is s) (stands gt_is s) (stands amp_is s) (stands apos_is s) (stands quot_is s) refl refl refl refl refl refl
  where
    lt_is : List ℕ
    lt_is = 108 ∷ 116 ∷ 59 ∷ []

    gt_is : List ℕ
    gt_is = 103 ∷ 116 ∷ 59 ∷ []

    amp_is : List ℕ
    amp_is = 97 ∷ 109 ∷ 112 ∷ 59 ∷ []

    apos_is : List ℕ
    apos_is = 97 ∷ 112 ∷ 111 ∷ 115 ∷ 59 ∷ []

    quot_is : List ℕ
    quot_is = 113 ∷ 117 ∷ 111 ∷ 116 ∷ 59 ∷ []

    found : (w : List ℕ) (c : ℕ) → Ref w c → stands w s ≡ true → named_character s ≡ c → length w ≡ long_of c → Which s
    found w c r f g l = let x = stands_split w s f in
        record { name = w; code = c; after = x.0; ref = r; split = x.1; says = g; long = l }

    by : (q r t u v : Bool) → stands lt_is s ≡ q → stands gt_is s ≡ r → stands amp_is s ≡ t → stands apos_is s ≡ u → stands quot_is s ≡ v
        → named_character s ≡ cond q 60 (cond r 62 (cond t 38 (cond u 39 (cond v 34 0)))) → Which s
    by true r t u v a b c d e g = found lt_is 60 lt a g refl
    by false true t u v a b c d e g = found gt_is 62 gt b g refl
    by false false true u v a b c d e g = found amp_is 38 amp c g refl
    by false false false true v a b c d e g = found apos_is 39 apos d g refl
    by false false false false true a b c d e g = found quot_is 34 quot e g refl
    by false false false false false a b c d e g = absurd (h g)

-- which of them stands says the character and the place behind it
pub name_reference : (p : ℕ) (s : List ℕ) → (named_character s ≡ 0 → ⊥) → reference_of p s
    ≡ Some (named_character s, p + 1 + long_of (named_character s))
name_reference p s h = let w = named_which s h in
    ap (reference_of p) w.split ∙ reference_complete p w.ref w.after ∙ rw (w.says, w.long)

pub named_fits : (s : List ℕ) → (named_character s ≡ 0 → ⊥) → long_of (named_character s) ≤ length s
named_fits s h =
    let w = named_which s h in
    let a = ap length w.split in
    let b = length-append w.name w.after in
    let c = w.long in
    let e : long_of w.code ≤ length s = omega arith in
    rw w.says e

-- any other name says no character, whatever ends it
no_code : (n : ℕ) (s : List ℕ) → closed_reference n 0 s ≡ None
unfolding closed_reference legal_character
no_code n [] = refl
no_code n (b ∷ s) = by (eqb b 59) where
  by : (q : Bool) → cond {A = Option (ℕ × ℕ)} q (cond (legal_character 0) (Some (0, n + 1)) None) None ≡ None
  by true = refl
  by false = refl

pub name_bad : (p : ℕ) (s : List ℕ) → stands (35 ∷ 120 ∷ []) s ≡ false → stands (35 ∷ []) s ≡ false → named_character s ≡ 0
    → reference_of p s
    ≡ None
unfolding reference_of
name_bad p s f g h = rw (f, g, h) (no_code (run_of (of_kind 1) (p + 1) s) (rest_of (of_kind 1) s))

name_sound : (p c n : ℕ) (s : List ℕ) → reference_of p s ≡ Some (c, n) → Which s → Referred s p c n
name_sound p c n s e w =
    let x : ◌≡◌ {A = Option (ℕ × ℕ)} (Some (w.code, p + 1 + length w.name)) (Some (c, n)) = sym (reference_complete p w.ref w.after)
    ∙ ap (reference_of p) (sym w.split) ∙ e in
    let z : ◌≡◌ {A = ℕ × ℕ} (w.code, p + 1 + length w.name) (c, n) = cc in
    let y : w.code ≡ c = ap (λ (k : ℕ × ℕ). k.0) z in
    record { bytes = w.name; rest = w.after; ref = rw (← y) w.ref; split = w.split; place = sym (ap (λ (k : ℕ × ℕ). k.1) z) }

pub reference_sound : (p c n : ℕ) (s : List ℕ) → reference_of p s ≡ Some (c, n) → Referred s p c n
unfolding reference_of
reference_sound p c n s e = by (stands (35 ∷ 120 ∷ []) s) (stands (35 ∷ []) s) refl refl e where
  with_hex : (t : List ℕ) → s ≡ 35 ∷ 120 ∷ t → Numbered true t (p + 3) c n → Referred s p c n
  with_hex t f k =
      let y = k.next in
      record {
        bytes = 35 ∷ 120 ∷ k.figures ++ 59 ∷ [];
        rest = k.after;
        ref = hex k.digits_are k.value k.good;
        split = f ∙ ap (λ (t : List ℕ). 35 ∷ 120 ∷ t) (k.split ∙ sym (append_assoc k.figures (59 ∷ []) k.after));
        place = omega (arith, length-append k.figures (59 ∷ []));
      }

  with_digits : (t : List ℕ) → s ≡ 35 ∷ t → Numbered false t (p + 2) c n → Referred s p c n
  with_digits t f k =
      let y = k.next in
      record {
        bytes = 35 ∷ k.figures ++ 59 ∷ [];
        rest = k.after;
        ref = decimal k.digits_are k.value k.good;
        split = f ∙ ap (λ (t : List ℕ). 35 ∷ t) (k.split ∙ sym (append_assoc k.figures (59 ∷ []) k.after));
        place = omega (arith, length-append k.figures (59 ∷ []));
      }

  by : (q r : Bool) → stands (35 ∷ 120 ∷ []) s ≡ q → stands (35 ∷ []) s ≡ r
      → cond q (numbered_of true (p + 3) (drop 2 s))
      (cond r (numbered_of false (p + 2) (drop 1 s))
      (closed_reference (run_of (of_kind 1) (p + 1) s) (named_character s) (rest_of (of_kind 1) s)))
      ≡ Some (c, n)
      → Referred s p c n
  by true r f g e = let x = stands_split (35 ∷ 120 ∷ []) s f in
      with_hex (drop 2 s) (x.1 ∙ ap (λ (t : List ℕ). 35 ∷ 120 ∷ t) (sym (ap (drop 2) x.1)))
      (numbered_sound true (p + 3) c n (drop 2 s) e)
  by false true f g e = let x = stands_split (35 ∷ []) s g in
      with_digits (drop 1 s) (x.1 ∙ ap (λ (t : List ℕ). 35 ∷ t) (sym (ap (drop 1) x.1))) (numbered_sound false (p + 2) c n (drop 1 s) e)
  by false false f g d =
      let g = (closed_is (run_of (of_kind 1) (p + 1) s) (named_character s) c n (rest_of (of_kind 1) s) d).good in
      name_sound p c n s e (named_which s λ z. no_zero (rw z at g))

-- REFERENCE: it says c up to n exactly when what follows the & up to n is one of the five names, or a number of a legal character
pub reference_exactly : (p c n : ℕ) (s : List ℕ) → (reference_of p s ≡ Some (c, n)) ↔ Referred s p c n
reference_exactly p c n s = (reference_sound p c n s, λ r. rw (r.split, r.place) (reference_complete p r.ref r.rest))
