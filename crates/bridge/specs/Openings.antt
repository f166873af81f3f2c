-- SSS VERSION 1.1: a version that is 1.1 as text is a run that spells it to its end.
use Rattle.std.specs.Prelude.{◌≡◌, Bool, List, [], ◌∷◌, ltb, leb, length, Ok, Err}
use Rattle.std.proofs.Math.Path.{refl}
use Rattle.std.proofs.Common.{◌∙◌, sym, arith, eq-eqb, ne_eqb, eqb-true, ltb-false}
use Rattle.std.proofs.Math.Bool.{true, false, cond, not}
use Prim.Native.Nat.{ℕ, suc, ◌+◌, ◌-◌, ◌<◌}
use Rattle.std.proofs.Math.Dec.{eqb}
use Rattle.std.proofs.lemmas.Bool.{eqb-false}
use Rattle.ascii.specs.rule.Class.{class_of, upper_of}
use Rattle.scan.specs.rule.Text.{Text, text, place_of}
use Rattle.scan.specs.rule.Number.{is_digit, is_space, is_value, run_of, run_bytes}
use Rattle.scan.specs.rule.Word.{word_of, word_at}
use Rattle.scan.specs.declared.Word.{Word}
use Rattle.scan.specs.declared.Word.TheVariants as spelled
use Rattle.scan.proofs.Texts.{From, at_stop, at_sign, from_text}
use Rattle.tokens.specs.rule.Gap.{fault}
use Rattle.tokens.specs.Gap.{then, spaces_on}
use Rattle.tokens.specs.Token.{word_here}
use Rattle.statements.specs.rule.Words.{SSS, VERSION, ONE-ONE}
use Rattle.statements.specs.Opening.{whole, version_here, opening_of}
use Rattle.reading.specs.rule.Result.{Result, Is, Not, bind}
use Rattle.reading.specs.rule.Least.{◌when◌, named, lower, least, judged}
use Rattle.reading.specs.rule.Token.{here}
use Rattle.reading.specs.rule.Opening.{same, spaces_skipped, version, opening}
use Rattle.bridge.specs.Tokens.{to_reading, here_on}
use Rattle.bridge.specs.Amounts.{run_empty}

-- what is no letter is written in one way
upper_plain : (b x : ℕ) → x < 65 → eqb (upper_of b) x ≡ eqb b x
unfolding upper_of
upper_plain b x h = by (ltb b 97) (leb b 122) refl where
  by : (p q : Bool) → ltb b 97 ≡ p → eqb (cond p b (cond q (b - 32) b)) x ≡ eqb b x
  by true q e = refl
  by false true e = let l = ltb-false b 97 e in rw (ne_eqb (b - 32) x (λ z. omega arith), ne_eqb b x (λ z. omega arith))
  by false false e = refl

abbrev ends : ℕ → Word → Bool
ends e (spelled.Matched m) = eqb m e
ends e spelled.Not = false

-- bytes of a value that are no letters
data Plain : List ℕ → Type 0 where
  none : Plain []
  one : {x : ℕ} {w : List ℕ} → x < 65 → is_value x ≡ true → Plain w → Plain (x ∷ w)

turned : (a b : ℕ) → eqb a b ≡ eqb b a
turned a b = by (eqb a b) refl where
  by : (q : Bool) → eqb a b ≡ q → q ≡ eqb b a
  by true e = sym (eq-eqb b a (sym (eqb-true a b e)))
  by false e = sym (ne_eqb b a (λ z. eqb-false a b e (sym z)))

empty : (s : List ℕ) → eqb (length s) 0 ≡ same s []
unfolding same
empty [] = refl
empty (x ∷ s) = ne_eqb (suc (length s)) 0 (λ z. omega arith)

module _ (d : List ℕ) where
  word_whole : {n : ℕ} {t : Text} → From d n t → {w : List ℕ} → Plain w
      → ends (run_of is_value n t) (word_of n t w) ≡ same (run_bytes is_value t) w
  unfolding word_of run_of run_bytes same
  word_whole {n} {t} f none = turned n (run_of is_value n t) ∙ run_empty d n f ∙ empty (run_bytes is_value t)
  word_whole {n} at_stop (one {x = x} {w = w} h v r) = refl
  word_whole {n} (at_sign {p = p} {b = b} {u = u} g l e f) (one {x = x} {w = w} h v r) =
      rw (upper_plain b x h) (by (eqb b x) refl (word_whole {n = p + 1} f r)) where
        by : (q : Bool) → eqb b x ≡ q → ends (run_of is_value (p + 1) u) (word_of (p + 1) u w) ≡ same (run_bytes is_value u) w
            → ends (cond (is_value b) (run_of is_value (p + 1) u) n) (cond q (word_of (p + 1) u w) spelled.Not)
            ≡ same (cond (is_value b) (b ∷ run_bytes is_value u) []) (x ∷ w)
        by true i ih = let k : is_value b ≡ true = rw (eqb-true b x i) v in rw (k, i) ih
        by false i ih = other (is_value b) where
          other : (q : Bool) → false ≡ same (cond q (b ∷ run_bytes is_value u) []) (x ∷ w)
          other true = rw i
          other false = refl

  one_one : Plain ONE-ONE
  unfolding is_value is_digit class_of
  one_one = one {x = 49} (omega arith) refl (one {x = 46} (omega arith) refl (one {x = 49} (omega arith) refl none))

  version_here_lem : (n : ℕ) → version_here d n ≡ to_reading (version d n)
  unfolding version_here version judged named least lower word_at
  version_here_lem n =
      rw (run_empty d n (from_text d n))
      (by (eqb (length (run_bytes is_value (text d n))) 0) (word_of n (text d n) ONE-ONE) (run_of is_value n (text d n))
      (same (run_bytes is_value (text d n)) ONE-ONE) (word_whole (from_text d n) one_one))
    where
      told : (q : Bool) (e : ℕ) → cond q (Ok e) (Err (fault 4 n)) ≡ to_reading (judged (fault 4 n when not q ∷ []) (tt {0}) e)
      told true e = refl
      told false e = refl

      by : (q : Bool) (w : Word) (e : ℕ) (s : Bool) → ends e w ≡ s
          → cond q (Err (fault 2 n)) (whole n e w)
          ≡ to_reading (cond q (Not (fault 2 n)) (judged (fault 4 n when not s ∷ []) (tt {0}) e))
      by true w e s i = refl
      by false (spelled.Matched m) e s i = rw (← i) (told (eqb m e) e)
      by false spelled.Not e s i = rw (← i)

  pub opening_on : opening_of d ≡ to_reading (opening d (place_of (text d 0)))
  unfolding opening_of opening spaces_on
  opening_on = rw (here_on d (Is p p) SSS) (by (here d SSS p)) where
    p : ℕ
    p = place_of (text d 0)

    fin : (r : Result Unit) → then (spaces_on d (to_reading r)) (version_here d)
        ≡ to_reading (bind r λ a n. bind (spaces_skipped d n) λ a. version d)
    fin (Is a n) = version_here_lem _
    fin (Not f) = refl

    by : (r : Result Unit) → then (spaces_on d (word_here d (spaces_on d (to_reading r)) VERSION)) (version_here d)
        ≡ to_reading (bind r λ a n. bind (spaces_skipped d n) λ a n. bind (here d VERSION n) λ a n. bind (spaces_skipped d n) λ a. version
        d)
    by (Is a n) = let m = place_of (text d (run_of is_space n (text d n))) in rw (here_on d (Is m m) VERSION) (fin (here d VERSION m))
    by (Not f) = rw (here_on d {A = ℕ} (Not f) VERSION)
