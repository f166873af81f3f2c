-- "One statement a line with CR LF": a clean text is its statements, a line each, "CR LF behind every line, the last too", and no line
-- holds a byte below 32.
use Rattle.std.specs.Prelude.{◌≡◌, refl, Bool, true, false, List, [], ◌∷◌, ◌++◌, ℕ, suc, ◌≤◌, ltb, length}
use Rattle.std.proofs.Common.{sym, append_assoc, arith, ltb-false}
use Rattle.ascii.specs.rule.Class.{class_of}
use Rattle.survey.specs.rule.Survey.{Survey}
use Rattle.clean_text.specs.rule.Clean.{Token, line_of, clean_text, clean_lines, clean_of}
use Rattle.printed.specs.Left.{no, both, plain}
use Rattle.printed.specs.Lines.{All, nil, more, all_append, Clear}
use Rattle.clean_laws.specs.rule.Lined.{Shown, over, byte, Lined, none, line}
use Rattle.clean_laws.specs.Said.{SurveySaid}
use Rattle.clean_laws.specs.Derived.{letter_said}
use Rattle.clean_laws.specs.Clear.{ClearLine, word, words, clean_clear}

plain_from : (b : ℕ) → plain b ≡ true → 32 ≤ b
unfolding plain class_of
plain_from b h = by (ltb b 32) refl h where
  by : (q : Bool) → ltb b 32 ≡ q → plain b ≡ true → 32 ≤ b
  by true e h = no (rw e at h)
  by false e h = ltb-false b 32 e

clear_from : (w : Token) → Clear w → All (λ c. 32 ≤ c) w
clear_from [] h = nil
clear_from (b ∷ w) h = let c = both plain b w h in more (plain_from b c.0) (clear_from w c.1)

all_shown : {s : List ℕ} → All (λ c. 32 ≤ c) s → Shown s
all_shown nil = over
all_shown (more h r) = byte h (all_shown r)

-- a line is its bytes and CR LF
data OneLine (l : List Token) : Type 0 where
  one_line : {b : ℕ} {s : List ℕ} → All (λ c. 32 ≤ c) (b ∷ s) → line_of l ≡ (b ∷ s) ++ (13 ∷ 10 ∷ []) → OneLine l

data Bytes (l : List Token) : Type 0 where
  bytes : {s : List ℕ} → All (λ c. 32 ≤ c) s → line_of l ≡ s ++ (13 ∷ 10 ∷ []) → Bytes l

bytes_of : (l : List Token) → All Clear l → Bytes l
unfolding line_of
bytes_of [] nil = bytes nil refl
bytes_of (w ∷ []) (more h nil) = bytes (clear_from w h) refl
bytes_of (w ∷ v ∷ ws) (more h r) = by (bytes_of (v ∷ ws) r) where
  by : Bytes (v ∷ ws) → Bytes (w ∷ v ∷ ws)
  by (bytes {s = s} k e) =
      bytes {s = w ++ (32 ∷ s)} (all_append (clear_from w h) (more (omega arith) k))
      (rw e (sym (append_assoc w (32 ∷ s) (13 ∷ 10 ∷ []))))

-- a first token or a space stands in it
some_byte : (w : Token) (s : List ℕ) {l : List Token} → All (λ c. 32 ≤ c) (w ++ (32 ∷ s)) → line_of l ≡ w ++ (32 ∷ s) ++ (13 ∷ 10 ∷ [])
    → OneLine l
some_byte [] s h e = one_line h e
some_byte (b ∷ w) s h e = one_line h e

line_of_lem : {l : List Token} → ClearLine l → OneLine l
unfolding line_of
line_of_lem (word {b = b} {w = w} h) = one_line (clear_from (b ∷ w) h) refl
line_of_lem (words {w = w} {v = v} {ws = ws} h r) = by (bytes_of (v ∷ ws) r) where
  by : Bytes (v ∷ ws) → OneLine (w ∷ v ∷ ws)
  by (bytes {s = s} k e) =
      some_byte w s (all_append (clear_from w h) (more (omega arith) k)) (rw e (sym (append_assoc w (32 ∷ s) (13 ∷ 10 ∷ []))))

lined_of : (ls : List (List Token)) → All ClearLine ls → Lined (length ls) (clean_text ls)
unfolding clean_text
lined_of [] nil = none
lined_of (l ∷ ls) (more h r) = by (line_of_lem h) (lined_of ls r) where
  by : OneLine l → Lined (length ls) (clean_text ls) → Lined (suc (length ls)) (line_of l ++ clean_text ls)
  by (one_line {b = b} {s = s} k e) t = rw (e, append_assoc (b ∷ s) (13 ∷ 10 ∷ []) (clean_text ls)) (line (all_shown k) t)

-- THE LINES: as many as statements
pub clean_lined : (d : List ℕ) {s : Survey} → SurveySaid d s → Lined (length (clean_lines d s)) (clean_of d s)
unfolding clean_of
clean_lined d {s} h = lined_of (clean_lines d s) (clean_clear d s (letter_said h))
