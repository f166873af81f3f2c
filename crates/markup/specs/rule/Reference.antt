-- A reference, from its & on: 38 is &, 35 #, 120 x, 59 the semicolon.
use Rattle.std.specs.Prelude.{Bool, true, false, cond, List, [], ◌∷◌, ℕ, ◌+◌, ◌*◌, ◌-◌, ltb, eqb, drop, Option, Some, None}
use Rattle.utf.specs.rule.Chars.{legal_character}
use Rattle.markup.specs.rule.Bytes.{of_kind, run_of, bytes_while, rest_of, stands}
use Rattle.markup.specs.declared.Figure.{Figure}

-- what a digit says, and what digits say after v
unfoldable pub digit_of : ℕ → ℕ
digit_of b = cond (ltb b 58) (b - 48) (cond (ltb b 97) (b - 55) (b - 87))

unfoldable pub push_of : Bool → ℕ → ℕ → ℕ
push_of hex v b = cond hex (v * 16 + digit_of b) (v * 10 + digit_of b)

unfoldable pub reference_number : Bool → ℕ → List ℕ → ℕ
reference_number hex v [] = v
reference_number hex v (b ∷ s) = reference_number hex (push_of hex v b) s

-- a value is held at 2,000,000, above every character
unfoldable pub held_below : ℕ → ℕ
held_below n = cond (ltb 2000000 n) 2000000 n

abbrev pub digit_kind : Bool → ℕ
digit_kind hex = cond hex 3 2

unfoldable pub reference_figure : Bool → ℕ → ℕ → List ℕ → Figure
reference_figure hex v p s = record {
  value = held_below (reference_number hex v (bytes_while (of_kind (digit_kind hex)) s));
  next = run_of (of_kind (digit_kind hex)) p
      s;
}

-- the end of a reference that says c: n is the place where ; is due
unfoldable pub closed_reference : ℕ → ℕ → List ℕ → Option (ℕ × ℕ)
closed_reference n c [] = None
closed_reference n c (b ∷ s) = cond (eqb b 59) (cond (legal_character c) (Some (c, n + 1)) None) None

-- the five names, with their semicolons; 0 is no character
unfoldable pub named_character : List ℕ → ℕ
named_character s =
    cond (stands (108 ∷ 116 ∷ 59 ∷ []) s) 60
    (cond (stands (103 ∷ 116 ∷ 59 ∷ []) s) 62
    (cond (stands (97 ∷ 109 ∷ 112 ∷ 59 ∷ []) s) 38
    (cond (stands (97 ∷ 112 ∷ 111 ∷ 115 ∷ 59 ∷ []) s) 39
    (cond (stands (113 ∷ 117 ∷ 111 ∷ 116 ∷ 59 ∷ []) s) 34 0))))

unfoldable pub numbered_of : Bool → ℕ → List ℕ → Option (ℕ × ℕ)
numbered_of hex n s =
    let digit = of_kind (digit_kind hex) in
    closed_reference (run_of digit n s) (held_below (reference_number hex 0 (bytes_while digit s))) (rest_of digit s)

-- s is what follows the & at p; a reference that is not good, or that a bad character or the end of the file breaks, is None: 50 at its &
unfoldable pub reference_of : ℕ → List ℕ → Option (ℕ × ℕ)
reference_of p s =
    cond (stands (35 ∷ 120 ∷ []) s) (numbered_of true (p + 3) (drop 2 s))
    (cond (stands (35 ∷ []) s) (numbered_of false (p + 2) (drop 1 s))
    (closed_reference (run_of (of_kind 1) (p + 1) s) (named_character s) (rest_of (of_kind 1) s)))
