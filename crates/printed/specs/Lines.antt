-- PRINTED LINES as a reader has them: a line's tokens with a space between two, and the next line right behind, since CR LF are not there.
use Rattle.std.specs.Prelude.{◌≡◌, refl, true, List, [], ◌∷◌, ◌++◌, ℕ}
use Rattle.std.proofs.Common.{ap, ◌∙◌, append_assoc}
use Rattle.ascii.specs.rule.Class.{class_of}
use Rattle.clean_text.specs.rule.Clean.{Token, line_of, clean_text}
use Rattle.printed.specs.Left.{sieve, sieve_append, sieve_plain, each, plain}

-- every member of a list has it
pub data All {A : Type 0} (P : A → Type 0) : List A → Type 0 where
  nil : All P []
  more : {a : A} {l : List A} → P a → All P l → All P (a ∷ l)

pub all_append : {A : Type 0} {P : A → Type 0} {l m : List A} → All P l → All P m → All P (l ++ m)
all_append nil y = y
all_append (more x r) y = more x (all_append r y)

-- a line and what is left behind it; lines likewise
unfoldable pub ink_then : List Token → List ℕ → List ℕ
ink_then [] u = u
ink_then (w ∷ []) u = w ++ u
ink_then (w ∷ v ∷ ws) u = w ++ (32 ∷ ink_then (v ∷ ws) u)

unfoldable pub inks_then : List (List Token) → List ℕ → List ℕ
inks_then [] u = u
inks_then (l ∷ ls) u = ink_then l (inks_then ls u)

pub inks_append : (ls ms : List (List Token)) (u : List ℕ) → inks_then (ls ++ ms) u ≡ inks_then ls (inks_then ms u)
unfolding inks_then
inks_append [] ms u = refl
inks_append (l ∷ ls) ms u = ap (ink_then l) (inks_append ls ms u)

-- tokens without dropped bytes
abbrev pub Clear : Token → Type 0
Clear w = each plain w ≡ true

line_kept : (l : List Token) (r : List ℕ) → All Clear l → sieve (line_of l ++ r) ≡ ink_then l (sieve r)
unfolding line_of ink_then sieve class_of
line_kept [] r h = refl
line_kept (w ∷ []) r (more c h) =
    ap sieve (append_assoc w (13 ∷ 10 ∷ []) r) ∙ sieve_append w (13 ∷ 10 ∷ r) ∙ ap (λ (x : List ℕ). x ++ sieve r) (sieve_plain w c)
line_kept (w ∷ v ∷ ws) r (more c h) =
    ap sieve (append_assoc w (32 ∷ line_of (v ∷ ws)) r) ∙ sieve_append w (32 ∷ line_of (v ∷ ws) ++ r)
    ∙ (ap (λ (x : List ℕ). x ++ (32 ∷ sieve (line_of (v ∷ ws) ++ r))) (sieve_plain w c)
    ∙ ap (λ (x : List ℕ). w ++ (32 ∷ x)) (line_kept (v ∷ ws) r h))

pub text_kept : (ls : List (List Token)) → All (All Clear) ls → sieve (clean_text ls) ≡ inks_then ls []
unfolding clean_text inks_then sieve
text_kept [] nil = refl
text_kept (l ∷ ls) (more h r) = line_kept l (clean_text ls) h ∙ ap (ink_then l) (text_kept ls r)
