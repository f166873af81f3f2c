-- What is scanned of a text leads to no place beyond its end: words, runs, strings and comments.
use Rattle.std.specs.Prelude.{Bool, true, false, cond, ℕ, ◌+◌, ◌-◌, ◌≤◌, ◌<◌, eqb, ltb, length, drop}
use mathlib.Core.List.{List, [], ◌∷◌}
use Rattle.std.proofs.Common.{arith}
use Rattle.std.proofs.Math.ListN.{length-drop}
use Rattle.ascii.specs.rule.Class.{class_of, upper_of}
use Rattle.scan.specs.rule.Text.{Text, stop, sign, kept, text, place_of}
use Rattle.scan.specs.rule.Number.{run_of}
use Rattle.scan.specs.rule.Word.{word_of, word_at}
use Rattle.scan.specs.declared.Word.{Word}
use Rattle.scan.specs.declared.Word.TheVariants.{Matched, Not}
use Rattle.marks.specs.declared.Inside.{Inside}
use Rattle.marks.specs.declared.Inside.TheVariants.{Plain, Opened, Shut, Ell, Pair, Low}
use Rattle.marks.specs.declared.Move.{Move}
use Rattle.marks.specs.declared.Move.TheVariants.{Go, Closed, Wrong}
use Rattle.marks.specs.declared.Skip.{Skip}
use Rattle.marks.specs.declared.Skip.TheVariants.{Past, Unclosed, Bad}
use Rattle.marks.specs.rule.Marks.{is_hex, inside_of, moved, string_of, Mode, between, within_string, levels_of, comment_of}

-- what holds of both holds of either
pub either : {A : Type 0} (P : A → Type 0) (b : Bool) {x y : A} → P x → P y → P (cond b x y)
either P true p q = p
either P false p q = q

-- ---- the end of a text is e, or lies before it, and its bytes lie before e
abbrev pub Within : ℕ → Text → Type 0
Within e (stop p) = p ≤ e
Within e (sign p b t) = (p < e) × Within e t

kept_within : (e p : ℕ) (s : List ℕ) → p + length s ≤ e → Within e (kept p s)
unfolding kept
kept_within e p [] h = omega arith
kept_within e p (b ∷ s) h =
    let rest = kept_within e (p + 1) s (omega arith) in
    either (Within e) (eqb (class_of b) 0) rest (omega arith, rest)

module _ (d : List ℕ) (at : ℕ) (here : at ≤ length d) where
  pub text_within : Within (length d) (text d at)
  unfolding text
  text_within = kept_within (length d) at (drop at d) (simp length-drop (omega arith))

module _ (e : ℕ) where
  pub place_within : (t : Text) → Within e t → place_of t ≤ e
  unfolding place_of
  place_within (stop p) h = h
  place_within (sign p b t) h = omega (arith, h.0)

  pub run_within : (f : ℕ → Bool) (at : ℕ) (t : Text) → at ≤ e → Within e t → run_of f at t ≤ e
  unfolding run_of
  run_within f at (stop p) l h = l
  run_within f at (sign p b t) l h = either (λ n. n ≤ e) (f b) (run_within f (p + 1) t (omega arith) h.1) l

  -- ---- words
  abbrev pub WordWithin : Word → Type 0
  WordWithin (Matched n) = n ≤ e
  WordWithin Not = Unit

  word_within : (at : ℕ) (t : Text) (w : List ℕ) → at ≤ e → Within e t → WordWithin (word_of at t w)
  unfolding word_of
  word_within at t [] l h = l
  word_within at (stop p) (x ∷ w) l h = tt
  word_within at (sign p b t) (x ∷ w) l h = either WordWithin (eqb (upper_of b) x) (word_within (p + 1) t w (omega arith) h.1) tt

  -- ---- strings and comments: the brace of a form that is open
  abbrev pub OpenWithin : Inside → Type 0
  OpenWithin Plain = Unit
  OpenWithin (Opened o) = o ≤ e
  OpenWithin (Shut o) = o ≤ e
  OpenWithin (Ell o) = o ≤ e
  OpenWithin (Pair o) = o ≤ e
  OpenWithin (Low o) = o ≤ e

  abbrev pub MoveWithin : Move → Type 0
  MoveWithin (Go s) = OpenWithin s
  MoveWithin Closed = Unit
  MoveWithin (Wrong o) = o ≤ e

  abbrev pub SkipWithin : Skip → Type 0
  SkipWithin (Past n) = n ≤ e
  SkipWithin Unclosed = Unit
  SkipWithin (Bad p) = p ≤ e

  inside_within : (s : Inside) (b p : ℕ) → p < e → OpenWithin s → MoveWithin (inside_of s b p)
  unfolding inside_of
  inside_within Plain b p h k = either MoveWithin (eqb b 34) tt (either MoveWithin (eqb b 123) (omega arith) tt)
  inside_within (Opened o) b p h k =
      either MoveWithin (eqb b 34) k
      (either MoveWithin (eqb b 123) k (either MoveWithin (eqb b 78) k (either MoveWithin (is_hex b) k k)))
  inside_within (Shut o) b p h k = either MoveWithin (eqb b 125) tt k
  inside_within (Ell o) b p h k = either MoveWithin (eqb b 76) k k
  inside_within (Pair o) b p h k = either MoveWithin (eqb b 125) tt (either MoveWithin (is_hex b) k k)
  inside_within (Low o) b p h k = either MoveWithin (is_hex b) k k

  moved_within : (m : Move) (k : Inside → Skip) (z : Skip) → MoveWithin m → ((s : Inside) → OpenWithin s → SkipWithin (k s))
      → SkipWithin z → SkipWithin (moved m k z)
  moved_within (Go s) k z h on over = on s h
  moved_within Closed k z h on over = over
  moved_within (Wrong o) k z h on over = h

  pub string_within : (s : Inside) (t : Text) → OpenWithin s → Within e t → SkipWithin (string_of s t)
  unfolding string_of
  string_within s (stop p) o h = tt
  string_within s (sign p b t) o h =
      moved_within (inside_of s b p) (λ s. string_of s t) (Past (p + 1)) (inside_within s b p h.0 o)
      (λ s o. string_within s t o h.1) (omega arith)

  abbrev ModeWithin : Mode → Type 0
  ModeWithin between = Unit
  ModeWithin (within_string s) = OpenWithin s

  levels_within : (base l : ℕ) (m : Mode) (t : Text) → ModeWithin m → Within e t → SkipWithin (levels_of base l m t)
  unfolding levels_of
  levels_within base l m (stop p) o h = tt
  levels_within base l between (sign p b t) o h =
      either SkipWithin (eqb b 62) (either SkipWithin (eqb l base) (omega arith) (levels_within base (l - 1) between t tt h.1))
      (either SkipWithin (eqb b 34) (levels_within base l (within_string Plain) t tt h.1)
      (either SkipWithin (eqb b 60) (either SkipWithin (ltb l 32) (levels_within base (l + 1) between t tt h.1) (omega arith))
      (levels_within base l between t tt h.1)))
  levels_within base l (within_string s) (sign p b t) o h =
      moved_within (inside_of s b p) (λ s. levels_of base l (within_string s) t) (levels_of base l between t)
      (inside_within s b p h.0 o) (λ s o. levels_within base l (within_string s) t o h.1) (levels_within base l between t tt h.1)

  pub comment_within : (l : ℕ) (t : Text) → Within e t → SkipWithin (comment_of l t)
  unfolding comment_of
  comment_within l t h = levels_within l l between t tt h

pub word_at_lem : (d : List ℕ) (n : ℕ) (w : List ℕ) → n ≤ length d → WordWithin (length d) (word_at d n w)
unfolding word_at
word_at_lem d n w h = word_within (length d) n (text d n) w h (text_within d n h)
