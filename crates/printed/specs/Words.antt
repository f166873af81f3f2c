-- PRINTED WORDS: a word, a space and a word, a statement's word, END and a word are derived where their bytes are left.
use Rattle.std.specs.Prelude.{◌≡◌, Bool, true, false, cond, List, [], ◌∷◌, ◌++◌, ℕ, ◌+◌, eqb}
use Rattle.std.proofs.Math.Path.{refl}
use Rattle.std.proofs.Common.{sym, ◌∙◌}
use Rattle.std.proofs.lemmas.Bool.{eqb-false}
use Rattle.scan.specs.rule.Text.{Text, sign}
use Rattle.scan.specs.Word.{Either, Written, capital, small}
use Rattle.scan.specs.Word as word
use Rattle.token_laws.specs.Gaps.{token, space}
use Rattle.token_laws.specs.Gaps as gaps
use Rattle.statements.specs.rule.Words.{END}
use Rattle.grammar.specs.Token.{Gap, Here, NoWord, Keyword, keyword, Notes, Statement, End}
use Rattle.grammar.specs.Token as grammar
use Rattle.printed.specs.Left.{no, Left, Step, step_of, step_left, Ends, ends, after}

-- a byte that a gap ends before: no space and no angle
unfoldable pub solid : ℕ → Bool
solid b = cond (eqb b 32) false (cond (eqb b 60) false true)

pub solid_is : (b : ℕ) → solid b ≡ true → (b ≡ 32 → ⊥) × (b ≡ 60 → ⊥)
unfolding solid
solid_is b = by (eqb b 32) (eqb b 60) refl refl where
  by : (x y : Bool) → eqb b 32 ≡ x → eqb b 60 ≡ y → cond x false (cond y false true) ≡ true → (b ≡ 32 → ⊥) × (b ≡ 60 → ⊥)
  by true y e f h = no h
  by false true e f h = no h
  by false false e f h = (eqb-false b 32 e, eqb-false b 60 f)

-- the letter x, in either case, is not b
unfoldable pub unlike : ℕ → ℕ → Bool
unlike x b = cond (eqb b x) false (cond (eqb b (x + 32)) false true)

unlike_is : (x b : ℕ) → unlike x b ≡ true → (b ≡ x → ⊥) × (b ≡ x + 32 → ⊥)
unfolding unlike
unlike_is x b = by (eqb b x) (eqb b (x + 32)) refl refl where
  by : (y z : Bool) → eqb b x ≡ y → eqb b (x + 32) ≡ z → cond y false (cond z false true) ≡ true → (b ≡ x → ⊥) × (b ≡ x + 32 → ⊥)
  by true z e f h = no h
  by false true e f h = no h
  by false false e f h = (eqb-false b x e, eqb-false b (x + 32) f)

letter_of : {x b : ℕ} → Either x b → {c : ℕ} → b ≡ c → unlike x c ≡ true → ⊥
letter_of {x} capital {c} e h = (unlike_is x c h).0 (sym e)
letter_of {x} small {c} e h = (unlike_is x c h).1 (sym e)

first_of_lem : {x b n m q : ℕ} {w : List ℕ} {t u : Text} → Written (x ∷ w) n t m → t ≡ sign q b u → unlike x b ≡ true → ⊥
first_of_lem {b = b} (word.one {b = c} a r) e h = let f : c ≡ b = cc in letter_of a f h

module _ (p : List ℕ) where
  -- ---- gaps: none, or one space
  gap_from : {n k b : ℕ} {u : List ℕ} → gaps.Gap p n k → solid b ≡ true → Step p k b u → Ends p (Gap p n) (b ∷ u)
  gap_from {b = b} g h s = let c = solid_is b h in ends (token g (s.same ∙ s.there) c.0 c.1) (step_left p s)

  pub gap_none : {n b : ℕ} {u : List ℕ} → solid b ≡ true → Left p n (b ∷ u) → Ends p (Gap p n) (b ∷ u)
  gap_none h l = gap_from gaps.none h (step_of p l)

  pub gap_space : {n b : ℕ} {u : List ℕ} → solid b ≡ true → Left p n (32 ∷ b ∷ u) → Ends p (Gap p n) (b ∷ u)
  gap_space h l = let s = step_of p l in gap_from (space (s.same ∙ s.there) gaps.none) h (step_of p s.left)

  -- ---- words
  pub word_there : (w u : List ℕ) {n : ℕ} → Left p n (w ++ u) → Ends p (Here p w n) u
  word_there [] u l = ends word.none l
  word_there (b ∷ w) u {n} l = let s = step_of p l in by s (word_there w u s.left) where
    by : (s : Step p n b (w ++ u)) → Ends p (Here p w (s.place + 1)) u → Ends p (Here p (b ∷ w) n) u
    by s (ends {m = m} h l) = let e = s.same ∙ s.there in ends {m = m} (rw e (word.one capital h)) l

  -- behind a space
  pub keyword_there : {b : ℕ} {w u : List ℕ} {n : ℕ} → solid b ≡ true → Left p n (32 ∷ (b ∷ w) ++ u) → Ends p (Keyword p (b ∷ w) n) u
  keyword_there {b} {w} {u} h l =
      after p (gap_space h l) λ k g l.
      after p (word_there (b ∷ w) u l) λ m x l.
      ends (keyword g x) l

  -- at the start of a line
  pub statement_there : {b : ℕ} {w u : List ℕ} {n : ℕ} → solid b ≡ true → Left p n ((b ∷ w) ++ u) → Ends p (Statement p (b ∷ w) n) u
  statement_there {b} {w} {u} h l =
      after p (gap_none h l) λ k g l.
      after p (word_there (b ∷ w) u l) λ m x l.
      ends (grammar.statement (grammar.Notes.no_more g) x) l

  pub end_there : {b : ℕ} {w u : List ℕ} {n : ℕ} → solid b ≡ true → Left p n (END ++ (32 ∷ (b ∷ w) ++ u)) → Ends p (End p (b ∷ w) n) u
  unfolding solid
  end_there h l =
      after p (statement_there refl l) λ k s l.
      after p (keyword_there h l) λ m x l.
      ends (grammar.end s x) l

  -- ---- a word that may stand: its first letter, in either case, is not the byte that is left
  pub no_word_there : {x b n : ℕ} {w u : List ℕ} → unlike x b ≡ true → Left p n (b ∷ u) → NoWord p (x ∷ w) n
  no_word_there {x} {b} {n} h l m r = let s = step_of p l in first_of_lem r (s.same ∙ s.there) h
