-- THE SAME SURVEY, NO FAULT: charges test what numbers say, never a place; and where OF is stated in p alone, a width that divides the
-- position exactly is not 0.
use Rattle.std.specs.Prelude.{◌≡◌, Bool, cond, ℕ, ◌+◌, ◌*◌, ◌/◌, ◌%◌, ◌≤◌, eqb}
use Rattle.std.proofs.Math.Path.{refl, ap}
use Rattle.std.proofs.Common.{sym, ◌∙◌, div-le_self, mul-zero, arith}
use Rattle.std.proofs.Math.Bool.{true, false, not}
use mathlib.Core.List.{List, [], ◌∷◌, ◌++◌}
use Rattle.std.proofs.Math.Option.{Option, some, get_or}
use Rattle.std.proofs.Math.Nat.{div-add-mod}
use borrow.Author.Tests.{eqb-true, ne_eqb, ltb-false}
use Rattle.cells.specs.rule.Cell.{eq_z}
use Rattle.tokens.specs.declared.Fault.{Fault}
use Rattle.tokens.specs.rule.Gap.{fault}
use Rattle.survey.specs.rule.Survey.{Figure, Amount, Range, Line, Block, Spread, Content, Variable, Survey}
use Rattle.survey.specs.rule.Width.{some_of, amounts, scaled, room_in}
use Rattle.survey.specs.rule.Table.{lines_all}
use Rattle.reading.specs.rule.Least.{Charge, ◌when◌, named}
use Rattle.reading.specs.rule.Statement.{position_charges, spread_charges, size_charges}
use Rattle.reading.specs.rule.Values.{form_is, large, unlike_amounts, range_charges, line_charges, with_line, unlisted}
use Rattle.reading.specs.rule.Variable.{ident_charges}
use Rattle.grammar.specs.Faults.{Clean, range_faults, line_faults, block_faults, spread_faults, content_faults, width_faults}
use Rattle.grammar.specs.Faults.{variable_faults}
use Rattle.grammar.specs.Faults.{variables_faults, faults_of}
use Rattle.grammar_laws.specs.Views.{clean_both, clean_left, clean_right}
use Rattle.printed.specs.Lines.{All}
use Rattle.printed.specs.Lines as printed
use Rattle.printed.specs.Runs.{bare_amount}
use Rattle.clean_laws.specs.Said.{Short}
use Rattle.clean_laws.specs.Same.{Alike, nil, more, Both, neither, either, SameFigure, SameAmount, SameLine, SameRange, SameBlock}
use Rattle.clean_laws.specs.Same.{SameSpread, SameContent, SameVariable, SameSurvey}
use Rattle.clean_laws.specs.Same as same
use Rattle.clean_laws.specs.Again.{room_again}
use Rattle.clean_laws.specs.Columns.{some_bare, told, scaled_same, amounts_same, length_same, holds_same}
use Rattle.clean_laws.specs.Tables.{lines_all_same}

-- ---- the tests of charges, their faults forgotten: they alone tell whether a fault is named
unfoldable pub tests_of : List Charge → List Bool
tests_of [] = []
tests_of (f when q ∷ l) = q ∷ tests_of l

pub tests_tell : (l k : List Charge) → tests_of k ≡ tests_of l → Clean l → Clean k
unfolding tests_of named
tests_tell [] [] e c = refl
tests_tell [] (g when r ∷ k) e c = let z : ◌≡◌ {A = ℕ} 0 1 = cc in absurd (omega arith)
tests_tell (f when q ∷ l) [] e c = let z : ◌≡◌ {A = ℕ} 0 1 = cc in absurd (omega arith)
tests_tell (f when q ∷ l) (g when r ∷ k) e c =
    let i : r ≡ q = cc in
    let j : tests_of k ≡ tests_of l = cc in
    rw i (by q (tests_tell l k j) c) where
      by : (q : Bool) → (named l ≡ [] → named k ≡ []) → cond q (f ∷ named l) (named l) ≡ [] → cond q (g ∷ named k) (named k) ≡ []
      by true h c = let z : ◌≡◌ {A = ℕ} 0 1 = cc in absurd (omega arith)
      by false h c = h c

-- what a clean list of two, or of one and more, tells
first_false : (f : Fault) (q : Bool) (l : List Charge) → Clean (f when q ∷ l) → (q ≡ false) × Clean l
unfolding named
first_false f true l c = let z : ◌≡◌ {A = ℕ} 0 1 = cc in absurd (omega arith)
first_false f false l c = (refl, c)

not_false : (q : Bool) → not q ≡ false → q ≡ true
not_false true e = refl
not_false false e = sym e

-- a position without fault: its finish is not below its start, and not above 16,384
module _ (v : Variable) (c : Clean (position_charges v.start (get_or v.finish v.start))) where
  finish_some : v.start.value ≤ (get_or v.finish v.start).value
  unfolding position_charges
  finish_some = ltb-false _ _ (first_false _ _ _ (first_false _ _ _ c).1).0

  finish_few : (get_or v.finish v.start).value ≤ 16384
  unfolding position_charges
  finish_few = ltb-false _ _ (first_false _ _ _ (first_false _ _ _ (first_false _ _ _ (first_false _ _ _ c).1).1).1).0

  room_some : 1 ≤ room_in v
  room_some = let h = finish_some in omega arith

  room_few : room_in v ≤ 16385
  room_few = let h = finish_few in omega arith

module _ (d p : List ℕ) where
  -- ---- values: their charges are those of bare amounts
  range_tests : {a a' b b' : Amount} (q : Bool) → SameAmount d p a a' → SameAmount d p b b'
      → tests_of (range_charges q a' b') ≡ tests_of (range_charges q a b)
  unfolding tests_of range_charges form_is large bare_amount
  range_tests {a} {b' = b'} q s r =
      ap (λ (x : Amount). tests_of (range_charges q x (bare_amount b'))) s.says
      ∙ ap (λ (x : Amount). tests_of (range_charges q (bare_amount a) x)) r.says

  -- ---- a line behind those of its block
  form_same : {a a' : Amount} (q : Bool) → SameAmount d p a a' → (form_is q a' ≡ form_is q a) × (large q a' ≡ large q a)
  unfolding form_is large bare_amount
  form_same q s = (ap (λ (x : Amount). form_is q x) s.says, ap (λ (x : Amount). large q x) s.says)

  unlike_some : {a a' : Amount} {b b' : Block} → SameAmount d p a a' → SameBlock d p b b'
      → some_of (unlike_amounts a') (amounts b') ≡ some_of (unlike_amounts a) (amounts b)
  unfolding bare_amount
  unlike_some {a} {a'} {b} {b'} s r =
      ap (λ (x : Amount). some_of (unlike_amounts x) (amounts b')) s.says
      ∙ told (some_of (unlike_amounts a)) (some_bare (unlike_amounts a) (λ x. refl)) (amounts b) (amounts b') (amounts_same d p r)

  repeats_some : {l l' : List Line} {a a' : Amount} → SameAmount d p a a' → Alike (SameLine d p) l l'
      → some_of (λ x. eq_z (scaled x.value) (scaled a')) l' ≡ some_of (λ x. eq_z (scaled x.value) (scaled a)) l
  unfolding some_of
  repeats_some s nil = refl
  repeats_some s (more t r) = rw (repeats_some s r, scaled_same d p t.value, scaled_same d p s)

  line_tests : {a a' : Amount} {b b' : Block} (q : Bool) (before : ℕ) → SameAmount d p a a' → SameBlock d p b b'
      → tests_of (line_charges q before b' a') ≡ tests_of (line_charges q before b a)
  unfolding tests_of line_charges
  line_tests q before s r =
      rw ((form_same q s).0, (form_same q s).1, unlike_some s r, repeats_some s r.lines, length_same d p r.lines)

  one_more : {A : Type 0} {R : A → A → Type 0} {l l' : List A} {a a' : A} → Alike R l l' → R a a' → Alike R (l ++ a ∷ []) (l' ++ a' ∷ [])
  one_more nil r = more r nil
  one_more (more t s) r = more t (one_more s r)

  with_same : {b b' : Block} {l l' : Line} → SameBlock d p b b' → SameLine d p l l' → SameBlock d p (with_line b l) (with_line b' l')
  with_same r s = record { range = r.range; lines = one_more r.lines s }

  lines_clean : {b b' : Block} {l l' : List Line} (q : Bool) (before : ℕ) → SameBlock d p b b' → Alike (SameLine d p) l l'
      → Clean (line_faults q before b l) → Clean (line_faults q before b' l')
  unfolding line_faults
  lines_clean q before r nil c = c
  lines_clean {b} {b'} q before r (more {a = a} {b = a'} {l = l} {m = l'} s t) c =
      let x = line_charges q before b a.value in
      let y = line_faults q before (with_line b a) l in
      clean_both (line_charges q before b' a'.value) (line_faults q before (with_line b' a') l')
      (tests_tell x (line_charges q before b' a'.value) (line_tests q before s.value r) (clean_left x y c))
      (lines_clean q before (with_same r s) t (clean_right x y c))

  ranges_clean : {r r' : Option Range} (q : Bool) → Both (SameRange d p) r r' → Clean (range_faults q r) → Clean (range_faults q r')
  ranges_clean q neither c = c
  ranges_clean q (either {a = r} {b = r'} s) c =
      tests_tell (range_charges q r.from r.to) (range_charges q r'.from r'.to) (range_tests q s.from s.to) c

  block_clean : {b b' : Block} (q : Bool) (before : ℕ) → SameBlock d p b b' → Clean (block_faults q before b)
      → Clean (block_faults q before b')
  block_clean {b} {b'} q before s c =
      let x = range_faults q b.range in
      let y = line_faults q before (unlisted b.range) b.lines in
      let r : SameBlock d p (unlisted b.range) (unlisted b'.range) = record { range = s.range; lines = nil } in
      clean_both (range_faults q b'.range) (line_faults q before (unlisted b'.range) b'.lines)
      (ranges_clean q s.range (clean_left x y c)) (lines_clean q before r s.lines (clean_right x y c))

  -- ---- SPREAD: a width that divides the room exactly is not 0
  exact_some : (room n : ℕ) → 1 ≤ room → room % n ≡ 0 → room / n ≡ 0 → ⊥
  exact_some room n h e f = let g = div-add-mod room n in let k : n * 0 + 0 ≡ room = rw (e, f) at g in omega (arith, mul-zero n)

  spread_clean : {room : ℕ} {s s' : Option Spread} → 1 ≤ room → SameSpread d p room s s' → Clean (spread_faults room s)
      → Clean (spread_faults room s')
  unfolding spread_charges tests_of named
  spread_clean h same.undivided c = c
  spread_clean {room} h (same.stated {x = x} {w = w} {x' = x'} {w' = w'} r q) c =
      tests_tell (spread_charges room x (some w)) (spread_charges room x' (some w')) (rw (r.value, q.value)) c
  spread_clean {room} h (same.even {x = x} {x' = x'} {w' = w'} r e f) c =
      let a = first_false (fault 7 x.place) (eqb x.value 0) (fault 7 x.place when not (eqb (room % x.value) 0) ∷ []) c in
      let b = first_false (fault 7 x.place) (not (eqb (room % x.value) 0)) [] a.1 in
      let g = eqb-true (room % x.value) 0 (not_false (eqb (room % x.value) 0) b.0) in
      rw (r.value, a.0, f, ne_eqb (room / x.value) 0 (exact_some room x.value h g))

  -- ---- by type
  content_clean : {room : ℕ} {c c' : Content} (before : ℕ) → 1 ≤ room → SameContent d p room c c' → Clean (content_faults room before c)
      → Clean (content_faults room before c')
  unfolding size_charges tests_of
  content_clean before h (same.of_single s) c = block_clean false before s c
  content_clean {room} before h (same.of_multiple {s = o} {s' = o'} {b = b} {b' = b'} r s) c =
      let x = spread_faults room o in
      let y = block_faults false before b in
      clean_both (spread_faults room o') (block_faults false before b') (spread_clean h r (clean_left x y c))
      (block_clean false before s (clean_right x y c))
  content_clean before h (same.of_quantity s) c = block_clean true before s c
  content_clean before h (same.of_character {x = x} {x' = x'} s) c = tests_tell (size_charges x) (size_charges x') (rw s.value) c
  content_clean before h same.of_logical c = c

  -- ---- a variable behind earlier ones
  idents_some : {l l' : List Variable} {x x' : Figure} → Alike (SameVariable d p) l l' → SameFigure d p x x'
      → some_of (λ v. eqb v.ident.value x'.value) l' ≡ some_of (λ v. eqb v.ident.value x.value) l
  unfolding some_of
  idents_some nil s = refl
  idents_some (more t r) s = rw (idents_some r s, t.ident.value, s.value)

  ident_tests : {l l' : List Variable} {x x' : Figure} → Alike (SameVariable d p) l l' → SameFigure d p x x'
      → tests_of (ident_charges l' x') ≡ tests_of (ident_charges l x)
  unfolding tests_of ident_charges
  ident_tests r s = rw (idents_some r s, s.value, s.digits, length_same d p r)

  position_tests : {a a' b b' : Figure} → SameFigure d p a a' → SameFigure d p b b'
      → tests_of (position_charges a' b') ≡ tests_of (position_charges a b)
  unfolding tests_of position_charges
  position_tests s r = rw (s.value, r.value)

  variable_clean : {l l' : List Variable} {v v' : Variable} → Alike (SameVariable d p) l l' → SameVariable d p v v'
      → Clean (variable_faults l v) → Clean (variable_faults l' v')
  unfolding tests_of
  variable_clean {l} {l'} {v} {v'} r s c =
      let finish = get_or v.finish v.start in
      let finish' = get_or v'.finish v'.start in
      let x₁ = ident_charges l v.ident in
      let x₂ = position_charges v.start finish in
      let x₃ = content_faults (room_in v) (lines_all l) v.content in
      let x₄ = width_faults v in
      let c₂ = clean_right x₁ (x₂ ++ (x₃ ++ x₄)) c in
      let c₃ = clean_right x₂ (x₃ ++ x₄) c₂ in
      let e : content_faults (room_in v') (lines_all l') v'.content ≡ content_faults (room_in v) (lines_all l) v'.content =
      rw (room_again d p s, lines_all_same d p r) in
      clean_both (ident_charges l' v'.ident)
      (position_charges v'.start finish' ++ (content_faults (room_in v') (lines_all l') v'.content ++ width_faults v'))
      (tests_tell x₁ (ident_charges l' v'.ident) (ident_tests r s.ident) (clean_left x₁ (x₂ ++ (x₃ ++ x₄)) c))
      (clean_both (position_charges v'.start finish') (content_faults (room_in v') (lines_all l') v'.content ++ width_faults v')
      (tests_tell x₂ (position_charges v'.start finish') (position_tests s.start s.finish) (clean_left x₂ (x₃ ++ x₄) c₂))
      (clean_both (content_faults (room_in v') (lines_all l') v'.content) (width_faults v')
      (rw e (content_clean (lines_all l) (room_some v (clean_left x₂ (x₃ ++ x₄) c₂)) s.content (clean_left x₃ x₄ c₃)))
      (tests_tell x₄ (width_faults v') (rw (holds_same d p s)) (clean_right x₃ x₄ c₃))))

  variables_clean : {l l' e e' : List Variable} → Alike (SameVariable d p) e e' → Alike (SameVariable d p) l l'
      → Clean (variables_faults e l) → Clean (variables_faults e' l')
  unfolding variables_faults
  variables_clean r nil c = c
  variables_clean {e = e} {e' = e'} r (more {a = v} {b = v'} {l = l} {m = l'} s t) c =
      let x = variable_faults e v in
      let y = variables_faults (e ++ v ∷ []) l in
      clean_both (variable_faults e' v') (variables_faults (e' ++ v' ∷ []) l') (variable_clean r s (clean_left x y c))
      (variables_clean (one_more r s) t (clean_right x y c))

  pub survey_clean : {s s' : Survey} → SameSurvey d p s s' → Clean (faults_of s) → Clean (faults_of s')
  survey_clean s c = variables_clean nil s.variables c

-- ---- a position without fault has few bytes, so that no width of a spread is long
variables_short : (e l : List Variable) → Clean (variables_faults e l) → All (λ (v : Variable). Short (room_in v)) l
unfolding variables_faults
variables_short e [] c = printed.nil
variables_short e (v ∷ l) c =
    let x = variable_faults e v in
    let y = variables_faults (e ++ v ∷ []) l in
    let x₁ = ident_charges e v.ident in
    let x₂ = position_charges v.start (get_or v.finish v.start) in
    let z = content_faults (room_in v) (lines_all e) v.content ++ width_faults v in
    let k = room_few v (clean_left x₂ z (clean_right x₁ (x₂ ++ z) (clean_left x y c))) in
    printed.more {a = v} (record { short = λ n. omega (arith, div-le_self (room_in v) n) })
    (variables_short (e ++ v ∷ []) l (clean_right x y c))

pub survey_short : (s : Survey) → Clean (faults_of s) → All (λ (v : Variable). Short (room_in v)) s.variables
survey_short s c = variables_short [] s.variables c
