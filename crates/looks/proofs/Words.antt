-- Words of letters that begin no note: where one stands just so it is found there, alone, first of two, and with a number or a string
-- on its line.
use Rattle.std.specs.Prelude.{◌≡◌, refl, Bool, true, false, not, ◌&&◌, ◌||◌, List, [], ◌∷◌, ◌++◌, ℕ, suc, ◌+◌, ◌-◌, ◌≤◌, ◌<◌}
use Rattle.std.specs.Prelude.{eqb, leb, ltb}
use Rattle.std.proofs.Common.{sym, ◌∙◌, leb-true, ltb-true, eqb-true, eq-eqb}
use Rattle.std.proofs.Math.Path.{ap}
use native.Mathlib.Omega.{arith}
use Rattle.std.proofs.Math.ListN.{length, get_or}
use Rattle.std.proofs.lemmas.Bool.{eqb-false}
use Rattle.below.specs.Below.{holds_not, and_left, and_right}
use Rattle.ascii.specs.rule.Class.{upper_of}
use Rattle.scan.specs.rule.Text.{text}
use Rattle.scan.specs.rule.Word.{word_of, word_at}
use Rattle.scan.specs.declared.Word.TheVariants.{Matched}
use Rattle.scan.proofs.Texts.{text_kept, kept_byte}
use Rattle.tokens.specs.rule.Gap.{gap_at}
use Rattle.steps.specs.Step.{span, found_in, word_past, word_found, notes_past, statement_past, statement_found}
use Rattle.steps.specs.Step.{keyword_past}
use Rattle.steps.specs.Law.{found}
use Rattle.steps.specs.Quiet.{Quiet, quiet_byte, quiet_name, notes_to, gap_to}
use Rattle.looks.specs.Stand.{Stands, stands_end, stands_at, stands_first, stands_then, stands_front, stands_rest}
use Rattle.looks.specs.Figures.{Led, LineOver, figure}
use Rattle.looks.specs.Look.{Quoted, letters, opens, found_not, blank_stands, NumberLine, PhraseLine}

opens_letters : (w : List ℕ) → opens w ≡ true → letters w ≡ true
unfolding opens
opens_letters [] o = holds_not o refl
opens_letters (x ∷ w) o = and_left (letters (x ∷ w)) _ o

word_from : (d : List ℕ) (w : List ℕ) (a : ℕ) → letters w ≡ true → a + length w ≤ length d
    → ((j : ℕ) → j < length w → get_or d (a + j) 0 ≡ get_or w j 0) → word_of a (text d a) w ≡ Matched (a + length w)
unfolding word_of upper_of letters
word_from d [] a k h f = ap Matched (omega arith)
word_from d (x ∷ w) a k h f =
    let l = and_left (leb 65 x && ltb x 97) (letters w) k in
    let low : 65 ≤ x = leb-true 65 x (and_left (leb 65 x) (ltb x 97) l) in
    let z : a + 0 ≡ a = omega arith in
    let b : get_or d a 0 ≡ x = rw z at (f 0 (omega arith)) in
    let n : a + 1 + length w ≡ a + suc (length w) = omega arith in
    rw (text_kept d a (omega arith) (kept_byte (get_or d a 0) (omega arith)), b, and_right (leb 65 x) (ltb x 97) l, eq-eqb x x refl, ← n)
    (word_from d w (a + 1) (and_right (leb 65 x && ltb x 97) (letters w) k) (omega arith)
    (λ j g. let m : a + 1 + j ≡ a + suc j = omega arith in rw m (f (suc j) (omega arith))))

some : (w : List ℕ) → get_or w 0 0 ≡ 65 → 0 < length w
some [] e = absurd (omega arith)
some (y ∷ w) e = omega arith

-- no note begins there
pub opens_quiet : (d : List ℕ) (g : ℕ) (w : List ℕ) (a : ℕ) → Stands d g w a → opens w ≡ true → Quiet d g
unfolding opens letters
opens_quiet d g [] a s o = holds_not o refl
opens_quiet d g (x ∷ w) a s o = by (eqb x 78) refl (and_right (letters (x ∷ w)) _ o) where
  first : get_or d g 0 ≡ x
  first = stands_first s (omega arith)

  letter : (65 ≤ x) × (x < 97)
  letter =
      let l = and_left (leb 65 x && ltb x 97) (letters w) (and_left (letters (x ∷ w)) _ o) in
      (leb-true 65 x (and_left (leb 65 x) (ltb x 97) l), ltb-true x 97 (and_right (leb 65 x) (ltb x 97) l))

  by : (q : Bool) → eqb x 78 ≡ q → (not q || eqb (get_or w 0 0) 65) ≡ true → Quiet d g
  by false f o =
      let n = eqb-false x 78 f in
      quiet_byte d g (omega (arith, stands_end s, s.within)) (omega (arith, first, letter.0)) (λ z. omega (arith, first, letter.0))
      (λ z. n (sym first ∙ z)) (λ z. omega (arith, first, letter.1))
  by true f o =
      let y : get_or w 0 0 ≡ 65 = eqb-true (get_or w 0 0) 65 o in
      let l = some w y in
      quiet_name d g (omega (arith, stands_end s, s.within)) (first ∙ eqb-true x 78 f) (stands_at s 1 (omega arith) ∙ y)

module _ {d : List ℕ} {g : ℕ} {w : List ℕ} {a : ℕ} (x : Stands d g w a) (o : opens w ≡ true) where
  pub word_stands : word_at d g w ≡ Matched a
  unfolding word_at
  word_stands =
      word_from d w g (opens_letters w o) (omega (arith, stands_end x, x.within)) (stands_at x) ∙ ap Matched (sym (stands_end x))

  word_place : word_past d g w ≡ a
  unfolding word_past found_in
  word_place = rw (word_past, word_stands)

  -- behind a gap
  module _ (n : ℕ) (e : gap_at d n ≡ gap_at d g) where
    pub notes_stand : notes_past d n ≡ g
    notes_stand = notes_to d n g e (opens_quiet d g w a x o)

    pub statement_stands : statement_past d n w ≡ a
    unfolding statement_past
    statement_stands = rw notes_stand word_place

    pub keyword_stands : keyword_past d n w ≡ a
    unfolding keyword_past
    keyword_stands = rw (gap_to d n g e (opens_quiet d g w a x o).token) word_place

    pub found_stands : word_found d n w ≡ found true a
    unfolding word_found found_in
    found_stands = rw (gap_to d n g e (opens_quiet d g w a x o).token, word_stands)

-- ---- two words, one space and a line's end
module _ {d : List ℕ} {g e : ℕ} (w v : List ℕ) (x : Stands d g (w ++ (32 ∷ v ++ 13 ∷ 10 ∷ [])) e) where
  abbrev end : ℕ
  end = g + length w

  first : Stands d g w end
  first = stands_front w (32 ∷ v ++ 13 ∷ 10 ∷ []) x

  rest : Stands d end (32 ∷ v ++ 13 ∷ 10 ∷ []) e
  rest = stands_rest w (32 ∷ v ++ 13 ∷ 10 ∷ []) x

  both : Stands d (end + 1) (v ++ 13 ∷ 10 ∷ []) e
  both = stands_rest (32 ∷ []) (v ++ 13 ∷ 10 ∷ []) rest

  second : Stands d (end + 1) v (e - 2)
  second =
      let b = stands_rest v (13 ∷ 10 ∷ []) both in
      let k : end + 1 + length v ≡ e - 2 = omega (arith, stands_end b) in
      rw k at (stands_front v (13 ∷ 10 ∷ []) both)

  blank : gap_at d end ≡ gap_at d (end + 1)
  blank = blank_stands (stands_front (32 ∷ []) (v ++ 13 ∷ 10 ∷ []) rest)

  module _ (o : opens w ≡ true) (n : ℕ) (q : gap_at d n ≡ gap_at d g) where
    pub first_past : statement_past d n w ≡ end
    first_past = statement_stands first o n q

    pub first_found : statement_found d n w ≡ found true end
    unfolding statement_found found_in
    first_found = rw (notes_stand first o n q, word_stands first o)

  module _ (i : opens v ≡ true) where
    pub second_past : keyword_past d end v ≡ e - 2
    second_past = keyword_stands second i end blank

    pub second_found : word_found d end v ≡ found true (e - 2)
    second_found = found_stands second i end blank

    -- another word is not the second
    pub second_other : (u : List ℕ) → 0 < length v → 0 < length u → (get_or v 0 0 ≡ get_or u 0 0 → ⊥)
        → (get_or v 0 0 ≡ get_or u 0 0 + 32 → ⊥)
        → word_found d end u ≡ found false (end + 1)
    second_other u k l f h =
        let q = opens_quiet d (end + 1) v (e - 2) second i in
        let s : get_or d (end + 1) 0 ≡ get_or v 0 0 = stands_first second k in
        found_not d end (end + 1) u q blank l (λ z. f (sym s ∙ z)) (λ z. h (sym s ∙ z))

module _ {d : List ℕ} {g : ℕ} {w : List ℕ} {a e : ℕ} (x : Stands d g w a) (o : opens w ≡ true) where
  pub number_lined : {b q v : ℕ} → Stands d a (32 ∷ []) b → Led d b q v → (q ≡ b → ⊥) → LineOver d q e → NumberLine d g w e
  number_lined {b} {q} {v} y l k z =
      let f = figure l k z.over in
      record {
        stretch = span b q q v;
        frame = record { front = stands_then x y; back = z.ends };
        plain = f.plain;
        next = omega (arith, stands_end z.ends);
        is = λ n u. rw (statement_stands x o n u) (f.is a (blank_stands y));
      }

  pub phrase_lined : Quoted d a e → PhraseLine d g w e
  phrase_lined t = record {
    stretch = span (a + 2) t.shut (t.shut + 1) 0;
    frame = record { front = stands_then x t.opened; back = t.closed };
    plain = t.text;
    next = omega (arith, t.ends);
    is = λ n q. rw (statement_stands x o n q) t.is;
  }
