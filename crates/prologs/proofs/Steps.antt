-- The code's steps: a pair read in one is the form's pieces, and where what was read ends.
use mathlib.Core.Path.{◌≡◌, refl, ap, ◌∙◌}
use mathlib.Core.Bool.{Bool, true, false, cond, ◌&&◌}
use mathlib.Core.List.{List, [], ◌∷◌}
use Prim.Native.Nat.{ℕ, ◌+◌, ◌≤◌, ◌<◌}
use native.Mathlib.Omega.{arith}
use lib.Dec.{leb, eqb}
use lib.ListN.{length, drop, get_or, length-append, length-drop, drop_of_length-le}
use borrow.Author.Tests.{eq-eqb, ne_eqb, leb-true, leb-false}
use Rattle.utf.proofs.Strides.{drop_1}
use Rattle.markup.specs.rule.Bytes.{stands}
use Rattle.markup.specs.rule.Gap.{gap_of}
use Rattle.markup.specs.declared.Skip.{Skip}
use Rattle.markup.specs.declared.Skip.TheVariants.{Past, Broken}
use Rattle.markup.proofs.Gaps.{stands_long, gap_exactly}
use Rattle.prologs.specs.rule.Form.{Form, done, white, room, word, literal, root, bracket, perhaps, which, pair, naming_form}
use Rattle.prologs.specs.rule.Form.{standalone}
use Rattle.prologs.specs.rule.Form.{UTF-8, sss}
use Rattle.prologs.specs.rule.Told.{quoted_string, spelt_of, among_of, alike_of, due_of, miss_of, blanks, on_passed, root_missed, tell_of}
use Rattle.prologs.specs.Pair.{on_quoted, pair_of, latin_of}
use Rattle.prologs.specs.declared.Pair.{Pair}
use Rattle.prologs.specs.declared.Pair.TheVariants.{Is, Off}
use Rattle.prologs.specs.declared.Prolog.{Prolog}
use Rattle.prologs.specs.declared.Prolog.TheVariants.{Read, Fault}
use Rattle.prologs.proofs.Strings.{quotes, quotes_past}

-- bytes that stand lie within the file
pub stands_in : (x : ℕ) (w d : List ℕ) (p : ℕ) → stands (x ∷ w) (drop p d) ≡ true → p + length (x ∷ w) ≤ length d
stands_in x w d p e = omega (arith, stands_long (x ∷ w) (drop p d) e, length-drop p d)

pub gap_within : (bad : Bool) (d : List ℕ) (p n : ℕ) → p ≤ length d → gap_of bad d p ≡ Past n → n ≤ length d
gap_within bad d p n h e =
    let g = (gap_exactly bad d p n).0 e in
    let a = ap length g.split in
    let b = length-append g.bytes (drop n d) in
    let k = g.place in
    omega (arith, length-drop p d)

pub quoted_past : (alone public bad : Bool) (d : List ℕ) (o n k : ℕ) → quoted_string alone public bad d o n ≡ Past k → (n + 1 ≤ k)
    × (k < length d)
quoted_past alone public bad d o n k e = quotes_past alone public bad d o n (rw (← e) (quotes alone public bad d o n))

-- ---- = and a value
abbrev pub after_pair : Pair → (ℕ → ℕ → Prolog) → Prolog
after_pair (Is v k) f = f v k
after_pair (Off q) f = Fault 50 q

one_more : (b : ℕ) (d : List ℕ) (n : ℕ) → n < length d → stands (b ∷ []) (drop n d) ≡ eqb (get_or d n 0) b
unfolding stands
one_more b d n h = rw (drop_1 d n h) (by (eqb (get_or d n 0) b)) where
  by : (q : Bool) → (q && true) ≡ q
  by true = refl
  by false = refl

none_more : (b : ℕ) (d : List ℕ) (n : ℕ) → length d ≤ n → stands (b ∷ []) (drop n d) ≡ false
unfolding stands
none_more b d n h = rw (drop_of_length-le d h)

module _ (d : List ℕ) (o p : ℕ) where
  on_quoted_lem : (g : ℕ → ℕ → Prolog) (m : ℕ) (s : Skip) → on_passed s (λ k. g (m + 1) k) ≡ after_pair (on_quoted m s) g
  on_quoted_lem g m (Past k) = refl
  on_quoted_lem g m (Broken q) = refl

  -- whatever is made of the value
  pair_goes : (g : ℕ → ℕ → Prolog)
      → cond (stands (61 ∷ []) (drop (blanks d p) d))
      (on_passed (quoted_string true false false d o (blanks d (blanks d p + 1))) (λ k. g (blanks d (blanks d p + 1) + 1) k))
      (Fault 50 (due_of false d o (blanks d p)))
      ≡ after_pair (pair_of d o p) g
  unfolding due_of pair_of
  pair_goes g = by (leb (length d) (blanks d p)) (eqb (get_or d (blanks d p) 0) 61) refl refl where
    n : ℕ
    n = blanks d p

    by : (x y : Bool) → leb (length d) (blanks d p) ≡ x → eqb (get_or d (blanks d p) 0) 61 ≡ y
        → cond (stands (61 ∷ []) (drop (blanks d p) d))
        (on_passed (quoted_string true false false d o (blanks d (blanks d p + 1))) (λ k. g (blanks d (blanks d p + 1) + 1) k))
        (Fault 50 (cond x o (blanks d p)))
        ≡ after_pair (cond x (Off o) (cond y (on_quoted (blanks d (blanks d p + 1))
        (quoted_string true false false d o (blanks d (blanks d p + 1)))) (Off (blanks d p)))) g
    by true y e f = rw (none_more 61 d (blanks d p) (leb-true (length d) (blanks d p) e))
    by false true e f = rw (one_more 61 d (blanks d p) (leb-false (length d) (blanks d p) e) ∙ f)
        (on_quoted_lem g (blanks d (blanks d p + 1)) (quoted_string true false false d o (blanks d (blanks d p + 1))))
    by false false e f = rw (one_more 61 d (blanks d p) (leb-false (length d) (blanks d p) e) ∙ f)

  pub pair_tell : (ws : List (List ℕ)) (f : Form) (l : Bool)
      → tell_of false d o (pair ws f) l p ≡ after_pair (pair_of d o p)
      (λ v k. cond (among_of d v k ws) (tell_of false d o f l (k + 1)) (Fault 50 v))
  unfolding tell_of miss_of
  pair_tell ws f l = pair_goes (λ v k. cond (among_of d v k ws) (tell_of false d o f l (k + 1)) (Fault 50 v))

  pub naming_tell : (marked l : Bool)
      → tell_of false d o (naming_form marked) l p
      ≡ after_pair (pair_of d o p) (λ v k. cond (alike_of d v k UTF-8) (tell_of false d o standalone false (k + 1))
      (cond marked (Fault 50 v) (latin_of d o v k)))
  unfolding tell_of miss_of latin_of
  naming_tell marked l = pair_goes (λ v k. cond (alike_of d v k UTF-8) (tell_of false d o standalone false (k + 1))
      (cond marked (Fault 50 v) (latin_of d o v k)))

  pub pair_bounds : (v k : ℕ) → pair_of d o p ≡ Is v k → (v ≤ k) × (k < length d)
  unfolding pair_of
  pair_bounds v k e = by (leb (length d) (blanks d p)) (eqb (get_or d (blanks d p) 0) 61) e where
    on : (m : ℕ) (s : Skip) → quoted_string true false false d o m ≡ s → on_quoted m s ≡ Is v k → (v ≤ k) × (k < length d)
    on m (Past j) f e =
        let x : m + 1 ≡ v = cc in
        let y : j ≡ k = cc in
        let q = quoted_past true false false d o m j f in
        (omega (arith, q.0), omega (arith, q.1))
    on m (Broken q) f e = let z : ◌≡◌ {A = ℕ} 0 1 = cc in absurd (omega arith)

    by : (x y : Bool) → cond x (Off o) (cond y (on_quoted (blanks d (blanks d p + 1))
        (quoted_string true false false d o (blanks d (blanks d p + 1)))) (Off (blanks d p))) ≡ Is v k → (v ≤ k) × (k < length d)
    by true y e = let z : ◌≡◌ {A = ℕ} 0 1 = cc in absurd (omega arith)
    by false true e = on (blanks d (blanks d p + 1)) (quoted_string true false false d o (blanks d (blanks d p + 1))) refl e
    by false false e = let z : ◌≡◌ {A = ℕ} 0 1 = cc in absurd (omega arith)

  -- ---- what a pair makes of its value
  module _ (f : Form) (l : Bool) where
    pub pair_first : (w : List ℕ) (ws : List (List ℕ)) {v k : ℕ} → pair_of d o p ≡ Is v k → spelt_of d v k w ≡ true
        → tell_of false d o (pair (w ∷ ws) f) l p ≡ tell_of false d o f l (k + 1)
    unfolding among_of
    pair_first w ws e h = pair_tell (w ∷ ws) f l ∙ rw (e, h)

    pub pair_second : (w x : List ℕ) {v k : ℕ} → pair_of d o p ≡ Is v k → spelt_of d v k w ≡ false → spelt_of d v k x ≡ true
        → tell_of false d o (pair (w ∷ x ∷ []) f) l p ≡ tell_of false d o f l (k + 1)
    unfolding among_of
    pair_second w x e h g = pair_tell (w ∷ x ∷ []) f l ∙ rw (e, h, g)

    pub pair_neither : (w x : List ℕ) {v k : ℕ} → pair_of d o p ≡ Is v k → spelt_of d v k w ≡ false → spelt_of d v k x ≡ false
        → tell_of false d o (pair (w ∷ x ∷ []) f) l p ≡ Fault 50 v
    unfolding among_of
    pair_neither w x e h g = pair_tell (w ∷ x ∷ []) f l ∙ rw (e, h, g)

    pub pair_not : (w : List ℕ) {v k : ℕ} → pair_of d o p ≡ Is v k → spelt_of d v k w ≡ false → tell_of false d o (pair (w ∷ []) f) l p
        ≡ Fault 50 v
    unfolding among_of
    pair_not w e h = pair_tell (w ∷ []) f l ∙ rw (e, h)

    pub pair_off : (ws : List (List ℕ)) {q : ℕ} → pair_of d o p ≡ Off q → tell_of false d o (pair ws f) l p ≡ Fault 50 q
    pair_off ws e = pair_tell ws f l ∙ rw e

  module _ (marked l : Bool) where
    pub naming_utf : {v k : ℕ} → pair_of d o p ≡ Is v k → alike_of d v k UTF-8 ≡ true → tell_of false d o (naming_form marked) l p
        ≡ tell_of false d o standalone false (k + 1)
    naming_utf e h = naming_tell marked l ∙ rw (e, h)

    pub naming_marked : {v k : ℕ} → pair_of d o p ≡ Is v k → alike_of d v k UTF-8 ≡ false → marked ≡ true
        → tell_of false d o (naming_form marked) l p ≡ Fault 50 v
    naming_marked e h m = naming_tell marked l ∙ rw (e, h, m)

    pub naming_latin : {v k : ℕ} → pair_of d o p ≡ Is v k → alike_of d v k UTF-8 ≡ false → marked ≡ false
        → tell_of false d o (naming_form marked) l p ≡ latin_of d o v k
    naming_latin e h m = naming_tell marked l ∙ rw (e, h, m)

    pub naming_off : {q : ℕ} → pair_of d o p ≡ Off q → tell_of false d o (naming_form marked) l p ≡ Fault 50 q
    naming_off e = naming_tell marked l ∙ rw e

-- ---- a form, one piece on
pub tell_done : (bad : Bool) (d : List ℕ) (o : ℕ) (l : Bool) (p : ℕ) → tell_of bad d o done l p ≡ Read l p
unfolding tell_of
tell_done bad d o l p = refl

module _ (bad : Bool) (d : List ℕ) (o : ℕ) (f : Form) (l : Bool) (p : ℕ) where
  pub tell_white : {n : ℕ} → n ≡ blanks d p → (n ≡ p → ⊥) → tell_of bad d o (white f) l p ≡ tell_of bad d o f l n
  unfolding tell_of
  tell_white {n} e h = rw (← e, ne_eqb n p h)

  pub white_miss : {n : ℕ} → n ≡ blanks d p → n ≡ p → tell_of bad d o (white f) l p ≡ miss_of bad d o p
  unfolding tell_of
  white_miss {n} e h = rw (← e, eq-eqb n p h)

  pub tell_room : {n : ℕ} → n ≡ blanks d p → tell_of bad d o (room f) l p ≡ tell_of bad d o f l n
  unfolding tell_of
  tell_room e = rw (← e)

  pub tell_word : (w : List ℕ) → stands w (drop p d) ≡ true → tell_of bad d o (word w f) l p ≡ tell_of bad d o f l (p + length w)
  unfolding tell_of
  tell_word w e = rw e

  pub word_miss : (w : List ℕ) → stands w (drop p d) ≡ false → tell_of bad d o (word w f) l p ≡ miss_of bad d o p
  unfolding tell_of
  word_miss w e = rw e

  pub tell_literal : (public : Bool) {k : ℕ} → quoted_string false public bad d o p ≡ Past k → tell_of bad d o (literal public f) l p
      ≡ tell_of bad d o f l (k + 1)
  unfolding tell_of
  tell_literal public e = rw e

  pub literal_broken : (public : Bool) {q : ℕ} → quoted_string false public bad d o p ≡ Broken q → tell_of bad d o (literal public f) l p
      ≡ Fault 50 q
  unfolding tell_of
  literal_broken public e = rw e

  pub tell_root : stands sss (drop p d) ≡ true → tell_of bad d o (root f) l p ≡ tell_of bad d o f l (p + 3)
  unfolding tell_of
  tell_root e = rw e

  pub root_away : stands sss (drop p d) ≡ false → tell_of bad d o (root f) l p ≡ root_missed bad d o p
  unfolding tell_of
  root_away e = rw e

  pub tell_bracket : stands (91 ∷ []) (drop p d) ≡ false → tell_of bad d o (bracket f) l p ≡ tell_of bad d o f l p
  unfolding tell_of
  tell_bracket e = rw e

  pub bracket_open : stands (91 ∷ []) (drop p d) ≡ true → tell_of bad d o (bracket f) l p ≡ Fault 51 p
  unfolding tell_of
  bracket_open e = rw e

module _ (bad : Bool) (d : List ℕ) (o : ℕ) (w : List ℕ) (f g : Form) (l : Bool) (p : ℕ) where
  pub perhaps_none : {n : ℕ} → n ≡ blanks d p → n ≡ p → tell_of bad d o (perhaps w f g) l p ≡ tell_of bad d o g l p
  unfolding tell_of
  perhaps_none {n} e h = rw (← e, eq-eqb n p h)

  pub perhaps_not : {n : ℕ} → n ≡ blanks d p → (n ≡ p → ⊥) → stands w (drop n d) ≡ false → tell_of bad d o (perhaps w f g) l p
      ≡ tell_of bad d o g l p
  unfolding tell_of
  perhaps_not {n} e h s = rw (← e, ne_eqb n p h, s)

  pub perhaps_yes : {n : ℕ} → n ≡ blanks d p → (n ≡ p → ⊥) → stands w (drop n d) ≡ true → tell_of bad d o (perhaps w f g) l p
      ≡ tell_of bad d o f l (n + length w)
  unfolding tell_of
  perhaps_yes {n} e h s = rw (← e, ne_eqb n p h, s)

  pub which_yes : stands w (drop p d) ≡ true → tell_of bad d o (which w f g) l p ≡ tell_of bad d o f l (p + length w)
  unfolding tell_of
  which_yes e = rw e

  pub which_no : stands w (drop p d) ≡ false → tell_of bad d o (which w f g) l p ≡ tell_of bad d o g l p
  unfolding tell_of
  which_no e = rw e
