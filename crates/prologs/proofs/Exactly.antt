-- The declaration and the DOCTYPE, in words: what is told of a form at a place, each piece of it, with the place of every refusal.
use mathlib.Core.Path.{◌≡◌, refl, sym, ap, ◌∙◌}
use mathlib.Core.Logic.{⊎_elim, ◌↔◌}
use mathlib.Core.Bool.{Bool, true, false, cond}
use mathlib.Core.List.{List, [], ◌∷◌}
use Prim.Native.Nat.{ℕ, ◌+◌, ◌≤◌, ◌<◌}
use native.Mathlib.Omega.{arith}
use lib.Dec.{leb, eqb}
use lib.ListN.{length, drop, get_or}
use lib.Seq.{drop-cons}
use borrow.Author.Tests.{eq-eqb, ne_eqb, eqb-true, eqb-false, le-leb, lt-leb, leb-true, leb-false}
use Rattle.below.specs.Below.{holds_not, lt_or_le, and_left}
use Rattle.utf.proofs.Strides.{apart}
use Rattle.markup.specs.rule.Bytes.{of_kind, stands, starts_name, end_fault}
use Rattle.markup.specs.declared.Skip.{Skip}
use Rattle.markup.specs.declared.Skip.TheVariants.{Past, Broken}
use Rattle.prologs.specs.rule.Form.{Form, done, white, room, word, value, encoding, literal, root, bracket, perhaps, which}
use Rattle.prologs.specs.rule.Form.{UTF-8, ISO-8859-1, sss, doctype}
use Rattle.prologs.specs.rule.Told.{quoted_string, among_of, alike_of, due_of, miss_of, blanks, on_passed, root_missed, tell_of}
use Rattle.prologs.specs.declared.Prolog.{Prolog}
use Rattle.prologs.specs.declared.Prolog.TheVariants.{Read, Fault}
use Rattle.prologs.proofs.Pieces.{Run, run_is, is_run, run_within, stands_within, Bytes, NoBytes, yes_bytes, bytes_yes, no_bytes}
use Rattle.prologs.proofs.Pieces.{bytes_no}
use Rattle.prologs.proofs.Pieces.{Among, yes_among, among_yes, among_no, Alike, yes_alike, alike_yes, alike_no}
use Rattle.prologs.proofs.Strings.{Quotes, quotes, quoted_is, quotes_past}

-- white space from p to n, and none at n
abbrev pub Blank : List ℕ → ℕ → ℕ → Type 0
Blank d p n = Run (of_kind 0) d p n

pub data Tells (bad : Bool) (d : List ℕ) (o : ℕ) : Form → Bool → ℕ → Prolog → Type 0 where
  over : {l : Bool} {p : ℕ} → Tells bad d o done l p (Read l p)
  -- white space that is due, and that may be
  white_on : {f : Form} {l : Bool} {p n : ℕ} {r : Prolog} → Blank d p n → p < n → Tells bad d o f l n r → Tells bad d o (white f) l p r
  white_off : {f : Form} {l : Bool} {p : ℕ} → Blank d p p → Tells bad d o (white f) l p (Fault 50 (due_of bad d o p))
  room_on : {f : Form} {l : Bool} {p n : ℕ} {r : Prolog} → Blank d p n → Tells bad d o f l n r → Tells bad d o (room f) l p r
  -- a word
  word_on_lem : {w : List ℕ} {f : Form} {l : Bool} {p n : ℕ} {r : Prolog} → Bytes w d p n → Tells bad d o f l n r
      → Tells bad d o (word w f) l p r
  word_off : {w : List ℕ} {f : Form} {l : Bool} {p : ℕ} → NoBytes w d p → Tells bad d o (word w f) l p (Fault 50 (due_of bad d o p))
  -- a value: one of these, another, or none
  value_on_lem : {ws : List (List ℕ)} {f : Form} {l : Bool} {p k : ℕ} {r : Prolog} → Quotes true false bad d o p (Past k)
      → Among d (p + 1) k ws
      → Tells bad d o f l (k + 1) r → Tells bad d o (value ws f) l p r
  value_not : {ws : List (List ℕ)} {f : Form} {l : Bool} {p k : ℕ} → Quotes true false bad d o p (Past k) → (Among d (p + 1) k ws → ⊥)
      → Tells bad d o (value ws f) l p (Fault 50 (p + 1))
  value_off : {ws : List (List ℕ)} {f : Form} {l : Bool} {p q : ℕ} → Quotes true false bad d o p (Broken q)
      → Tells bad d o (value ws f) l p (Fault 50 q)
  -- an encoding
  utf_on : {m : Bool} {f : Form} {l : Bool} {p k : ℕ} {r : Prolog} → Quotes true false bad d o p (Past k) → Alike UTF-8 d (p + 1) k
      → Tells bad d o f false (k + 1) r → Tells bad d o (encoding m f) l p r
  latin_on : {f : Form} {l : Bool} {p k : ℕ} {r : Prolog} → Quotes true false bad d o p (Past k) → Alike ISO-8859-1 d (p + 1) k
      → Tells bad d o f true (k + 1) r → Tells bad d o (encoding false f) l p r
  encoding_not : {m : Bool} {f : Form} {l : Bool} {p k : ℕ} → Quotes true false bad d o p (Past k) → (Alike UTF-8 d (p + 1) k → ⊥)
      → (m ≡ false → Alike ISO-8859-1 d (p + 1) k → ⊥) → Tells bad d o (encoding m f) l p (Fault 50 (p + 1))
  encoding_off : {m : Bool} {f : Form} {l : Bool} {p q : ℕ} → Quotes true false bad d o p (Broken q)
      → Tells bad d o (encoding m f) l p (Fault 50 q)
  -- an identifier
  literal_on : {public : Bool} {f : Form} {l : Bool} {p k : ℕ} {r : Prolog} → Quotes false public bad d o p (Past k)
      → Tells bad d o f l (k + 1) r → Tells bad d o (literal public f) l p r
  literal_off : {public : Bool} {f : Form} {l : Bool} {p q : ℕ} → Quotes false public bad d o p (Broken q)
      → Tells bad d o (literal public f) l p (Fault 50 q)
  -- the root's name, its beginning at the text's end, another name, no name
  root_on : {f : Form} {l : Bool} {p n : ℕ} {r : Prolog} → Bytes sss d p n → Tells bad d o f l n r → Tells bad d o (root f) l p r
  root_cut : {f : Form} {l : Bool} {p n : ℕ} → NoBytes sss d p → p < length d → Bytes (drop p d) sss 0 n
      → Tells bad d o (root f) l p (Fault 50 (end_fault bad (length d) p))
  root_other : {f : Form} {l : Bool} {p : ℕ} → NoBytes sss d p → p < length d → NoBytes (drop p d) sss 0 → starts_name (get_or d p 0) ≡ true
      → Tells bad d o (root f) l p (Fault 2 p)
  root_off : {f : Form} {l : Bool} {p : ℕ} → NoBytes sss d p → (p < length d → starts_name (get_or d p 0) ≡ false)
      → Tells bad d o (root f) l p (Fault 50 (due_of bad d o p))
  -- no internal subset, or one
  bracket_on : {f : Form} {l : Bool} {p : ℕ} {r : Prolog} → NoBytes (91 ∷ []) d p → Tells bad d o f l p r → Tells bad d o (bracket f) l p r
  bracket_off : {f : Form} {l : Bool} {p n : ℕ} → Bytes (91 ∷ []) d p n → Tells bad d o (bracket f) l p (Fault 51 p)
  -- white space and a word, or not both
  perhaps_on : {w : List ℕ} {f g : Form} {l : Bool} {p n m : ℕ} {r : Prolog} → Blank d p n → p < n → Bytes w d n m → Tells bad d o f l m r
      → Tells bad d o (perhaps w f g) l p r
  perhaps_not : {w : List ℕ} {f g : Form} {l : Bool} {p : ℕ} {r : Prolog} → ((n m : ℕ) → Blank d p n → p < n → Bytes w d n m → ⊥)
      → Tells bad d o g l p r → Tells bad d o (perhaps w f g) l p r
  -- a word, or not
  which_on : {w : List ℕ} {f g : Form} {l : Bool} {p n : ℕ} {r : Prolog} → Bytes w d p n → Tells bad d o f l n r
      → Tells bad d o (which w f g) l p r
  which_not : {w : List ℕ} {f g : Form} {l : Bool} {p : ℕ} {r : Prolog} → NoBytes w d p → Tells bad d o g l p r
      → Tells bad d o (which w f g) l p r

module _ (bad : Bool) (d : List ℕ) (o : ℕ) where
  blank : (p n : ℕ) → blanks d p ≡ n → Blank d p n
  blank p n e = run_is (of_kind 0) d p n e

  longer : (p : ℕ) → eqb (blanks d p) p ≡ false → p < blanks d p
  longer p e = apart p (blanks d p) (ahead (blank p (blanks d p) refl)) (eqb-false (blanks d p) p e) where
    ahead : {n : ℕ} → Blank d p n → p ≤ n
    ahead b = let h = b.stretch.place in omega arith

  -- ---- sound: whatever is answered is told
  of_value : (ws : List (List ℕ)) (f : Form) (l : Bool) (p : ℕ) (s : Skip) → Quotes true false bad d o p s
      → ((k : ℕ) → Tells bad d o f l (k + 1) (tell_of bad d o f l (k + 1)))
      → Tells bad d o (value ws f) l p (on_passed s λ k. cond (among_of d (p + 1) k ws) (tell_of bad d o f l (k + 1)) (Fault 50 (p + 1)))
  of_value ws f l p (Broken q) s t = value_off s
  of_value ws f l p (Past k) s t = by (among_of d (p + 1) k ws) refl where
    by : (x : Bool) → among_of d (p + 1) k ws ≡ x → Tells bad d o (value ws f) l p (cond x (tell_of bad d o f l (k + 1)) (Fault 50 (p + 1)))
    by true e = value_on_lem s (yes_among d (quotes_past true false bad d o p s).0 ws e) (t k)
    by false e = value_not s (λ a. holds_not (among_yes d a) e)

  of_encoding : (m : Bool) (f : Form) (l : Bool) (p : ℕ) (s : Skip) → Quotes true false bad d o p s
      → ((b : Bool) (k : ℕ) → Tells bad d o f b (k + 1) (tell_of bad d o f b (k + 1)))
      → Tells bad d o (encoding m f) l p (on_passed s λ k. cond (alike_of d (p + 1) k UTF-8) (tell_of bad d o f false (k + 1))
      (cond m (Fault 50 (p + 1)) (cond (alike_of d (p + 1) k ISO-8859-1) (tell_of bad d o f true (k + 1)) (Fault 50 (p + 1)))))
  of_encoding m f l p (Broken q) s t = encoding_off s
  of_encoding m f l p (Past k) s t = by m (alike_of d (p + 1) k UTF-8) (alike_of d (p + 1) k ISO-8859-1) refl refl where
    h : p + 1 ≤ k
    h = (quotes_past true false bad d o p s).0

    by : (m x y : Bool) → alike_of d (p + 1) k UTF-8 ≡ x → alike_of d (p + 1) k ISO-8859-1 ≡ y
        → Tells bad d o (encoding m f) l p (cond x (tell_of bad d o f false (k + 1))
        (cond m (Fault 50 (p + 1)) (cond y (tell_of bad d o f true (k + 1)) (Fault 50 (p + 1)))))
    by m true y e g = utf_on s (yes_alike UTF-8 d h e) (t false k)
    by true false y e g = encoding_not s (λ a. holds_not (alike_yes UTF-8 d a) e) (λ q a. holds_not (sym q) refl)
    by false false true e g = latin_on s (yes_alike ISO-8859-1 d h g) (t true k)
    by false false false e g = encoding_not s (λ a. holds_not (alike_yes UTF-8 d a) e) (λ q a. holds_not (alike_yes ISO-8859-1 d a) g)

  of_literal : (public : Bool) (f : Form) (l : Bool) (p : ℕ) (s : Skip) → Quotes false public bad d o p s
      → ((k : ℕ) → Tells bad d o f l (k + 1) (tell_of bad d o f l (k + 1)))
      → Tells bad d o (literal public f) l p (on_passed s λ k. tell_of bad d o f l (k + 1))
  of_literal public f l p (Broken q) s t = literal_off s
  of_literal public f l p (Past k) s t = literal_on s (t k)

  of_root : (f : Form) (l : Bool) (p : ℕ) → NoBytes sss d p → Tells bad d o (root f) l p (root_missed bad d o p)
  unfolding due_of root_missed
  of_root f l p n = by (leb (length d) p) (stands (drop p d) sss) (starts_name (get_or d p 0)) refl refl refl where
    off : (q : ℕ) → due_of bad d o p ≡ q → (p < length d → starts_name (get_or d p 0) ≡ false) → Tells bad d o (root f) l p (Fault 50 q)
    off q e h = rw (← e) (root_off n h)

    by : (x z y : Bool) → leb (length d) p ≡ x → stands (drop p d) sss ≡ z → starts_name (get_or d p 0) ≡ y
        → Tells bad d o (root f) l p (cond x (Fault 50 (end_fault bad p o))
        (cond z (Fault 50 (end_fault bad (length d) p)) (cond y (Fault 2 p) (Fault 50 p))))
    by true z y e k g = off (end_fault bad p o) (rw e) (λ h. let k = leb-true (length d) p e in absurd (omega arith))
    by false true y e k g = root_cut n (leb-false (length d) p e) (yes_bytes (drop p d) sss 0 k)
    by false false true e k g = root_other n (leb-false (length d) p e) (no_bytes (drop p d) sss 0 k) g
    by false false false e k g = off p (rw e) (λ h. g)

  pub tells : (f : Form) (l : Bool) (p : ℕ) → Tells bad d o f l p (tell_of bad d o f l p)
  unfolding tell_of miss_of
  tells done l p = over
  tells (white f) l p = by (eqb (blanks d p) p) refl (tells f l (blanks d p)) where
    by : (x : Bool) → eqb (blanks d p) p ≡ x → Tells bad d o f l (blanks d p) (tell_of bad d o f l (blanks d p))
        → Tells bad d o (white f) l p (cond x (Fault 50 (due_of bad d o p)) (tell_of bad d o f l (blanks d p)))
    by true e t = white_off (blank p p (eqb-true (blanks d p) p e))
    by false e t = white_on (blank p (blanks d p) refl) (longer p e) t
  tells (room f) l p = room_on (blank p (blanks d p) refl) (tells f l (blanks d p))
  tells (word w f) l p = by (stands w (drop p d)) refl (tells f l (p + length w)) where
    by : (x : Bool) → stands w (drop p d) ≡ x → Tells bad d o f l (p + length w) (tell_of bad d o f l (p + length w))
        → Tells bad d o (word w f) l p (cond x (tell_of bad d o f l (p + length w)) (Fault 50 (due_of bad d o p)))
    by true e t = word_on_lem (yes_bytes w d p e) t
    by false e t = word_off (no_bytes w d p e)
  tells (value ws f) l p = of_value ws f l p (quoted_string true false bad d o p) (quotes true false bad d o p) (λ k. tells f l (k + 1))
  tells (encoding m f) l p = of_encoding m f l p (quoted_string true false bad d o p) (quotes true false bad d o p)
      (λ b k. tells f b (k + 1))
  tells (literal public f) l p = of_literal public f l p (quoted_string false public bad d o p) (quotes false public bad d o p)
      (λ k. tells f l (k + 1))
  tells (root f) l p = by (stands sss (drop p d)) refl (tells f l (p + 3)) where
    by : (x : Bool) → stands sss (drop p d) ≡ x → Tells bad d o f l (p + 3) (tell_of bad d o f l (p + 3))
        → Tells bad d o (root f) l p (cond x (tell_of bad d o f l (p + 3)) (root_missed bad d o p))
    by true e t = root_on (yes_bytes sss d p e) t
    by false e t = of_root f l p (no_bytes sss d p e)
  tells (bracket f) l p = by (stands (91 ∷ []) (drop p d)) refl (tells f l p) where
    by : (x : Bool) → stands (91 ∷ []) (drop p d) ≡ x → Tells bad d o f l p (tell_of bad d o f l p)
        → Tells bad d o (bracket f) l p (cond x (Fault 51 p) (tell_of bad d o f l p))
    by true e t = bracket_off (yes_bytes (91 ∷ []) d p e)
    by false e t = bracket_on (no_bytes (91 ∷ []) d p e) t
  tells (perhaps w f g) l p = by (eqb (blanks d p) p) (stands w (drop (blanks d p) d)) refl refl (tells f l (blanks d p + length w))
      (tells g l p) where
        same : {n : ℕ} → Blank d p n → n ≡ blanks d p
        same b = sym (is_run (of_kind 0) d b)

        by : (x y : Bool) → eqb (blanks d p) p ≡ x → stands w (drop (blanks d p) d) ≡ y
            → Tells bad d o f l (blanks d p + length w) (tell_of bad d o f l (blanks d p + length w))
            → Tells bad d o g l p (tell_of bad d o g l p)
            → Tells bad d o (perhaps w f g) l p (cond x (tell_of bad d o g l p)
            (cond y (tell_of bad d o f l (blanks d p + length w)) (tell_of bad d o g l p)))
        by true y e h t u = perhaps_not (λ n m b i s. let q = eqb-true (blanks d p) p e in let k = same b in absurd (omega arith)) u
        by false true e h t u = perhaps_on (blank p (blanks d p) refl) (longer p e) (yes_bytes w d (blanks d p) h) t
        by false false e h t u = perhaps_not (λ n m b i s. no_bytes w d (blanks d p) h m (rw (← (same b)) s)) u
  tells (which w f g) l p = by (stands w (drop p d)) refl (tells f l (p + length w)) (tells g l p) where
    by : (x : Bool) → stands w (drop p d) ≡ x → Tells bad d o f l (p + length w) (tell_of bad d o f l (p + length w))
        → Tells bad d o g l p (tell_of bad d o g l p)
        → Tells bad d o (which w f g) l p (cond x (tell_of bad d o f l (p + length w)) (tell_of bad d o g l p))
    by true e t u = which_on (yes_bytes w d p e) t
    by false e t u = which_not (no_bytes w d p e) u

  -- ---- complete: whatever is told is answered
  far : (k v : ℕ) → Alike ISO-8859-1 d v k → Alike UTF-8 d v k → ⊥
  far k v a b = let x = a.place in let y = b.place in omega arith

  perhaps_no : (w : List ℕ) (f g : Form) (l : Bool) (p : ℕ) → ((n m : ℕ) → Blank d p n → p < n → Bytes w d n m → ⊥)
      → cond (eqb (blanks d p) p) (tell_of bad d o g l p)
      (cond (stands w (drop (blanks d p) d)) (tell_of bad d o f l (blanks d p + length w)) (tell_of bad d o g l p)) ≡ tell_of bad d o g l p
  perhaps_no w f g l p h = by (eqb (blanks d p) p) (stands w (drop (blanks d p) d)) refl refl where
    by : (x y : Bool) → eqb (blanks d p) p ≡ x → stands w (drop (blanks d p) d) ≡ y
        → cond x (tell_of bad d o g l p) (cond y (tell_of bad d o f l (blanks d p + length w)) (tell_of bad d o g l p))
        ≡ tell_of bad d o g l p
    by true y e k = refl
    by false false e k = refl
    by false true e k = absurd (h (blanks d p) (blanks d p + length w) (blank p (blanks d p) refl) (longer p e)
        (yes_bytes w d (blanks d p) k))

  -- what begins the root's name begins a name
  cut_starts : (p : ℕ) → p < length d → stands (drop p d) sss ≡ true → starts_name (get_or d p 0) ≡ true
  unfolding stands starts_name
  cut_starts p h = rw (drop-cons d p 0 h) (λ e. rw (← eqb-true 115 (get_or d p 0) (and_left (eqb 115 (get_or d p 0)) _ e)))

  not_cut : (p : ℕ) → p < length d → starts_name (get_or d p 0) ≡ false → stands (drop p d) sss ≡ false
  not_cut p h g = by (stands (drop p d) sss) refl where
    by : (b : Bool) → stands (drop p d) sss ≡ b → b ≡ false
    by true e = absurd (holds_not (cut_starts p h e) g)
    by false e = refl

  root_no : (p : ℕ) → (p < length d → starts_name (get_or d p 0) ≡ false) → root_missed bad d o p ≡ Fault 50 (due_of bad d o p)
  unfolding due_of root_missed
  root_no p h = ⊎_elim (λ k. rw (lt-leb (length d) p k, not_cut p k (h k), h k)) (λ k. rw (le-leb (length d) p k))
      (lt_or_le p (length d))

  pub told : {f : Form} {l : Bool} {p : ℕ} {r : Prolog} → Tells bad d o f l p r → tell_of bad d o f l p ≡ r
  unfolding tell_of miss_of root_missed
  told over = refl
  told (white_on {p = p} {n = n} b h t) = rw (is_run (of_kind 0) d b, ne_eqb n p (λ e. omega arith)) (told t)
  told (white_off {p = p} b) = rw (is_run (of_kind 0) d b, eq-eqb p p refl)
  told (room_on b t) = rw (is_run (of_kind 0) d b) (told t)
  told (word_on_lem {w = w} b t) = rw (bytes_yes w d b, ← b.place) (told t)
  told (word_off {w = w} {p = p} n) = rw (bytes_no w d p n)
  told (value_on_lem {p = p} q a t) = rw (quoted_is true false bad d o p q, among_yes d a) (told t)
  told (value_not {ws = ws} {p = p} q a) = rw (quoted_is true false bad d o p q, among_no d ws (quotes_past true false bad d o p q).0 a)
  told (value_off {p = p} q) = rw (quoted_is true false bad d o p q)
  told (utf_on {p = p} q a t) = rw (quoted_is true false bad d o p q, alike_yes UTF-8 d a) (told t)
  told (latin_on {p = p} {k = k} q a t) =
      rw (
        quoted_is true false bad d o p q,
        alike_no UTF-8 d (quotes_past true false bad d o p q).0 (far k (p + 1) a),
        alike_yes ISO-8859-1 d a,
      ) (told t)
  told (encoding_not {m = true} {p = p} q a b) = rw (
    quoted_is true false bad d o p q,
    alike_no UTF-8 d (quotes_past true false bad d o p q).0 a,
  )
  told (encoding_not {m = false} {p = p} q a b) =
      rw (
        quoted_is true false bad d o p q,
        alike_no UTF-8 d (quotes_past true false bad d o p q).0 a,
        alike_no ISO-8859-1 d (quotes_past true false bad d o p q).0 (b refl),
      )
  told (encoding_off {p = p} q) = rw (quoted_is true false bad d o p q)
  told (literal_on {public = public} {p = p} q t) = rw (quoted_is false public bad d o p q) (told t)
  told (literal_off {public = public} {p = p} q) = rw (quoted_is false public bad d o p q)
  told (root_on {p = p} b t) = rw (bytes_yes sss d b, ← b.place) (told t)
  told (root_cut {p = p} n h b) = rw (bytes_no sss d p n, lt-leb (length d) p h, bytes_yes (drop p d) sss b)
  told (root_other {p = p} n h m s) = rw (bytes_no sss d p n, lt-leb (length d) p h, bytes_no (drop p d) sss 0 m, s)
  told (root_off {p = p} n h) = rw (bytes_no sss d p n) (root_no p h)
  told (bracket_on {p = p} n t) = rw (bytes_no (91 ∷ []) d p n) (told t)
  told (bracket_off {p = p} b) = rw (bytes_yes (91 ∷ []) d b)
  told (perhaps_on {w = w} {p = p} {n = n} b h s t) = rw (
    is_run (of_kind 0) d b,
    ne_eqb n p (λ e. omega arith),
    bytes_yes w d s,
    ← s.place,
  ) (told t)
  told (perhaps_not {w = w} {f = f} {g = g} {l = l} {p = p} h t) = perhaps_no w f g l p h ∙ told t
  told (which_on {w = w} b t) = rw (bytes_yes w d b, ← b.place) (told t)
  told (which_not {w = w} {p = p} n t) = rw (bytes_no w d p n) (told t)

-- how far a form leads: not beyond the end
abbrev pub reach : Prolog → ℕ
reach (Read l n) = n
reach (Fault k q) = 0

module _ (bad : Bool) (d : List ℕ) (o : ℕ) where
  blank_in : {p n : ℕ} → Blank d p n → p ≤ length d → n ≤ length d
  blank_in {p} {n} b h = rw (← (is_run (of_kind 0) d b)) (run_within (of_kind 0) d p h)

  bytes_in : (w : List ℕ) {p n : ℕ} → Bytes w d p n → p ≤ length d → n ≤ length d
  bytes_in w {p} {n} b h = let k = b.place in rw k (stands_within w d p h (bytes_yes w d b))

  pub reaches : {f : Form} {l : Bool} {p : ℕ} {r : Prolog} → Tells bad d o f l p r → p ≤ length d → reach r ≤ length d
  reaches over h = h
  reaches (white_on b i t) h = reaches t (blank_in b h)
  reaches (white_off b) h = omega arith
  reaches (room_on b t) h = reaches t (blank_in b h)
  reaches (word_on_lem {w = w} b t) h = reaches t (bytes_in w b h)
  reaches (word_off n) h = omega arith
  reaches (value_on_lem {p = p} q a t) h = let k = quotes_past true false bad d o p q in reaches t (omega (arith, k.1))
  reaches (value_not q a) h = omega arith
  reaches (value_off q) h = omega arith
  reaches (utf_on {p = p} q a t) h = let k = quotes_past true false bad d o p q in reaches t (omega (arith, k.1))
  reaches (latin_on {p = p} q a t) h = let k = quotes_past true false bad d o p q in reaches t (omega (arith, k.1))
  reaches (encoding_not q a b) h = omega arith
  reaches (encoding_off q) h = omega arith
  reaches (literal_on {public = public} {p = p} q t) h = let k = quotes_past false public bad d o p q in reaches t (omega (arith, k.1))
  reaches (literal_off q) h = omega arith
  reaches (root_on b t) h = reaches t (bytes_in sss b h)
  reaches (root_cut n i b) h = omega arith
  reaches (root_other n i m s) h = omega arith
  reaches (root_off n i) h = omega arith
  reaches (bracket_on n t) h = reaches t h
  reaches (bracket_off b) h = omega arith
  reaches (perhaps_on {w = w} b i s t) h = reaches t (bytes_in w s (blank_in b h))
  reaches (perhaps_not i t) h = reaches t h
  reaches (which_on {w = w} b t) h = reaches t (bytes_in w b h)
  reaches (which_not n t) h = reaches t h

pub doctype_within : (bad : Bool) (d : List ℕ) (o : ℕ) (l : Bool) {m : Bool} {n : ℕ} → o ≤ length d → tell_of bad d o doctype l o ≡ Read m n
    → n ≤ length d
doctype_within bad d o l {m} {n} h e = rw (ap reach e) at (reaches bad d o (tells bad d o doctype l o) h)

-- FORM: an answer is given exactly when the pieces of the form stand, or are at fault, just so
pub form_exactly : (bad : Bool) (d : List ℕ) (o : ℕ) (f : Form) (l : Bool) (p : ℕ) (r : Prolog)
    → (tell_of bad d o f l p ≡ r) ↔ Tells bad d o f l p r
form_exactly bad d o f l p r = (λ e. rw (← e) (tells bad d o f l p), told bad d o)

-- DOCTYPE: whatever is answered of the one that opens at o
pub doctype_exactly : (bad latin : Bool) (d : List ℕ) (o : ℕ) (r : Prolog)
    → (tell_of bad d o doctype latin o ≡ r) ↔ Tells bad d o doctype latin o r
doctype_exactly bad latin d o r = form_exactly bad d o doctype latin o r
