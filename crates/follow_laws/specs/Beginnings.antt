-- TWO FILES THAT ARE THE SAME UP TO A PLACE: every token of the one that ends before it is a token of the other, from the same place to the
-- same place. A gap and a run look one byte ahead, an optional word that does not stand looks as far as it is long: so what is said of each
-- asks how many bytes of the kept text still stand before the place (`Ahead`).
use Rattle.std.specs.Prelude.{◌≡◌, refl, Bool, true, false, List, [], ◌∷◌, ℕ, zero, suc, ◌+◌, ◌-◌, ◌≤◌, ◌<◌, eqb, length, get_or}
use Rattle.std.proofs.Math.Path.{sym}
use Rattle.std.proofs.Common.{◌∙◌, arith, eqb-true}
use Rattle.std.proofs.lemmas.Bool.{eqb-false}
use Rattle.ascii.specs.rule.Class.{class_of}
use Rattle.scan.specs.rule.Text.{Text, stop, sign, text, place_of}
use Rattle.scan.specs.Word.{Written}
use Rattle.scan.specs.Word as word
use Rattle.scan.proofs.Texts.{From, at_stop, at_sign, from_text, text_dropped, text_kept}
use Rattle.signs.specs.declared.Sign.{Sign}
use Rattle.marks.specs.Spelling.{Pairs, Piece, Spelt, Comment}
use Rattle.marks.specs.Spelling as spelling
use Rattle.token_laws.specs.Gaps as gaps
use Rattle.token_laws.specs.Opening.{Spaces}
use Rattle.token_laws.specs.Opening as opening
use Rattle.bridge.specs.Lowest.{never}
use Rattle.grammar.specs.Token.{Gap, Here, NoWord, Run, more, other, end}
use Rattle.grammar_laws.specs.Places.{place_text}

-- what is left behind the first byte that is left
pub rest_of_lem : (d : List ℕ) {k p b : ℕ} {u : Text} → sign p b u ≡ text d k → (u ≡ text d (p + 1)) × (k ≤ p)
rest_of_lem d {k} {p} {b} {u} q = by (from_text d k) (sym q) where
  by : {t : Text} → From d k t → t ≡ sign p b u → (u ≡ text d (p + 1)) × (k ≤ p)
  by at_stop q = never cc
  by (at_sign {p = o} {u = v} h w e r) q =
      let i : o ≡ p = cc in
      let j : v ≡ u = cc in
      (rw (i, j) at e, omega arith)

-- the two files are long enough, and the same before M
pub record Alike (d d' : List ℕ) (M : ℕ) : Type 0 where
  pub within : M ≤ length d
  pub within' : M ≤ length d'
  pub same : (k : ℕ) → k < M → get_or d k 0 ≡ get_or d' k 0

module _ (d : List ℕ) (M : ℕ) where
  -- ---- from n on at least r bytes of the kept text stand before the place
  pub data Ahead : ℕ → ℕ → Type 0 where
    here : {n : ℕ} → n ≤ M → Ahead 0 n
    byte : {n p b r : ℕ} → text d n ≡ sign p b (text d (p + 1)) → Ahead r (p + 1) → Ahead (suc r) n

module _ {d : List ℕ} {M : ℕ} where
  pub inside : {r n : ℕ} → Ahead d M r n → n ≤ M
  inside (here h) = h
  inside (byte e a) = let h = (rest_of_lem d (sym e)).1 in let l = inside a in omega arith

  pub fewer : {k n : ℕ} → Ahead d M k n → (r : ℕ) → r ≤ k → Ahead d M r n
  fewer (here h) zero q = here h
  fewer (here h) (suc r) q = absurd (omega arith)
  fewer {n = n} (byte e a) zero q = let h = (rest_of_lem d (sym e)).1 in let l = inside a in let z : n ≤ M = omega arith in here z
  fewer (byte e a) (suc r) q = byte e (fewer a r (omega arith))

  -- the same text is left at an earlier place
  pub moved : {r k n : ℕ} → text d k ≡ text d n → k ≤ n → Ahead d M r n → Ahead d M r k
  moved {k = k} e h (here l) = let z : k ≤ M = omega arith in here z
  moved e h (byte q a) = byte (e ∙ q) a

  -- where a byte stands ahead the text does not end, nor the place come
  pub before : {r n : ℕ} → 1 ≤ r → Ahead d M r n → n < M
  before l (here h) = absurd (omega arith)
  before l (byte e a) = let h = (rest_of_lem d (sym e)).1 in let i = inside a in omega arith

  pub no_end : {A : Type 0} {r n : ℕ} → 1 ≤ r → Ahead d M r n → text d n ≡ stop n → A
  no_end l (here h) e = absurd (omega arith)
  no_end l (byte q a) e = never cc

module _ {d d' : List ℕ} {M : ℕ} (files : Alike d d' M) where
  -- ---- a byte of the one before the place is a byte of the other
  shared_in : (f k : ℕ) {p b : ℕ} → p - k < f → text d k ≡ sign p b (text d (p + 1)) → p < M → text d' k ≡ sign p b (text d' (p + 1))
  shared_in zero k h e l = absurd (omega arith)
  shared_in (suc f) k {p} {b} h e l = by (eqb (class_of (get_or d k 0)) 0) refl (λ h e. shared_in f (k + 1) h e l) where
    from : k ≤ p
    from = (rest_of_lem d (sym e)).1

    long : M ≤ length d
    long = files.within

    long' : M ≤ length d'
    long' = files.within'

    by : (q : Bool) → eqb (class_of (get_or d k 0)) 0 ≡ q
        → (p - (k + 1) < f → text d (k + 1) ≡ sign p b (text d (p + 1)) → text d' (k + 1) ≡ sign p b (text d' (p + 1)))
        → text d' k ≡ sign p b (text d' (p + 1))
    by true q ih =
        let c = eqb-true _ _ q in
        let z = text_dropped d k (omega (arith, from, long, long')) c in
        let n = (rest_of_lem d {k = k + 1} (sym e ∙ z)).1 in
        let c' : class_of (get_or d' k 0) ≡ 0 = rw (files.same k (omega (arith, from, long, long'))) at c in
        text_dropped d' k (omega (arith, from, long, long')) c' ∙ ih (omega arith) (sym z ∙ e)
    by false q ih =
        let c = eqb-false _ _ q in
        let z = sym (text_kept d k (omega (arith, from, long, long')) c) ∙ e in
        let s = files.same k (omega (arith, from, long, long')) in
        let o : k ≡ p = cc in
        let v : get_or d k 0 ≡ b = cc in
        let c' : class_of (get_or d' k 0) ≡ 0 → ⊥ = rw s at c in
        let y : text d' k ≡ sign k (get_or d' k 0) (text d' (k + 1)) = text_kept d' k (omega (arith, from, long, long')) c' in
        let x : get_or d' k 0 ≡ b = sym s ∙ v in
        y ∙ rw (x, o)

  pub shared : (k : ℕ) {p b : ℕ} → text d k ≡ sign p b (text d (p + 1)) → p < M → text d' k ≡ sign p b (text d' (p + 1))
  shared k {p} e l = shared_in (suc (p - k)) k (omega arith) e l

  -- a byte, and the text behind it: both files have it, and as many bytes stand ahead of it
  pub back : {r k p b : ℕ} {u : Text} → sign p b u ≡ text d k → Ahead d M r (p + 1)
      → (text d' k ≡ sign p b (text d' (p + 1))) × Ahead d M (suc r) k
  back {r} {k} {p} {b} {u} q a =
      let e : text d k ≡ sign p b (text d (p + 1)) = rw (rest_of_lem d q).0 at (sym q) in
      let l = inside a in
      (shared k e (omega arith), byte e a)

  pub back_on : {r k p b : ℕ} {u : Text} → sign p b u ≡ text d k → Ahead d M r (p + 1)
      → (text d' k ≡ sign p b (text d' (p + 1))) × Ahead d M r k
  back_on {r} q a = let x = back q a in (x.0, fewer x.1 r (omega arith))

  -- ---- words
  written_on : {w : List ℕ} {r k m : ℕ} {t : Text} → Written w k t m → t ≡ text d k → Ahead d M r m
      → Written w k (text d' k) m × Ahead d M (length w + r) k
  written_on {r = r} {k = k} word.none q a = (word.none, fewer a (length {A = ℕ} [] + r) (omega arith))
  written_on {r = r} {k = k} (word.one {p = p} {b = b} {x = x} {w = w} e v) q a =
      let y = written_on v (rest_of_lem d q).0 a in
      let z = back q y.1 in
      (rw z.0 (word.one e y.0), fewer z.1 (length (x ∷ w) + r) (omega arith))

  pub here_on : {w : List ℕ} {r n m : ℕ} → Here d w n m → Ahead d M r m → Here d' w n m × Ahead d M (length w + r) n
  here_on h a = written_on h refl a

  written_back : {w : List ℕ} {r k m : ℕ} {t : Text} → Written w k t m → t ≡ text d' k → Ahead d M r k → length w ≤ r
      → Written w k (text d k) m
  written_back word.none q a h = word.none
  written_back (word.one {w = w} e v) q (here l) h = absurd (omega arith)
  written_back {k = k} (word.one {p = p} {b = b} e v) q (byte {p = o} {b = c} {r = j} g a) h =
      let i = inside a in
      let s = shared k g (omega arith) in
      let x : p ≡ o = cc in
      let y : b ≡ c = cc in
      let u = (rest_of_lem d' q).0 in
      let a' : Ahead d M j (p + 1) = rw x a in
      let z = written_back v u a' (omega arith) in
      let g' : text d k ≡ sign p b (text d (p + 1)) = rw (sym x, sym y) at g in
      rw g' (word.one e z)

  -- no word there: as far as it is long
  pub no_word_on : {w : List ℕ} {r n : ℕ} → length w ≤ r → Ahead d M r n → NoWord d w n → NoWord d' w n
  no_word_on l a f m h = f m (written_back h refl a l)

  -- ---- runs look one byte ahead
  run_in : {f : ℕ → Bool} {r k m : ℕ} {t : Text} {s : List ℕ} → Run f k t s m → t ≡ text d k → 1 ≤ r → Ahead d M r m
      → Run f k (text d' k) s m × Ahead d M r k
  run_in (more e x) q l a =
      let y = run_in x (rest_of_lem d q).0 l a in
      let z = back_on q y.1 in
      (rw z.0 (more e y.0), z.1)
  run_in (other e) q l (here h) = absurd (omega arith)
  run_in (other {b = b} e) q l (byte {n = n} {b = c} g a) =
      let y : b ≡ c = cc in
      let i = inside a in
      (rw (shared n g (omega arith)) (other (rw y at e)), byte g a)
  run_in end q l (here h) = absurd (omega arith)
  run_in end q l (byte g a) = never cc

  pub run_on : {f : ℕ → Bool} {r n m : ℕ} {s : List ℕ} → 1 ≤ r → Run f n (text d n) s m → Ahead d M r m
      → Run f n (text d' n) s m × Ahead d M r n
  run_on l x a = run_in x refl l a

  -- ---- strings close with a quote
  pairs_on : {r k : ℕ} {t u : Text} {s : List Sign} → Pairs t s u → t ≡ text d k
      → (o : ℕ) × (u ≡ text d o) × (Ahead d M r o → Pairs (text d' k) s (text d' o) × Ahead d M r k)
  pairs_on {r} {k} (spelling.last {p = p} {q = v} {r = w} x y) q =
      let e = (rest_of_lem d q).0 in
      let f = (rest_of_lem d e).0 in (
        w + 1,
        (rest_of_lem d f).0,
        λ a.
            let h = back_on f a in
            let g = back_on e h.1 in
            let c = back_on q g.1 in
            (rw (c.0, g.0, h.0) (spelling.last x y), c.1),
      )
  pairs_on {r} {k} (spelling.more {q = j} x y z) q =
      let e = (rest_of_lem d q).0 in
      let c = pairs_on {r = r} {k = j + 1} z (rest_of_lem d e).0 in (
        c.0,
        c.1,
        λ a.
            let h = c.2 a in
            let g = back_on e h.1 in
            let b = back_on q g.1 in
            (rw (b.0, g.0) (spelling.more x y h.0), b.1),
      )

  piece_on : {r k : ℕ} {t u : Text} {s : List Sign} → Piece t s u → t ≡ text d k
      → (o : ℕ) × (u ≡ text d o) × (Ahead d M r o → Piece (text d' k) s (text d' o) × Ahead d M r k)
  piece_on {r} {k} (spelling.plain {p = p} x y) q =
      (p + 1, (rest_of_lem d q).0, λ a. let c = back_on q a in (rw c.0 (spelling.plain x y), c.1))
  piece_on {r} {k} (spelling.quote {r = w}) q =
      let e = (rest_of_lem d q).0 in
      let f = (rest_of_lem d e).0 in (
        w + 1,
        (rest_of_lem d f).0,
        λ a.
            let h = back_on f a in
            let g = back_on e h.1 in
            let c = back_on q g.1 in
            (rw (c.0, g.0, h.0) spelling.quote, c.1),
      )
  piece_on {r} {k} (spelling.brace {r = w}) q =
      let e = (rest_of_lem d q).0 in
      let f = (rest_of_lem d e).0 in (
        w + 1,
        (rest_of_lem d f).0,
        λ a.
            let h = back_on f a in
            let g = back_on e h.1 in
            let c = back_on q g.1 in
            (rw (c.0, g.0, h.0) spelling.brace, c.1),
      )
  piece_on {r} {k} (spelling.line {s = w}) q =
      let e = (rest_of_lem d q).0 in
      let f = (rest_of_lem d e).0 in
      let v = (rest_of_lem d f).0 in (
        w + 1,
        (rest_of_lem d v).0,
        λ a.
            let i = back_on v a in
            let h = back_on f i.1 in
            let g = back_on e h.1 in
            let c = back_on q g.1 in
            (rw (c.0, g.0, h.0, i.0) spelling.line, c.1),
      )
  piece_on {r} {k} (spelling.bytes z) q =
      let c = pairs_on {r = r} z (rest_of_lem d q).0 in (
        c.0,
        c.1,
        λ a.
            let h = c.2 a in
            let g = back_on q h.1 in
            (rw g.0 (spelling.bytes h.0), g.1),
      )

  spelt_in : {r k m : ℕ} {t : Text} {s : List Sign} → Spelt t s m → t ≡ text d k → Ahead d M r m → Spelt (text d' k) s m × Ahead d M r k
  spelt_in spelling.closed q a = let c = back_on q a in (rw c.0 spelling.closed, c.1)
  spelt_in {r} {k} (spelling.piece p z) q a =
      let c = piece_on {r = r} {k = k} p q in
      let y = spelt_in {k = c.0} z c.1 a in
      let x = c.2 y.1 in
      (spelling.piece x.0 y.0, x.1)

  pub spelt_on : {r k m : ℕ} {s : List Sign} → Spelt (text d k) s m → Ahead d M r m → Spelt (text d' k) s m × Ahead d M r k
  spelt_on z a = spelt_in z refl a

  -- ---- comments close with an angle
  comment_on : {r l k m : ℕ} → Comment d l k m → Ahead d M r m → Comment d' l k m × Ahead d M r k
  comment_on (spelling.over e) a = let c = back_on (sym e) a in (spelling.over c.0, c.1)
  comment_on (spelling.byte e f g h z) a =
      let y = comment_on z a in
      let c = back_on (sym e) y.1 in
      (spelling.byte c.0 f g h y.0, c.1)
  comment_on (spelling.string e s z) a =
      let y = comment_on z a in
      let x = spelt_on s y.1 in
      let c = back_on (sym e) x.1 in
      (spelling.string c.0 x.0 y.0, c.1)
  comment_on (spelling.comment e l s z) a =
      let y = comment_on z a in
      let x = comment_on s y.1 in
      let c = back_on (sym e) x.1 in
      (spelling.comment c.0 l x.0 y.0, c.1)

  -- ---- gaps look one byte ahead
  between_on : {r k m : ℕ} → gaps.Gap d k m → Ahead d M r m → gaps.Gap d' k m × Ahead d M r k
  between_on gaps.none a = (gaps.none, a)
  between_on (gaps.space e g) a =
      let y = between_on g a in
      let c = back_on (sym e) y.1 in
      (gaps.space c.0 y.0, c.1)
  between_on (gaps.comment e s g) a =
      let y = between_on g a in
      let x = comment_on s y.1 in
      let c = back_on (sym e) x.1 in
      (gaps.comment c.0 x.0 y.0, c.1)

  pub gap_on_lem : {r n m : ℕ} → 1 ≤ r → Gap d n m → Ahead d M r m → Gap d' n m × Ahead d M r n
  unfolding place_of
  gap_on_lem {m = m} l (gaps.token {n = k} {p = p} {b = b} g e f h) a =
      let q : text d p ≡ sign p b (text d (p + 1)) = rw e at (place_text d k) in
      let y = between_on g (moved (e ∙ sym q) (rest_of_lem d (sym e)).1 a) in
      (gaps.token y.0 (shared k e (before l a)) f h, y.1)
  gap_on_lem l (gaps.ended {n = k} {p = p} g e) a = let q : text d p ≡ stop p = rw e at (place_text d k) in no_end l a q

  pub spaces_on_lem : {r n m : ℕ} → 1 ≤ r → Spaces d n m → Ahead d M r m → Spaces d' n m × Ahead d M r n
  unfolding place_of
  spaces_on_lem l (opening.byte {at = k} {p = p} {b = b} e f) a =
      let q : text d p ≡ sign p b (text d (p + 1)) = rw e at (place_text d k) in
      (opening.byte (shared k e (before l a)) f, moved (e ∙ sym q) (rest_of_lem d (sym e)).1 a)
  spaces_on_lem l (opening.end {at = k} {p = p} e) a = let q : text d p ≡ stop p = rw e at (place_text d k) in no_end l a q
  spaces_on_lem l (opening.space e s) a =
      let y = spaces_on_lem l s a in
      let c = back_on (sym e) y.1 in
      (opening.space c.0 y.0, c.1)

  -- ---- the first byte that is left of all
  pub start_on : {r : ℕ} → 1 ≤ r → Ahead d M r (place_of (text d 0)) → place_of (text d' 0) ≡ place_of (text d 0)
  unfolding place_of
  start_on l (here h) = absurd (omega arith)
  start_on l (byte {n = n} {p = p} {b = b} e a) =
      let q : text d 0 ≡ sign p b (text d (p + 1)) = sym (place_text d 0) ∙ e in
      let i = inside a in
      let q' = shared 0 q (omega arith) in
      rw (q, q')
