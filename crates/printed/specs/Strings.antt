-- TEXTS: what a derived string says is decided by the kept bytes between its quotes; and those bytes between quotes, printed, are a string
-- that says the same signs, a break told from byte 10.
use Rattle.std.proofs.Math.Path.{◌≡◌, refl}
use Rattle.std.proofs.Common.{ap, ◌∙◌, arith, le-leb}
use mathlib.Core.List.{List, [], ◌∷◌, ◌++◌, append_assoc}
use Rattle.std.specs.Prelude.{ℕ, ◌+◌, ◌-◌, ◌≤◌}
use Rattle.std.proofs.lemmas.Bool.{lt-leb}
use Rattle.signs.specs.declared.Sign.{Sign}
use Rattle.signs.specs.declared.Sign.TheVariants.{Byte, Break}
use Rattle.scan.specs.rule.Text.{stop, sign, text}
use Rattle.scan.specs.rule.Text as scan
use Rattle.scan.proofs.Texts.{From, at_stop, at_sign, from_text}
use Rattle.marks.specs.declared.Inside.TheVariants.{Plain}
use Rattle.marks.specs.rule.Spelling.{hex_pair, decode_of}
use Rattle.marks.specs.Spelling.{Pairs, last, more, Piece, plain, quote, brace, line, bytes, Spelt, closed, piece}
use Rattle.marks.proofs.Complete.{string_decoded}
use Rattle.survey.specs.rule.Survey.{KeptText}
use Rattle.clean_text.specs.rule.Span.{up_to, span_of}
use Rattle.clean_text.specs.rule.Clean.{quoted_token}
use Rattle.grammar.specs.Token.{Gap, String, string}
use Rattle.printed.specs.Left.{bytes_in, Left, step_of, Yields, yields, after}
use Rattle.printed.specs.Words.{solid, gap_space}

-- ---- a text is the bytes k, and then the text u
pub data Ink : scan.Text → List ℕ → scan.Text → Type 0 where
  none : {t : scan.Text} → Ink t [] t
  one : {p b : ℕ} {k : List ℕ} {t u : scan.Text} → Ink t k u → Ink (sign p b t) (b ∷ k) u

ink_join : {t u v : scan.Text} {k j : List ℕ} → Ink t k u → Ink u j v → Ink t (k ++ j) v
ink_join none y = y
ink_join (one x) y = one (ink_join x y)

-- a text that is k, then j, parted between them
data Splits (t : scan.Text) (k j : List ℕ) (v : scan.Text) : Type 0 where
  splits : {u : scan.Text} → Ink t k u → Ink u j v → Splits t k j v

-- and the other way: bytes that are left are there
data Inked (t : scan.Text) (k r : List ℕ) : Type 0 where
  inked : {u : scan.Text} → Ink t k u → bytes_in u ≡ r → Inked t k r

ink_of : (t : scan.Text) (k r : List ℕ) → bytes_in t ≡ k ++ r → Inked t k r
unfolding bytes_in
ink_of t [] r e = inked none e
ink_of (stop p) (b ∷ k) r e = let z : ◌≡◌ {A = ℕ} 0 1 = cc in absurd (omega arith)
ink_of (sign p c t) (b ∷ k) r e =
    let f : c ≡ b = cc in
    let g : bytes_in t ≡ k ++ r = cc in
    by f (ink_of t k r g) where
      by : c ≡ b → Inked t k r → Inked (sign p c t) (b ∷ k) r
      by f (inked x h) = rw f (inked (one x) h)

-- ---- pieces by their bytes
pub record PieceInk (t : scan.Text) (m : List Sign) (u : scan.Text) : Type 0 where
  pub ink : List ℕ
  pub stands : Ink t ink u
  pub again : (t' u' : scan.Text) → Ink t' ink u' → Piece t' m u'

record PairsInk (t : scan.Text) (m : List Sign) (u : scan.Text) : Type 0 where
  ink : List ℕ
  stands : Ink t ink u
  again : (t' u' : scan.Text) → Ink t' ink u' → Pairs t' m u'

pairs_ink : {t u : scan.Text} {m : List Sign} → Pairs t m u → PairsInk t m u
pairs_ink (last {a = a} {b = b} f h) = record { ink = a ∷ b ∷ 125 ∷ []; stands = one (one (one none)); again = by } where
  by : (t' u' : scan.Text) → Ink t' (a ∷ b ∷ 125 ∷ []) u' → Pairs t' (Byte (hex_pair a b) ∷ []) u'
  by t' u' (one (one (one none))) = last f h
pairs_ink (more {p = p} {q = q} {a = a} {b = b} {m = m} {t = t} {u = u} f h r) = on (pairs_ink r) where
  on : PairsInk t m u → PairsInk (sign p a (sign q b t)) (Byte (hex_pair a b) ∷ m) u
  on x = record { ink = a ∷ b ∷ x.ink; stands = one (one x.stands); again = by } where
    by : (t' u' : scan.Text) → Ink t' (a ∷ b ∷ x.ink) u' → Pairs t' (Byte (hex_pair a b) ∷ m) u'
    by t' u' (one {t = t₁} (one {t = t₂} y)) = more f h (x.again t₂ u' y)

piece_ink : {t u : scan.Text} {m : List Sign} → Piece t m u → PieceInk t m u
piece_ink (plain {b = b} f h) = record { ink = b ∷ []; stands = one none; again = by } where
  by : (t' u' : scan.Text) → Ink t' (b ∷ []) u' → Piece t' (Byte b ∷ []) u'
  by t' u' (one none) = plain f h
piece_ink quote = record { ink = 123 ∷ 34 ∷ 125 ∷ []; stands = one (one (one none)); again = by } where
  by : (t' u' : scan.Text) → Ink t' (123 ∷ 34 ∷ 125 ∷ []) u' → Piece t' (Byte 34 ∷ []) u'
  by t' u' (one (one (one none))) = quote
piece_ink brace = record { ink = 123 ∷ 123 ∷ 125 ∷ []; stands = one (one (one none)); again = by } where
  by : (t' u' : scan.Text) → Ink t' (123 ∷ 123 ∷ 125 ∷ []) u' → Piece t' (Byte 123 ∷ []) u'
  by t' u' (one (one (one none))) = brace
piece_ink line = record { ink = 123 ∷ 78 ∷ 76 ∷ 125 ∷ []; stands = one (one (one (one none))); again = by } where
  by : (t' u' : scan.Text) → Ink t' (123 ∷ 78 ∷ 76 ∷ 125 ∷ []) u' → Piece t' (Break ∷ []) u'
  by t' u' (one (one (one (one none)))) = line
piece_ink (bytes {m = m} r) = let x = pairs_ink r in record { ink = 123 ∷ x.ink; stands = one x.stands; again = by x } where
  by : {t u : scan.Text} (x : PairsInk t m u) (t' u' : scan.Text) → Ink t' (123 ∷ x.ink) u' → Piece t' m u'
  by x t' u' (one {t = t₁} y) = bytes (x.again t₁ u' y)

-- ---- the inside of a string, up to the closing quote at q
record StringInk (t : scan.Text) (m : List Sign) (n : ℕ) : Type 0 where
  ink : List ℕ
  shut : ℕ
  rest : scan.Text
  stands : Ink t ink (sign shut 34 rest)
  next : n ≡ shut + 1
  again : (t' u' : scan.Text) (q : ℕ) → Ink t' ink (sign q 34 u') → Spelt t' m (q + 1)

ink_split : {t v : scan.Text} (k j : List ℕ) → Ink t (k ++ j) v → Splits t k j v
ink_split [] j x = splits none x
ink_split (b ∷ k) j (one x) = by (ink_split k j x) where
  by : {p : ℕ} {t v : scan.Text} → Splits t k j v → Splits (sign p b t) (b ∷ k) j v
  by (splits y z) = splits (one y) z

spelt_ink : {t : scan.Text} {m : List Sign} {n : ℕ} → Spelt t m n → StringInk t m n
spelt_ink (closed {p = p} {u = u}) = record { ink = []; shut = p; rest = u; stands = none; next = refl; again = by } where
  by : (t' u' : scan.Text) (q : ℕ) → Ink t' [] (sign q 34 u') → Spelt t' [] (q + 1)
  by t' u' q none = closed
spelt_ink (piece {t = t} {u = u} {m = m} {s = s} {n = n} x y) = on (piece_ink x) (spelt_ink y) where
  on : PieceInk t m u → StringInk u s n → StringInk t (m ++ s) n
  on a b = record {
    ink = a.ink ++ b.ink;
    shut = b.shut;
    rest = b.rest;
    stands = ink_join a.stands b.stands;
    next = b.next;
    again = λ t' u' q z. by t' u' q (ink_split a.ink b.ink z);
  } where
    by : (t' u' : scan.Text) (q : ℕ) → Splits t' a.ink b.ink (sign q 34 u') → Spelt t' (m ++ s) (q + 1)
    by t' u' q (splits {u = v} z w) = piece (a.again t' v z) (b.again v u' q w)

-- ---- "said": the kept bytes from a string's place to its closing quote
module _ (d : List ℕ) where
  record Spans (n q : ℕ) (t u : scan.Text) (k : List ℕ) : Type 0 where
    span : up_to q t ≡ k
    from : n ≤ q
    rest : u ≡ text d (q + 1)

  ink_spans : {n q c : ℕ} {t u : scan.Text} {k : List ℕ} → From d n t → Ink t k (sign q c u) → Spans n q t u k
  unfolding up_to
  ink_spans {q = q} (at_sign h w e r) none = record { span = rw (le-leb q q (omega arith)); from = h; rest = e }
  ink_spans {n} {q} (at_sign {p = p} {b = b} h w e r) (one x) = by h (ink_spans r x) where
    by : {u : scan.Text} {k : List ℕ} {t : scan.Text} → n ≤ p → Spans (p + 1) q t u k → Spans n q (sign p b t) u (b ∷ k)
    by h s =
        let f = s.from in
        record { span = rw (lt-leb q p (omega arith)) (ap (λ (x : List ℕ). b ∷ x) s.span); from = omega arith; rest = s.rest }
  ink_spans {q = q} {c = c} {u = u} {k = k} (at_stop {at = at} {p = p}) x = elim x [ ]

  -- a text by its kept bytes: they are the inside of a string that says its signs, wherever they stand before a quote
  pub record TextSaid (t : KeptText) : Type 0 where
    pub ink : List ℕ
    pub span : span_of d t.place (t.place + t.length) ≡ ink
    pub again : (t' u' : scan.Text) (q : ℕ) → Ink t' ink (sign q 34 u')
        → Spelt t' (decode_of Plain 0 (text d t.place)) (q + 1)

  -- where the closing quote stands at q, the length reaches up to it
  to_quote : (a q n : ℕ) → n ≡ q + 1 → a ≤ q → a + (n - a - 1) ≡ q
  to_quote a q n e h = omega arith

  pub string_said : {n m : ℕ} {t : KeptText} → String d n t m → TextSaid t
  unfolding span_of
  string_said (string {p = p} {m = m} {s = s} g e x) =
      let i = spelt_ink x in
      let c = ink_spans (from_text d (p + 1)) i.stands in
      let f = to_quote (p + 1) i.shut m i.next c.from in
      let o = string_decoded x in
      record { ink = i.ink; span = rw f c.span; again = rw o i.again }

-- ---- the same text in two files: the same kept bytes, and the same signs
pub record SameText (d p : List ℕ) (t t' : KeptText) : Type 0 where
  pub span : quoted_token p t' ≡ quoted_token d t
  pub decoded : decode_of Plain 0 (text p t'.place) ≡ decode_of Plain 0 (text d t.place)

module _ (d p : List ℕ) {t : KeptText} (said : TextSaid d t) where
  -- the closing quote, what follows it, and the string before it
  shut : {n a q : ℕ} {u : List ℕ} {v : scan.Text} → Gap p n a → text p a ≡ sign q 34 (text p (q + 1))
      → Ink (text p (q + 1)) said.ink v → bytes_in v ≡ 34 ∷ u → Yields p (String p n) (SameText d p t) u
  unfolding bytes_in span_of
  shut {v = stop s} g e x h = let z : ◌≡◌ {A = ℕ} 0 1 = cc in absurd (omega arith)
  shut {q = q} {u = u} {v = sign s c w} g e x h =
      let f : c ≡ 34 = cc in
      let j : bytes_in w ≡ u = cc in
      let y : Ink (text p (q + 1)) said.ink (sign s 34 w) = rw f at x in
      let o = ink_spans p (from_text p (q + 1)) y in
      let k = said.again (text p (q + 1)) w s y in
      let l = to_quote p (q + 1) s (s + 1) refl o.from in
      let a : span_of p (q + 1) (q + 1 + (s + 1 - (q + 1) - 1)) ≡ said.ink = rw l o.span in
      yields (string g e k) (record { span = rw (a, said.span); decoded = string_decoded k }) (rw o.rest at j)

  pub string_there : {n : ℕ} {u : List ℕ} → Left p n (32 ∷ quoted_token d t ++ u) → Yields p (String p n) (SameText d p t) u
  unfolding solid
  string_there {n} {u} l =
      after p (gap_space p refl l) λ a g l.
      let o = step_of p l in
      let e : span_of d t.place (t.place + t.length) ++ 34 ∷ [] ++ u ≡ said.ink ++ (34 ∷ u) =
      rw said.span (append_assoc said.ink (34 ∷ []) u) in
      by g (o.same ∙ o.there) (ink_of (text p (o.place + 1)) said.ink (34 ∷ u) (o.left ∙ e)) where
        by : {a q : ℕ} → Gap p n a → text p a ≡ sign q 34 (text p (q + 1)) → Inked (text p (q + 1)) said.ink (34 ∷ u)
            → Yields p (String p n) (SameText d p t) u
        by g e (inked x h) = shut g e x h
