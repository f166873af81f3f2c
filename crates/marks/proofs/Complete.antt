-- What is spelt as the paper has it is skipped to its end, and decoded to what it says.
use mathlib.Core.Path.{◌≡◌, refl, ◌∙◌, sym, ap}
use mathlib.Core.Bool.{true, false}
use mathlib.Core.List.{List, [], ◌++◌}
use Prim.Native.Nat.{ℕ}
use native.Mathlib.Omega.{arith}
use lib.Dec.{eqb}
use borrow.Author.Tests.{ne_eqb}
use Rattle.ascii.specs.rule.Class.{class_of, upper_of}
use Rattle.signs.specs.declared.Sign.{Sign}
use Rattle.scan.specs.rule.Text.{Text, stop, sign}
use Rattle.scan.specs.rule.Number.{is_digit}
use Rattle.marks.specs.declared.Inside.{Inside}
use Rattle.marks.specs.declared.Inside.TheVariants.{Plain, Opened, Pair, Low}
use Rattle.marks.specs.declared.Move.TheVariants.{Go}
use Rattle.marks.specs.declared.Skip.TheVariants.{Past}
use Rattle.marks.specs.rule.Marks.{is_hex, inside_of, string_of}
use Rattle.marks.specs.Spelling.{Pairs, last, more, Piece, plain, quote, brace, line, bytes, Spelt, closed, piece}
use Rattle.marks.specs.rule.Spelling.{gives_of, decode_of}

-- a hex digit is no byte that is none
hex_not : (a k : ℕ) → is_hex k ≡ false → is_hex a ≡ true → eqb a k ≡ false
hex_not a k f h = ne_eqb a k (λ e. let z : true ≡ false = sym h ∙ ap is_hex e ∙ f in let y : ◌≡◌ {A = ℕ} 0 1 = cc in absurd (omega arith))

others : (a : ℕ) → is_hex a ≡ true → (eqb a 34 ≡ false) × (eqb a 123 ≡ false) × (eqb a 78 ≡ false) × (eqb a 125 ≡ false)
unfolding is_hex is_digit class_of upper_of
others a h = (hex_not a 34 refl h, hex_not a 123 refl h, hex_not a 78 refl h, hex_not a 125 refl h)

-- a state in which a hex digit starts a pair, and ends no byte
record Starts (o : ℕ) (s : Inside) : Type 0 where
  moves : (a p : ℕ) → is_hex a ≡ true → inside_of s a p ≡ Go (Low o)
  gives : (x a : ℕ) → is_hex a ≡ true → gives_of s x a ≡ []

opened : (o : ℕ) → Starts o (Opened o)
unfolding inside_of gives_of
opened o = record {
  moves = λ a p h. let n = others a h in rw (n.0, n.1, n.2, h);
  gives = λ x a h. let n = others a h in
      rw (n.0, n.1);
}

paired : (o : ℕ) → Starts o (Pair o)
unfolding inside_of gives_of
paired o = record { moves = λ a p h. rw ((others a h).3, h); gives = λ x a h. refl }

module _ (o : ℕ) where
  skip_pairs : {t u : Text} {m : List Sign} → Pairs t m u → (s : Inside) → Starts o s → string_of s t ≡ string_of Plain u
  unfolding string_of inside_of
  skip_pairs (last {p = p} {a = a} f h) s g = rw (g.moves a p f, h)
  skip_pairs (more {p = p} {a = a} f h r) s g = rw (g.moves a p f, h) (skip_pairs r (Pair o) (paired o))

pub skip_piece : {t u : Text} {m : List Sign} → Piece t m u → string_of Plain t ≡ string_of Plain u
unfolding string_of inside_of
skip_piece (plain {b = b} f h) = rw (ne_eqb b 34 f, ne_eqb b 123 h)
skip_piece quote = refl
skip_piece brace = refl
skip_piece line = refl
skip_piece (bytes {p = p} r) = skip_pairs p r (Opened p) (opened p)

-- COMPLETE: pieces and a quote are skipped to the place after the quote
pub string_complete : {t : Text} {m : List Sign} {n : ℕ} → Spelt t m n → string_of Plain t ≡ Past n
unfolding string_of inside_of
string_complete closed = refl
string_complete (piece r s) = skip_piece r ∙ string_complete s

-- in plain text the byte before says nothing
pub before : (x y : ℕ) (t : Text) → decode_of Plain x t ≡ decode_of Plain y t
unfolding decode_of gives_of
before x y (stop p) = refl
before x y (sign p b t) = refl

module _ (o x : ℕ) where
  decode_pairs : {t u : Text} {m : List Sign} → Pairs t m u → (s : Inside) (y : ℕ) → Starts o s → decode_of s y t ≡ m ++ decode_of Plain x u
  unfolding decode_of inside_of gives_of
  decode_pairs (last {p = p} {a = a} {u = u} f h) s y g = rw (g.moves a p f, g.gives y a f, h, before 125 x u)
  decode_pairs (more {p = p} {a = a} {b = b} f h r) s y g = rw (g.moves a p f, g.gives y a f, h, decode_pairs r (Pair o) b (paired o))

decode_piece : {t u : Text} {m : List Sign} (x : ℕ) → Piece t m u → decode_of Plain x t ≡ m ++ decode_of Plain x u
unfolding decode_of inside_of gives_of
decode_piece x (plain {b = b} {u = u} f h) = rw (ne_eqb b 34 f, ne_eqb b 123 h, before b x u)
decode_piece x (quote {u = u}) = rw (before 125 x u)
decode_piece x (brace {u = u}) = rw (before 125 x u)
decode_piece x (line {u = u}) = rw (before 125 x u)
decode_piece x (bytes {p = p} r) = decode_pairs p x r (Opened p) 123 (opened p)

-- DECODED: the bytes that a string gives are what its pieces say
pub string_decoded : {t : Text} {m : List Sign} {n : ℕ} → Spelt t m n → decode_of Plain 0 t ≡ m
unfolding decode_of inside_of
string_decoded closed = refl
string_decoded (piece {m = m} r s) = decode_piece 0 r ∙ ap (λ l. m ++ l) (string_decoded s)
