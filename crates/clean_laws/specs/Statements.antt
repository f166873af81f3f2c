-- PRINTED STATEMENTS: from a line of the clean text of d, which is left at a place of p, its statement is derived, saying the same.
use Rattle.std.specs.Prelude.{◌≡◌, true, List, [], ◌∷◌, ◌++◌, ℕ, ◌+◌, ◌-◌, ◌*◌, ◌/◌, ◌^◌, ◌<◌, ◌≤◌, leb, length}
use Rattle.std.proofs.Math.Path.{refl}
use Rattle.std.proofs.Common.{sym, ◌∙◌, arith, leb-true, le-ltb, ne_eqb}
use Rattle.std.proofs.Math.Option.{Option, some}
use Rattle.below.specs.Below.{and_left, and_right}
use Rattle.ascii.specs.rule.Class.{class_of, within}
use Rattle.ascii.specs.rule.Tens.{digits_of}
use Rattle.ascii.specs.Tens.{digits_hold, digits_some}
use Rattle.scan.specs.rule.Number.{is_digit, is_value, decimal_of}
use Rattle.statements.specs.rule.Words.{POSITION, TO, SIZE}
use Rattle.fields.specs.rule.Number.{padded, decimal_from, digits_only}
use Rattle.fieldlaws.specs.NumberLaws.{padded_digits, decimal_padded, length_padded}
use Rattle.survey.specs.rule.Survey.{Figure, Amount, KeptText, Spread}
use Rattle.clean_text.specs.rule.Clean.{figure_token, amount_token, quoted_token, plain_digits, spread_line}
use Rattle.grammar.specs.Token.{Number, Value, Statement, Phrase, phrase, given}
use Rattle.grammar.specs.Grammar.{Position, position, spread}
use Rattle.grammar.specs.Grammar as grammar
use Rattle.printed.specs.Left.{Left, Yields, yields, after, taking, each, each_cons}
use Rattle.printed.specs.Words.{solid, keyword_there, statement_there}
use Rattle.printed.specs.Runs.{stops, FigureSaid, figure_said, number_there, AmountSaid, amount_said, value_there}
use Rattle.printed.specs.Lines.{ink_then, inks_then}
use Rattle.printed.specs.Strings.{TextSaid, SameText, string_there}
use Rattle.clean_laws.specs.Said.{SpreadSaid, undivided, stated, even}
use Rattle.clean_laws.specs.Same.{SameFigure, SameAmount, SameSpread}
use Rattle.clean_laws.specs.Same as same

-- ---- a count in plain digits is digits, one at least, and says itself
digit_is : (b : ℕ) → within 48 57 b ≡ true → is_digit b ≡ true
unfolding is_digit class_of
digit_is b h =
    let l = leb-true 48 b (and_left (leb 48 b) (leb b 57) h) in
    rw (le-ltb b 32 (omega arith), ne_eqb b 32 (λ e. omega arith), h)

pub digits_each : (s : List ℕ) → digits_only s ≡ true → each is_digit s ≡ true
unfolding digits_only each
digits_each [] h = refl
digits_each (b ∷ s) h =
    each_cons is_digit b s (digit_is b (and_left (within 48 57 b) (digits_only s) h))
    (digits_each s (and_right (within 48 57 b) (digits_only s) h))

decimal_same : (n : ℕ) (s : List ℕ) → decimal_of n s ≡ decimal_from n s
unfolding decimal_of decimal_from
decimal_same n [] = refl
decimal_same n (b ∷ s) = decimal_same (n * 10 + (b - 48)) s

record PlainDigits (n : ℕ) (s : List ℕ) : Type 0 where
  digits : each is_digit s ≡ true
  says : decimal_of 0 s ≡ n
  some : 1 ≤ length s

plain_digits_lem : (n : ℕ) → n < 10 ^ 16 → PlainDigits n (plain_digits n)
unfolding plain_digits
plain_digits_lem n h = record {
  digits = digits_each (padded (digits_of n) n) (padded_digits (digits_of n) n);
  says = decimal_same 0 (padded (digits_of n) n) ∙ decimal_padded (digits_of n) n (digits_hold n h);
  some = rw (length_padded (digits_of n) n) (digits_some n);
}

module _ (d p : List ℕ) where
  -- ---- a number, a value, a word and a text as d has them
  pub figure_there : {x : Figure} {n : ℕ} {u : List ℕ} → FigureSaid d x → stops is_digit u ≡ true → Left p n (32 ∷ figure_token d x ++ u)
      → Yields p (Number p n) (SameFigure d p x) u
  figure_there {n = n} {u = u} (figure_said i h) k l =
      taking p (number_there p h k (rw i.span at l)) λ y m z r l.
      yields z (record {
        span = r.span ∙ sym i.span;
        digits = r.digits ∙ sym i.digits;
        value = r.value ∙ sym i.value;
      }) l

  pub amount_there : {a : Amount} {n : ℕ} {u : List ℕ} → AmountSaid d a → stops is_value u ≡ true → Left p n (amount_token d a ++ u)
      → Yields p (Value p n) (SameAmount d p a) u
  amount_there (amount_said i h) k l =
      taking p (value_there p h k (rw i.span at l)) λ y m z r l.
      yields z (record { span = r.span ∙ sym i.span; says = r.says ∙ sym i.says }) l

  pub phrase_there : {b n : ℕ} {w u : List ℕ} {t : KeptText} → solid b ≡ true → TextSaid d t
      → Left p n ((b ∷ w) ++ (32 ∷ quoted_token d t ++ u))
      → Yields p (Phrase p (b ∷ w) n) (SameText d p t) u
  phrase_there h x l =
      after p (statement_there p h l) λ k s l.
      taking p (string_there d p x l) λ t m z r l.
      yields (phrase s z) r l

  -- ---- POSITION a TO b
  pub data PositionThere (n : ℕ) (x y : Figure) (u : List ℕ) : Type 0 where
    position_there : {a b : Figure} {m : ℕ} → Position p n a (some b) m → SameFigure d p x a → SameFigure d p y b → Left p m u
        → PositionThere n x y u

  pub position_printed : {x y : Figure} {n : ℕ} {u : List ℕ} → FigureSaid d x → FigureSaid d y → stops is_digit u ≡ true
      → Left p n (POSITION ++ (32 ∷ figure_token d x ++ (32 ∷ TO ++ (32 ∷ figure_token d y ++ u)))) → PositionThere n x y u
  unfolding solid stops is_digit class_of
  position_printed x y h l =
      after p (statement_there p refl l) λ j s l.
      taking p (figure_there x refl l) λ a k z r l.
      after p (keyword_there p refl l) λ i w l.
      taking p (figure_there y h l) λ b m v q l.
      position_there (position s z (given w v)) r q l

  pub positioned : {n : ℕ} {x y : Figure} {u : List ℕ} {C : Type 0} → PositionThere n x y u
      → ((a b : Figure) (m : ℕ) → Position p n a (some b) m → SameFigure d p x a → SameFigure d p y b → Left p m u → C) → C
  positioned (position_there {a = a} {b = b} {m = m} z r q l) k = k a b m z r q l

  -- ---- SPREAD n OF w
  width_there : (n k : ℕ) (s u : List ℕ) → PlainDigits k s → stops is_digit u ≡ true → Left p n (32 ∷ s ++ u)
      → Yields p (Number p n) (λ (w : Figure). (figure_token p w ≡ s) × (w.value ≡ k)) u
  width_there n k [] u x h l = let y = x.some in absurd (omega arith)
  width_there n k (b ∷ s) u x h l =
      taking p (number_there p x.digits h l) λ w m z r l.
      yields z (r.span, r.value ∙ x.says) l

  pub spread_printed : {room : ℕ} {o : Option Spread} {n : ℕ} {u : List ℕ} → SpreadSaid d room o → stops is_digit u ≡ true
      → Left p n (inks_then (spread_line d room o) u) → Yields p (grammar.Spread p n) (SameSpread d p room o) u
  unfolding solid stops is_digit class_of inks_then ink_then
  spread_printed undivided h l = yields grammar.undivided same.undivided l
  spread_printed (stated x w) h l =
      after p (statement_there p refl l) λ j s l.
      taking p (figure_there x refl l) λ a k z r l.
      after p (keyword_there p refl l) λ i o l.
      taking p (figure_there w h l) λ b m v q l.
      yields (grammar.spread s z (given o v)) (same.stated r q) l
  spread_printed {room} {u = u} (even {x = c} x f) h l =
      after p (statement_there p refl l) λ j s l.
      taking p (figure_there x refl l) λ a k z r l.
      after p (keyword_there p refl l) λ i o l.
      taking p (width_there i (room / c.value) (plain_digits (room / c.value)) u (plain_digits_lem (room / c.value) f) h l) λ b m v q l.
      yields (grammar.spread s z (given o v)) (same.even r q.0 q.1) l

  -- ---- SIZE n
  pub data SizeThere (n : ℕ) (x : Figure) (u : List ℕ) : Type 0 where
    size_there : {k m : ℕ} {a : Figure} → Statement p SIZE n k → Number p k a m → SameFigure d p x a → Left p m u → SizeThere n x u

  pub size_printed : {x : Figure} {n : ℕ} {u : List ℕ} → FigureSaid d x → stops is_digit u ≡ true
      → Left p n (SIZE ++ (32 ∷ figure_token d x ++ u))
      → SizeThere n x u
  unfolding solid
  size_printed x h l =
      after p (statement_there p refl l) λ j s l.
      taking p (figure_there x h l) λ a k z r l.
      size_there s z r l
