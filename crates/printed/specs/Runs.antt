-- NUMBERS AND VALUES: what a derived one says is decided by its kept bytes; and those bytes, printed, are derived saying the same.
use Rattle.std.specs.Prelude.{◌≡◌, Bool, ℕ, ◌+◌, ◌≤◌, eqb, length}
use Rattle.std.proofs.Math.Path.{refl}
use Rattle.std.proofs.Common.{sym, ap, ◌∙◌, arith, eqb-true, le-leb}
use Rattle.std.proofs.Math.Bool.{true, false, cond}
use mathlib.Core.List.{List, [], ◌∷◌, ◌++◌}
use Rattle.std.proofs.lemmas.Bool.{lt-leb}
use Rattle.ascii.specs.rule.Class.{class_of}
use Rattle.scan.specs.rule.Text.{Text, stop, sign, text}
use Rattle.scan.specs.rule.Number.{is_digit, is_value, decimal_of}
use Rattle.scan.proofs.Texts.{From, at_stop, at_sign, from_text}
use Rattle.survey.specs.rule.Survey.{Figure, Amount}
use Rattle.reading.specs.rule.Token.{amount_read}
use Rattle.clean_text.specs.rule.Span.{up_to, span_of}
use Rattle.clean_text.specs.rule.Clean.{figure_token, amount_token}
use Rattle.grammar.specs.Token.{Run, more, other, end, Number, number, Value, value}
use Rattle.printed.specs.Left.{no, bytes_in, Left, Step, step_of, Ends, ends, Yields, yields, after, each, both, each_cons}
use Rattle.printed.specs.Words.{solid, gap_space}

-- the bytes that are left do not go on with a run
unfoldable pub stops : (ℕ → Bool) → List ℕ → Bool
stops f [] = true
stops f (b ∷ u) = cond (f b) false true

-- ---- "said": a run's bytes are the kept bytes from its place to its end
run_each : {f : ℕ → Bool} {n m : ℕ} {t : Text} {s : List ℕ} → Run f n t s m → each f s ≡ true
unfolding each
run_each {f} (more {b = b} {s = s} e r) = each_cons f b s e (run_each r)
run_each (other e) = refl
run_each end = refl

module _ (d : List ℕ) {f : ℕ → Bool} where
  run_span : {n m : ℕ} {t : Text} {s : List ℕ} → From d n t → Run f n t s m → (up_to m t ≡ s) × (n ≤ m)
  unfolding up_to
  run_span {n} {m} (at_sign {p = p} h w e r) (more {b = b} g x) =
      let c = run_span r x in
      let k = c.1 in
      (rw (lt-leb m p (omega arith)) (ap (λ (x : List ℕ). b ∷ x) c.0), omega arith)
  run_span {n} (at_sign {p = p} h w e r) (other g) = (rw (le-leb n p h), omega arith)
  run_span at_stop end = (refl, omega arith)

  pub run_said : {n m : ℕ} {s : List ℕ} → Run f n (text d n) s m → (span_of d n m ≡ s) × (each f s ≡ true)
  unfolding span_of
  run_said {n} x = ((run_span (from_text d n) x).0, run_each x)

-- ---- "printed": bytes that pass, and then one that does not
module _ (p : List ℕ) (f : ℕ → Bool) where
  run_none : (n : ℕ) (t : Text) → stops f (bytes_in t) ≡ true → Run f n t [] n
  unfolding stops bytes_in
  run_none n (stop q) h = end
  run_none n (sign q b t) h = by (f b) refl h where
    by : (x : Bool) → f b ≡ x → cond x false true ≡ true → Run f n (sign q b t) [] n
    by true e h = no h
    by false e h = other e

  pub run_there : (s u : List ℕ) {n : ℕ} → each f s ≡ true → stops f u ≡ true → Left p n (s ++ u) → Ends p (Run f n (text p n) s) u
  run_there [] u {n} h k l = let e : stops f (bytes_in (text p n)) ≡ true = rw l k in ends (run_none n (text p n) e) l
  run_there (b ∷ s) u {n} h k l =
      let c = both f b s h in
      let o = step_of p l in
      by o (run_there s u c.1 k o.left) where
        by : (o : Step p n b (s ++ u)) → Ends p (Run f (o.place + 1) (text p (o.place + 1)) s) u → Ends p (Run f n (text p n) (b ∷ s)) u
        by o (ends {m = m} r l) = let e = o.same ∙ o.there in ends {m = m} (rw e (more (both f b s h).0 r)) l

-- ---- a number: what it says, by its bytes s
pub record FigureIs (d s : List ℕ) (x : Figure) : Type 0 where
  pub span : figure_token d x ≡ s
  pub digits : x.digits ≡ length s
  pub value : x.value ≡ decimal_of 0 s

-- a number of d, by its bytes: one at least, all digits
pub data FigureSaid (d : List ℕ) (x : Figure) : Type 0 where
  figure_said : {b : ℕ} {s : List ℕ} → FigureIs d (b ∷ s) x → each is_digit (b ∷ s) ≡ true → FigureSaid d x

pub number_said : (d : List ℕ) {n m : ℕ} {x : Figure} → Number d n x m → FigureSaid d x
number_said d (number g r) = let c = run_said d r in figure_said (record { span = c.0; digits = refl; value = refl }) c.1

pub class_solid : (b k : ℕ) → class_of b ≡ k → eqb k 1 ≡ false → eqb k 6 ≡ false → solid b ≡ true
unfolding solid class_of
class_solid b k e f g = by (eqb b 32) (eqb b 60) refl refl where
  by : (x y : Bool) → eqb b 32 ≡ x → eqb b 60 ≡ y → cond x false (cond y false true) ≡ true
  by true y h i =
      let j : class_of b ≡ 1 = rw (eqb-true b 32 h) in
      let z : eqb 1 1 ≡ false = rw (sym e ∙ j) at f in no (sym z)
  by false true h i =
      let j : class_of b ≡ 6 = rw (eqb-true b 60 i) in
      let z : eqb 6 6 ≡ false = rw (sym e ∙ j) at g in no (sym z)
  by false false h i = refl

pub digit_solid : (b : ℕ) → is_digit b ≡ true → solid b ≡ true
unfolding is_digit
digit_solid b e = class_solid b 2 (eqb-true (class_of b) 2 e) refl refl

-- behind a space
pub number_there : (p : List ℕ) {b n : ℕ} {s u : List ℕ} → each is_digit (b ∷ s) ≡ true → stops is_digit u ≡ true
    → Left p n (32 ∷ (b ∷ s) ++ u) → Yields p (Number p n) (FigureIs p (b ∷ s)) u
number_there p {b} {n} {s} {u} h k l =
    after p (gap_space p (digit_solid b (both is_digit b s h).0) l) λ a g l.
    after p (run_there p is_digit (b ∷ s) u h k l) λ m r l.
    yields (number g r) (record { span = (run_said p r).0; digits = refl; value = refl }) l

-- ---- a value likewise: an amount's numbers are those of its bytes
unfoldable pub bare_amount : Amount → Amount
bare_amount a = record {
  place = 0;
  end = 0;
  minus = a.minus;
  whole = a.whole;
  point = a.point;
  decimals = a.decimals;
  size = a.size;
  formed = a.formed;
}

pub record AmountIs (d s : List ℕ) (a : Amount) : Type 0 where
  pub span : amount_token d a ≡ s
  pub says : bare_amount a ≡ amount_read 0 0 s

pub data AmountSaid (d : List ℕ) (a : Amount) : Type 0 where
  amount_said : {b : ℕ} {s : List ℕ} → AmountIs d (b ∷ s) a → each is_value (b ∷ s) ≡ true → AmountSaid d a

amount_is : (d : List ℕ) (n m : ℕ) (s : List ℕ) → span_of d n m ≡ s → AmountIs d s (amount_read n m s)
unfolding amount_read bare_amount
amount_is d n m s e = record { span = e; says = refl }

pub value_said : (d : List ℕ) {n m : ℕ} {a : Amount} → Value d n a m → AmountSaid d a
value_said d {n} {m} (value {b = b} {s = s} r) = let c = run_said d r in amount_said (amount_is d n m (b ∷ s) c.0) c.1

pub value_solid : (b : ℕ) → is_value b ≡ true → solid b ≡ true
unfolding is_value solid is_digit class_of
value_solid b e = by (eqb b 32) (eqb b 60) refl refl where
  by : (x y : Bool) → eqb b 32 ≡ x → eqb b 60 ≡ y → cond x false (cond y false true) ≡ true
  by true y h i = let z : is_value 32 ≡ true = rw (eqb-true b 32 h) at e in no z
  by false true h i = let z : is_value 60 ≡ true = rw (eqb-true b 60 i) at e in no z
  by false false h i = refl

-- right here
pub value_there : (p : List ℕ) {b n : ℕ} {s u : List ℕ} → each is_value (b ∷ s) ≡ true → stops is_value u ≡ true
    → Left p n ((b ∷ s) ++ u) → Yields p (Value p n) (AmountIs p (b ∷ s)) u
value_there p {b} {n} {s} {u} h k l =
    after p (run_there p is_value (b ∷ s) u h k l) λ m r l.
    yields (value r) (amount_is p n m (b ∷ s) (run_said p r).0) l
