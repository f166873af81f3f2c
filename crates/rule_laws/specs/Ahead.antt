-- EVERY READER LEADS ON: what it reads ends no earlier than it begins; and a variable's name stands where the variable is read. So names
-- stand in the order of the variables (Names.antt).
use Rattle.std.specs.Prelude.{◌≡◌, refl, Bool, cond, List, ◌∷◌, ℕ, zero, suc, ◌+◌, ◌≤◌, ◌<◌, eqb, length, Ok, Err}
use Rattle.std.proofs.Math.Bool.{true, false}
use Rattle.std.proofs.Math.Option.{Option, none, some}
use native.Mathlib.Omega.{arith}
use Rattle.scan.specs.rule.Text.{text}
use Rattle.scan.specs.rule.Text as scan
use Rattle.scan.specs.rule.Loop.{Next, Again, Done}
use Rattle.scan.specs.rule.Word.{word_at}
use Rattle.scan.specs.declared.Word.{Word}
use Rattle.scan.specs.declared.Word.TheVariants as spelled
use Rattle.scan.proofs.Texts.{From, at_stop, at_sign, from_text}
use Rattle.marks.specs.declared.Inside.TheVariants.{Plain}
use Rattle.marks.specs.declared.Skip.{Skip}
use Rattle.marks.proofs.Levels.{string_ahead}
use Rattle.marks.proofs.Levels as levels
use Rattle.tokens.specs.declared.Fault.{Fault}
use Rattle.tokens.specs.rule.Gap.{fault, gap_at, OrFault}
use Rattle.statements.specs.rule.Words.{CHARACTER, END, LABEL, LOGICAL, MULTIPLE, NAME, NOTE, OF, POSITION, QUANTITY, SINGLE, SIZE}
use Rattle.statements.specs.rule.Words.{SPECIAL, SPREAD, TO, TYPE, VALUES, VARIABLE, WITH}
use Rattle.survey.specs.rule.Survey.{Figure, Amount, KeptText, Range, Block, Variable}
use Rattle.survey.specs.rule.Table.{lines_all}
use Rattle.reading.specs.rule.Result.{Result, Is, Not, Reader, bind, turn, repeat}
use Rattle.reading.specs.rule.Least.{Charge, judged}
use Rattle.reading.specs.rule.Token.{closed, quoted, passed, on_word, gap, either, here, word, optional, whether}
use Rattle.reading.specs.rule.Token.{number, amount, value, string}
use Rattle.reading.specs.rule.Statement.{note, notes, statement, phrase, Position, position, spread, size}
use Rattle.reading.specs.rule.Values.{Listing, listing, unlisted, end_values, line, listed, lines, range, range_or, values}
use Rattle.reading.specs.rule.Variable.{Sort, Single, Multiple, Quantity, Character, Logical}
use Rattle.reading.specs.rule.Variable.{ident, type, content, variable_of, held, variable}
use Rattle.bridge.specs.Lowest.{Judged, fine, faulty, judged_view}
use Rattle.bridge.specs.Facts.{gap_ahead, word_ahead, Told, told, untold, number_told}
use Rattle.bridge.specs.Amounts.{Valued, valued, unvalued, value_on_lem}
use Rattle.tokens.specs.declared.Value.{Value}

-- ---- the words: what was read from n on ends at n or behind it
pub data After {A : Type 0} (n : ℕ) : Result A → Type 0 where
  ends : {a : A} {m : ℕ} → n ≤ m → After n (Is a m)
  stops : {f : Fault} → After n (Not f)

abbrev pub Leads : {A : Type 0} → Reader A → Type 0
Leads p = (n : ℕ) → After n (p n)

here_ends : {A : Type 0} {a : A} (n : ℕ) → After n (Is a n)
here_ends n = let h : n ≤ n = omega arith in ends h

later : {A : Type 0} {n k : ℕ} {r : Result A} → n ≤ k → After k r → After n r
later {n = n} h (ends {m = m} g) = let i : n ≤ m = omega arith in ends i
later h stops = stops

then : {A B : Type 0} {n : ℕ} {r : Result A} (k : A → Reader B) → After n r → ((a : A) → Leads (k a)) → After n (bind r k)
then k (ends {a = a} {m = m} h) f = later h (f a m)
then k stops f = stops

judged_leads : {A : Type 0} (l : List Charge) (a : A) → Leads (judged l a)
judged_leads l a n = by (judged_view l a n) where
  by : {r : Result _} → Judged l a n r → After n r
  by (fine c) = here_ends n
  by faulty = stops

repeat_leads : {S A : Type 0} (step : S → Reader (Next S A)) → ((s : S) → Leads (step s)) → (f : ℕ) (s : S) → Leads (repeat f step s)
unfolding repeat
repeat_leads step leads zero s n = stops
repeat_leads {S} {A} step leads (suc f) s n =
    then (turn (repeat f step)) (leads s n) (λ x m. on x m (λ t. repeat_leads step leads f t m)) where
      on : (x : Next S A) (m : ℕ) → ((t : S) → After m (repeat f step t m)) → After m (turn (repeat f step) x m)
      on (Again t) m ih = ih t
      on (Done a) m ih = here_ends m

-- ---- tokens
-- a keyword has a letter
pub data Some : List ℕ → Type 0 where
  some_bytes : {x : ℕ} {w : List ℕ} → Some (x ∷ w)

module _ (d : List ℕ) where
  pub either_leads : {A : Type 0} (w : List ℕ) → Some w → (p q : Reader A) → Leads p → Leads q → Leads (either d w p q)
  either_leads w k p q f g n = by k (word_at d n w) refl where
    by : {v : List ℕ} → Some v → (y : Word) → word_at d n v ≡ y → After n (on_word p q n y)
    by (some_bytes {x = x} {w = v}) (spelled.Matched m) e = let h : n ≤ m = omega (arith, word_ahead d x v e) in later h (f m)
    by some_bytes spelled.Not e = g n

  gap_leads : Leads (gap d)
  gap_leads n = by (gap_at d n) refl where
    by : (t : OrFault ℕ) → gap_at d n ≡ t → After n (passed t)
    by (Ok m) e = ends (gap_ahead d e)
    by (Err f) e = stops

  here_leads : (w : List ℕ) → Some w → Leads (here d w)
  here_leads w k = either_leads w k (λ m. Is tt m) (λ m. Not (fault 2 m)) here_ends (λ m. stops)

  word_leads : (w : List ℕ) → Some w → Leads (word d w)
  word_leads w k n = then (λ a. here d w) (gap_leads n) (λ a. here_leads w k)

  whether_leads : (w : List ℕ) → Some w → Leads (whether d w)
  whether_leads w k n = then (λ a. either d w (λ m. Is true m) (λ m. Is false m)) (gap_leads n)
      (λ a. either_leads w k (λ m. Is true m) (λ m. Is false m) here_ends here_ends)

  some_leads : {A : Type 0} (p : Reader A) → Leads p → Leads (λ n. bind (p n) λ a m. Is (some a) m)
  some_leads p f n = then (λ a m. Is (some a) m) (f n) (λ a. here_ends)

  optional_leads : {A : Type 0} (w : List ℕ) → Some w → (p : Reader A) → Leads p → Leads (optional d w p)
  optional_leads w k p f n = then (λ a. either d w (λ n. bind (p n) λ a m. Is (some a) m) (λ m. Is none m)) (gap_leads n)
      (λ a. either_leads w k (λ n. bind (p n) λ a m. Is (some a) m) (λ m. Is none m) (some_leads p f) here_ends)

  number_leads : Leads (number d)
  number_leads n = by (number_told d n) where
    by : {r : Result Figure} → Told d n r → After n r
    by (told {m = m} k) = let h : n ≤ m = omega (arith, k.starts, k.ends) in ends h
    by untold = stops

  amount_leads : Leads (amount d)
  amount_leads n = by (value_on_lem d n) where
    by : {v : OrFault Value} {r : Result Amount} → Valued d n v r → After n r
    by (valued {m = m} s f g) = let h : n ≤ m = omega arith in ends h
    by unvalued = stops

  value_leads : Leads (value d)
  value_leads n = then (λ a. amount d) (gap_leads n) (λ a. amount_leads)

  -- a text stands where it is read
  pub data Stands (n : ℕ) : Result KeptText → Type 0 where
    stands : {t : KeptText} {m : ℕ} → n < t.place → t.place ≤ m → Stands n (Is t m)
    none_there : {f : Fault} → Stands n (Not f)

  stands_later : {n k : ℕ} {r : Result KeptText} → n ≤ k → Stands k r → Stands n r
  stands_later {n} h (stands {t = t} g i) = let j : n < t.place = omega arith in stands j i
  stands_later h none_there = none_there

  quoted_stands : {n : ℕ} {t : scan.Text} → From d n t → Stands n (quoted t)
  unfolding quoted
  quoted_stands at_stop = none_there
  quoted_stands {n} (at_sign {p = p} {b = b} {u = u} h w e r) = by (eqb b 34) (string_ahead d r Plain) where
    by : (q : Bool) {k : Skip} → levels.Ahead (p + 1) k → Stands n (cond q (closed p k) (Not (fault 2 p)))
    by true (levels.by_past {n = m} g) =
        let i : n < p + 1 = omega arith in
        let j : p + 1 ≤ m = omega arith in
        stands i j
    by true levels.by_none = none_there
    by true levels.by_bad = none_there
    by false a = none_there

  pub string_stands : (n : ℕ) → Stands n (string d n)
  string_stands n = by (gap_leads n) where
    by : {r : Result Unit} → After n r → Stands n (bind r λ a m. quoted (text d m))
    by (ends {m = m} h) = stands_later h (quoted_stands (from_text d m))
    by stops = none_there

  text_leads : {n : ℕ} {r : Result KeptText} → Stands n r → After n r
  text_leads {n} (stands {m = m} g h) = let i : n ≤ m = omega arith in ends i
  text_leads none_there = stops

  string_leads : Leads (string d)
  string_leads n = text_leads (string_stands n)

  -- ---- statements
  note_leads : (s : Unit {0}) → Leads (note d s)
  note_leads s = either_leads NOTE some_bytes (λ n. bind (string d n) λ t n. bind (gap d n) λ a m. Is (Again tt) m) (λ m. Is (Done tt) m)
      (λ n. then (λ t n. bind (gap d n) λ a m. Is (Again tt) m) (string_leads n)
      (λ t n. then (λ a m. Is (Again tt) m) (gap_leads n) (λ a. here_ends))) here_ends

  pub notes_leads : Leads (notes d)
  unfolding notes
  notes_leads n = then (λ a. repeat (suc (length d)) (note d) tt) (gap_leads n) (λ a. repeat_leads (note d) note_leads (suc (length d)) tt)

  statement_leads : (w : List ℕ) → Some w → Leads (statement d w)
  unfolding statement
  statement_leads w k n = then (λ a. here d w) (notes_leads n) (λ a. here_leads w k)

  phrase_stands : (w : List ℕ) → Some w → (n : ℕ) → Stands n (phrase d w n)
  unfolding phrase
  phrase_stands w k n = by (statement_leads w k n) where
    by : {r : Result Unit} → After n r → Stands n (bind r λ a. string d)
    by (ends {m = m} h) = stands_later h (string_stands m)
    by stops = none_there

  position_leads : Leads (position d)
  unfolding position
  position_leads n =
      then _ (statement_leads POSITION some_bytes n)
      (λ u n. then _ (number_leads n) (λ a n. then _ (optional_leads TO some_bytes (number d) number_leads n) (λ b. judged_leads _ _)))

  spread_leads : (room : ℕ) → Leads (spread d room)
  unfolding spread
  spread_leads room n =
      then _ (number_leads n) (λ a n. then _ (optional_leads OF some_bytes (number d) number_leads n) (λ b. judged_leads _ _))

  size_leads : Leads (size d)
  unfolding size
  size_leads n = then _ (statement_leads SIZE some_bytes n) (λ u n. then _ (number_leads n) (λ a. judged_leads _ _))

  ident_leads : (earlier : List Variable) → Leads (ident d earlier)
  unfolding ident
  ident_leads earlier n =
      then _ (statement_leads VARIABLE some_bytes n) (λ u n. then _ (number_leads n) (λ a. judged_leads _ _))

  type_leads : Leads (type d)
  unfolding type
  type_leads n =
      then _ (statement_leads TYPE some_bytes n)
      (λ u n. then _ (gap_leads n)
      (λ u. either_leads SINGLE some_bytes _ _ here_ends
      (either_leads MULTIPLE some_bytes _ _ here_ends
      (either_leads QUANTITY some_bytes _ _ here_ends
      (either_leads CHARACTER some_bytes _ _ here_ends
      (either_leads LOGICAL some_bytes _ _ here_ends (λ m. stops)))))))

  -- ---- VALUES
  module _ (quantity : Bool) (before : ℕ) where
    end_leads : (b : Block) → Leads (end_values d b)
    end_leads b n = then _ (word_leads VALUES some_bytes n) (λ a. here_ends)

    line_leads : (b : Block) (a : Amount) → Leads (line d quantity before b a)
    unfolding line
    line_leads b a n =
        then _ (string_leads n) (λ t n. then _ (whether_leads SPECIAL some_bytes n) (λ s. judged_leads _ _))

    listed_leads : (s : Listing) → Leads (listed d quantity before s)
    unfolding listed
    listed_leads s n =
        then _ (line_leads s.block s.next n)
        (λ l n. then _ (notes_leads n)
        (λ u. either_leads END some_bytes _ _
        (λ n. then _ (end_leads _ n) (λ b. here_ends)) (λ n. then _ (amount_leads n) (λ a. here_ends))))

    lines_leads : (b : Block) (a : Amount) → Leads (lines d quantity before b a)
    lines_leads b a = repeat_leads (listed d quantity before) listed_leads 4097 (listing b a)

    range_leads : (a b : Amount) → Leads (range d quantity before a b)
    unfolding range
    range_leads a b n =
        then _ (whether_leads WITH some_bytes n)
        (λ w n. then _ (judged_leads _ _ n) (λ r n. then _ (notes_leads n) (λ u. by w r)))
      where
        by : (w : Bool) (r : Range)
            → Leads (cond {A = Reader Block} w (λ n. bind (amount d n) (lines d quantity before (unlisted (some r))))
            (λ n. bind (here d END n) λ a. end_values d (unlisted (some r))))
        by true r n = then _ (amount_leads n) (λ a. lines_leads (unlisted (some r)) a)
        by false r n = then _ (here_leads END some_bytes n) (λ a. end_leads (unlisted (some r)))

    or_leads : (a : Amount) (b : Option Amount) → Leads (range_or d quantity before a b)
    or_leads a none = lines_leads (unlisted none) a
    or_leads a (some b) = range_leads a b

    values_leads : Leads (values d quantity before)
    unfolding values
    values_leads n =
        then _ (statement_leads VALUES some_bytes n)
        (λ u n. then _ (notes_leads n)
        (λ u n. then _ (amount_leads n) (λ a n. then _ (optional_leads TO some_bytes (value d) value_leads n) (λ b. or_leads a b))))

  content_leads : (p : Position) (before : ℕ) (s : Sort) → Leads (content d p before s)
  content_leads p before Single n = then _ (values_leads false before n) (λ b. here_ends)
  content_leads p before Multiple n =
      then _ (notes_leads n)
      (λ u n. then _
      (either_leads SPREAD some_bytes _ _ (λ n. then _ (spread_leads _ n) (λ s. here_ends)) here_ends n)
      (λ s n. then _ (values_leads false before n) (λ b. here_ends)))
  content_leads p before Quantity n = then _ (values_leads true before n) (λ b. here_ends)
  content_leads p before Character n = then _ (size_leads n) (λ b. here_ends)
  content_leads p before Logical n = here_ends n

  -- ---- a variable: its name stands behind n, and it ends behind its name
  data Kept (name : KeptText) (n : ℕ) : Result Variable → Type 0 where
    kept : {v : Variable} {m : ℕ} → v.name ≡ name → n ≤ m → Kept name n (Is v m)
    lost : {f : Fault} → Kept name n (Not f)

  keep : {A : Type 0} {name : KeptText} {n : ℕ} {r : Result A} (k : A → Reader Variable) → After n r
      → ((a : A) (m : ℕ) → Kept name m (k a m)) → Kept name n (bind r k)
  keep {name = name} {n = n} k (ends {a = a} {m = m} h) f = by (f a m) where
    by : {r : Result Variable} → Kept name m r → Kept name n r
    by (kept {m = o} e g) = let i : n ≤ o = omega arith in kept e i
    by lost = lost
  keep k stops f = lost

  held_kept : (v : Variable) (n : ℕ) → Kept v.name n (held v n)
  held_kept v n = by (judged_view _ v n) where
    by : {l : List Charge} {r : Result Variable} → Judged l v n r → Kept v.name n r
    by (fine c) = let h : n ≤ n = omega arith in kept refl h
    by faulty = lost

  pub data Named (n : ℕ) : Result Variable → Type 0 where
    named : {v : Variable} {m : ℕ} → n < v.name.place → v.name.place ≤ m → Named n (Is v m)
    nameless : {f : Fault} → Named n (Not f)

  -- what follows the name
  abbrev rest : List Variable → Figure → KeptText → Reader Variable
  rest earlier x name i =
      bind (phrase d LABEL i) λ label i. bind (type d i) λ s i. bind (position d i) λ p i.
      bind (content d p (lines_all earlier) s i) λ c i. bind (statement d END i) λ a i. bind (word d VARIABLE i) λ a. held
      (variable_of x name label p c)

  rest_kept : (earlier : List Variable) (x : Figure) (name : KeptText) (i : ℕ) → Kept name i (rest earlier x name i)
  rest_kept earlier x name i =
      keep _ (text_leads (phrase_stands LABEL some_bytes i))
      (λ label i. keep _ (type_leads i)
      (λ s i. keep _ (position_leads i)
      (λ p i. keep _ (content_leads p (lines_all earlier) s i)
      (λ c i. keep _ (statement_leads END some_bytes i)
      (λ u i. keep _ (word_leads VARIABLE some_bytes i) (λ u i. held_kept (variable_of x name label p c) i))))))

  at_rest : {i k : ℕ} {name : KeptText} {r : Result Variable} → i < name.place → name.place ≤ k → Kept name k r → Named i r
  at_rest {i} {k} {name} g h (kept {v = v} {m = m} e o) =
      let p : i < v.name.place = rw e g in
      let q : v.name.place ≤ m = rw e (omega arith) in
      named p q
  at_rest g h lost = nameless

  named_later : {i k : ℕ} {r : Result Variable} → i ≤ k → Named k r → Named i r
  named_later {i} h (named {v = v} g o) = let j : i < v.name.place = omega arith in named j o
  named_later h nameless = nameless

  pub variable_named : (earlier : List Variable) (n : ℕ) → Named n (variable d earlier n)
  unfolding variable
  variable_named earlier n = at_ident (ident_leads earlier n) where
    at_name : (x : Figure) {i : ℕ} {r : Result KeptText} → Stands i r → Named i (bind r (rest earlier x))
    at_name x (stands {t = t} {m = m} g h) = at_rest g h (rest_kept earlier x t m)
    at_name x none_there = nameless

    at_ident : {r : Result Figure} → After n r → Named n (bind r λ x i. bind (phrase d NAME i) (rest earlier x))
    at_ident (ends {a = x} {m = i} h) = named_later h (at_name x (phrase_stands NAME some_bytes i))
    at_ident stops = nameless
