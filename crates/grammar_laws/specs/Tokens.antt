-- Tokens, notes and a statement's word: what the rule answers is what the grammar has, a derivation or where it stops, both ways.
use Rattle.std.specs.Prelude.{◌≡◌, refl, Bool, true, false, cond, ℕ, ◌+◌, eqb, length, Ok, Err}
use Rattle.std.proofs.Math.Path.{sym}
use Rattle.std.proofs.Common.{◌∙◌, ap, arith}
use mathlib.Core.List.{List, [], ◌∷◌}
use Rattle.std.proofs.Math.Option.{Option, none, some}
use borrow.Author.Tests.{ne_eqb, eqb-true, eqb-false}
use Rattle.ascii.specs.rule.Class.{class_of}
use Rattle.scan.specs.rule.Text.{stop, sign, text}
use Rattle.scan.specs.rule.Text as scan
use Rattle.scan.specs.rule.Number.{is_digit, is_value, run_of, run_bytes}
use Rattle.scan.specs.rule.Word.{word_at}
use Rattle.scan.specs.Word.{capitals}
use Rattle.scan.specs.declared.Word.{Word}
use Rattle.scan.specs.declared.Word.TheVariants as spelled
use Rattle.scan.proofs.Keywords.{word_exactly}
use Rattle.marks.specs.declared.Inside.TheVariants.{Plain}
use Rattle.marks.specs.declared.Skip.{Skip}
use Rattle.marks.specs.declared.Skip.TheVariants.{Past, Unclosed, Bad}
use Rattle.marks.specs.rule.Marks.{string_of}
use Rattle.marks.proofs.Complete.{string_complete}
use Rattle.marks.proofs.Spellings.{string_exactly}
use Rattle.marks.proofs.Endings.{bad_at_exactly, unclosed_exactly}
use Rattle.tokens.specs.declared.Fault.{Fault}
use Rattle.tokens.specs.rule.Gap.{fault, gap_at, OrFault}
use Rattle.token_laws.specs.Gaps.{gap_exactly}
use Rattle.survey.specs.rule.Survey.{Figure, Amount, KeptText}
use Rattle.reading.specs.rule.Result.{Result, Is, Not, Reader, bind, give}
use Rattle.reading.specs.rule.Token.{amount_read, closed, quoted, letter_in, passed, on_word, gap, either, here, word, optional, whether}
use Rattle.reading.specs.rule.Token.{figure, number, amount, value, string, letter}
use Rattle.bridge.specs.Lowest.{never}
use Rattle.grammar.specs.Token.{Gap, Here, NoWord, Keyword, keyword, Run, more, other, end, figure_of, Number, Value, String, Letter}
use Rattle.grammar.specs.Token.{Optional, Whether, yes, no}
use Rattle.grammar.specs.Token as token
use Rattle.grammar.specs.Refusal.{Due, due, inside, behind, only, Or, Never, GapStops, HereStops, WordStops, NumberStops}
use Rattle.grammar.specs.Refusal.{ValueStops, QuoteStops, StringStops, NoLetter, LetterStops, OptionalStops, GapValue, gap_value}
use Rattle.grammar.specs.Refusal.{GapValueStops}
use Rattle.grammar.specs.Refusal as refusal
use Rattle.grammar_laws.specs.Views.{View, reads, halts, recast, then, no_word, word_at_lem, word_not, either_view, then_halted}
use Rattle.grammar_laws.specs.Places.{Stood, byte, gap_stood, gap_there}
use Rattle.grammar_laws.specs.Places as places

-- ---- runs: THE LONGEST, both ways
pub run_there : {f : ℕ → Bool} {n m : ℕ} {t : scan.Text} {s : List ℕ} → Run f n t s m → (run_of f n t ≡ m) × (run_bytes f t ≡ s)
unfolding run_of run_bytes
run_there (more {b = b} e r) = let c = run_there r in (rw e c.0, rw e (ap (λ (x : List ℕ). b ∷ x) c.1))
run_there (other e) = (rw e, rw e)
run_there end = (refl, refl)

pub run_read : (f : ℕ → Bool) (n : ℕ) (t : scan.Text) → Run f n t (run_bytes f t) (run_of f n t)
unfolding run_of run_bytes
run_read f n (stop p) = end
run_read f n (sign p b t) = by (f b) refl (run_read f (p + 1) t) where
  by : (q : Bool) → f b ≡ q → Run f (p + 1) t (run_bytes f t) (run_of f (p + 1) t)
      → Run f n (sign p b t) (cond q (b ∷ run_bytes f t) []) (cond q (run_of f (p + 1) t) n)
  by true e r = more e r
  by false e r = other e

run_none : {f : ℕ → Bool} {n m : ℕ} {t : scan.Text} → Run f n t [] m → m ≡ n
run_none (other e) = refl
run_none end = refl

some_bytes : (b : ℕ) (s : List ℕ) → eqb (length (b ∷ s)) 0 ≡ false
some_bytes b s = ne_eqb (length (b ∷ s)) 0 (λ e. omega arith)

module _ (d : List ℕ) where
  -- ---- gaps
  pub gap_view : (n : ℕ) → View (only (Gap d n)) (GapStops d n) (gap d n)
  gap_view n = by (gap_at d n) refl where
    by : (t : OrFault ℕ) → gap_at d n ≡ t → View (only (Gap d n)) (GapStops d n) (passed t)
    by (Ok m) e = reads ((gap_exactly d n (Ok m)).0 e)
    by (Err f) e = halts ((gap_exactly d n (Err f)).0 e)

  pub gap_is : {n m : ℕ} → Gap d n m → gap d n ≡ Is tt m
  gap_is g = rw (gap_there d g)

  pub gap_not : {n : ℕ} {f : Fault} → GapStops d n f → gap d n ≡ Not f
  gap_not {n} {f} g = rw ((gap_exactly d n (Err f)).1 g)

  -- ---- words
  module _ {w : List ℕ} (c : capitals w ≡ true) where
    pub here_view : (n : ℕ) → View (only (Here d w n)) (HereStops d w n) (here d w n)
    here_view n = by (either_view d c {S = λ m. Never} {T = Due (NoWord d w n) n} n (λ m. Is tt m) (λ m. Not (fault 2 m)) (λ m h. reads h)
        (λ h. halts (due h))) where
          by : {r : Result Unit} → View (only (Here d w n)) (Or d w n (λ m. Never) (Due (NoWord d w n) n)) r
              → View (only (Here d w n)) (HereStops d w n) r
          by (reads h) = reads h
          by (halts (refusal.stands h z)) = absurd z
          by (halts (refusal.absent h z)) = halts z

    pub here_is : {n m : ℕ} → Here d w n m → here d w n ≡ Is tt m
    here_is h = rw (word_at_lem d c h)

    pub here_not : {n : ℕ} {f : Fault} → HereStops d w n f → here d w n ≡ Not f
    here_not (due h) = rw (word_not d c h)

    pub word_view : (n : ℕ) → View (only (Keyword d w n)) (WordStops d w n) (word d w n)
    word_view n = then (gap_view n) (λ u m g. recast (λ u o h. keyword g h) (λ f z. z) (here_view m))

    pub word_is : {n m : ℕ} → Keyword d w n m → word d w n ≡ Is tt m
    word_is (keyword g h) = rw (gap_there d g, word_at_lem d c h)

    pub word_halted : (n : ℕ) {f : Fault} → WordStops d w n f → word d w n ≡ Not f
    word_halted n = then_halted (gap d n) (λ u. here d w) (λ f. gap_not) (λ u m. gap_is) (λ u m f. here_not)

  -- ---- numbers
  pub number_view : (n : ℕ) → View (Number d n) (NumberStops d n) (number d n)
  unfolding figure
  number_view n = then (gap_view n) (λ u m g. on m g (run_bytes is_digit (text d m)) (run_of is_digit m (text d m))
      (run_read is_digit m (text d
      m))) where
        on : (m : ℕ) → Gap d n m → (s : List ℕ) (e : ℕ) → Run is_digit m (text d m) s e
            → View (Number d n) (Due (Run is_digit m (text d m) [] m) m)
            (cond (eqb (length s) 0) (Not (fault 2 m)) (Is (figure_of m e s) e))
        on m g [] e r = let q = run_none r in halts (due (rw q at r))
        on m g (b ∷ s) e r = rw (some_bytes b s) (reads (token.number g r))

  pub number_is : {n m : ℕ} {x : Figure} → Number d n x m → number d n ≡ Is x m
  unfolding figure
  number_is (token.number {b = b} {s = s} g r) = let c = run_there r in rw (gap_there d g, c.0, c.1, some_bytes b s)

  pub number_halted : (n : ℕ) {f : Fault} → NumberStops d n f → number d n ≡ Not f
  unfolding figure
  number_halted n = then_halted (gap d n) (λ u. figure d) (λ f. gap_not) (λ u m. gap_is) (λ u m f. on) where
    on : {m : ℕ} {f : Fault} → Due (Run is_digit m (text d m) [] m) m f → figure d m ≡ Not f
    on (due r) = rw (run_there r).1

  -- ---- values
  pub amount_view : (n : ℕ) → View (Value d n) (ValueStops d n) (amount d n)
  unfolding amount
  amount_view n = on (run_bytes is_value (text d n)) (run_of is_value n (text d n)) (run_read is_value n (text d n)) where
    on : (s : List ℕ) (e : ℕ) → Run is_value n (text d n) s e
        → View (Value d n) (ValueStops d n) (cond (eqb (length s) 0) (Not (fault 2 n)) (Is (amount_read n e s) e))
    on [] e r = let q = run_none r in halts (due (rw q at r))
    on (b ∷ s) e r = rw (some_bytes b s) (reads (token.value r))

  pub amount_is : {n m : ℕ} {a : Amount} → Value d n a m → amount d n ≡ Is a m
  unfolding amount
  amount_is (token.value {b = b} {s = s} r) = let c = run_there r in rw (c.0, c.1, some_bytes b s)

  pub amount_not : {n : ℕ} {f : Fault} → ValueStops d n f → amount d n ≡ Not f
  unfolding amount
  amount_not (due r) = rw (run_there r).1

  pub value_view : (n : ℕ) → View (GapValue d n) (GapValueStops d n) (value d n)
  value_view n = then (gap_view n) (λ u m g. recast (λ a o v. gap_value g v) (λ f z. z) (amount_view m))

  pub value_is : {n m : ℕ} {a : Amount} → GapValue d n a m → value d n ≡ Is a m
  value_is (gap_value g v) = rw (gap_there d g) (amount_is v)

  pub value_halted : (n : ℕ) {f : Fault} → GapValueStops d n f → value d n ≡ Not f
  value_halted n = then_halted (gap d n) (λ u. amount d) (λ f. gap_not) (λ u m. gap_is) (λ u m f. amount_not)

  -- ---- strings
  pub string_view : (n : ℕ) → View (String d n) (StringStops d n) (string d n)
  unfolding quoted
  string_view n = then (gap_view n) (λ u m g. stood m g (gap_stood d g)) where
    closes : (m p : ℕ) → Gap d n m → text d m ≡ sign p 34 (text d (p + 1)) → (k : Skip) → string_of Plain (text d (p + 1)) ≡ k
        → View (String d n) (QuoteStops d m) (closed p k)
    closes m p g e (Past o) h = reads (token.string g e ((string_exactly (text d (p + 1)) o).0 h))
    closes m p g e Unclosed h = halts (refusal.unclosed e ((unclosed_exactly (text d (p + 1))).0 h))
    closes m p g e (Bad o) h = halts (refusal.bad e ((bad_at_exactly d (p + 1) o).0 h))

    no_quote : (m b : ℕ) → text d m ≡ sign m b (text d (m + 1)) → (b ≡ 34 → ⊥) → (p : ℕ) → text d m ≡ sign p 34 (text d (p + 1)) → ⊥
    no_quote m b e f p q = let h = sym e ∙ q in let i : b ≡ 34 = cc in f i

    first : (m b : ℕ) → Gap d n m → text d m ≡ sign m b (text d (m + 1)) → (q : Bool) → eqb b 34 ≡ q
        → View (String d n) (QuoteStops d m) (cond q (closed m (string_of Plain (text d (m + 1)))) (Not (fault 2 m)))
    first m b g e true f = let i = eqb-true b 34 f in closes m m g (rw i at e) (string_of Plain (text d (m + 1))) refl
    first m b g e false f = halts (refusal.other (no_quote m b e (eqb-false b 34 f)))

    stood : (m : ℕ) → Gap d n m → Stood d m → View (String d n) (QuoteStops d m) (quoted (text d m))
    stood m g (byte {b = b} e f h) = rw e (first m b g e (eqb b 34) refl)
    stood m g (places.end e) = rw e (halts (refusal.other (λ p q. let h = sym e ∙ q in never cc)))

  pub string_is : {n m : ℕ} {t : KeptText} → String d n t m → string d n ≡ Is t m
  unfolding quoted
  string_is (token.string g e s) = rw (gap_there d g, e, string_complete s)

  quote_not : {n m : ℕ} {f : Fault} → Gap d n m → QuoteStops d m f → quoted (text d m) ≡ Not f
  unfolding quoted
  quote_not g (refusal.unclosed {p = p} e z) = rw (e, (unclosed_exactly (text d (p + 1))).1 z)
  quote_not g (refusal.bad {p = p} {o = o} e z) = rw (e, (bad_at_exactly d (p + 1) o).1 z)
  quote_not g (refusal.other z) = by (gap_stood d g) z where
    by : {m : ℕ} → Stood d m → ((p : ℕ) → text d m ≡ sign p 34 (text d (p + 1)) → ⊥) → quoted (text d m) ≡ Not (fault 2 m)
    by {m} (byte {b = b} e f h) z = rw (e, ne_eqb b 34 (λ i. z m (rw i at e)))
    by (places.end e) z = rw e

  pub string_halted : (n : ℕ) {f : Fault} → StringStops d n f → string d n ≡ Not f
  string_halted n (inside z) = rw (gap_not z)
  string_halted n (behind g z) = rw (gap_there d g) (quote_not g z)

  -- ---- a letter
  pub letter_view : (n : ℕ) → View (Letter d n) (LetterStops d n) (letter d n)
  unfolding letter_in
  letter_view n = then (gap_view n) (λ u m g. stood m g (gap_stood d g)) where
    no_letter : (m b : ℕ) → text d m ≡ sign m b (text d (m + 1)) → (class_of b ≡ 3 → ⊥) → NoLetter d m
    no_letter m b e f p c q h = let i = sym e ∙ q in let j : c ≡ b = cc in f (rw j at h)

    first : (m b : ℕ) → Gap d n m → text d m ≡ sign m b (text d (m + 1)) → (q : Bool) → eqb (class_of b) 3 ≡ q
        → View (Letter d n) (Due (NoLetter d m) m) (cond q (Is b (m + 1)) (Not (fault 2 m)))
    first m b g e true f = reads (token.letter g e (eqb-true (class_of b) 3 f))
    first m b g e false f = halts (due (no_letter m b e (eqb-false (class_of b) 3 f)))

    stood : (m : ℕ) → Gap d n m → Stood d m → View (Letter d n) (Due (NoLetter d m) m) (letter_in (text d m))
    stood m g (byte {b = b} e f h) =
        let q : letter_in (text d m) ≡ cond (eqb (class_of b) 3) (Is b (m + 1)) (Not (fault 2 m)) = rw e in
        rw q (first m b g e (eqb (class_of b) 3) refl)
    stood m g (places.end e) =
        let q : letter_in (text d m) ≡ Not (fault 2 m) = rw e in
        let z : NoLetter d m = λ p b q h. let i = sym e ∙ q in never cc in
        rw q (halts (due z))

  pub letter_is : {n m b : ℕ} → Letter d n b m → letter d n ≡ Is b m
  unfolding letter_in
  letter_is (token.letter g e c) = rw (gap_there d g, e, c)

  letter_not : {n m : ℕ} {f : Fault} → Gap d n m → Due (NoLetter d m) m f → letter_in (text d m) ≡ Not f
  unfolding letter_in
  letter_not g (due z) = by (gap_stood d g) z where
    by : {m : ℕ} → Stood d m → NoLetter d m → letter_in (text d m) ≡ Not (fault 2 m)
    by {m} (byte {b = b} e f h) z = rw (e, ne_eqb (class_of b) 3 (z m b e))
    by (places.end e) z = rw e

  pub letter_halted : (n : ℕ) {f : Fault} → LetterStops d n f → letter d n ≡ Not f
  letter_halted n (inside z) = rw (gap_not z)
  letter_halted n (behind g z) = rw (gap_there d g) (letter_not g z)

  -- ---- optional words
  pub whether_not : (w : List ℕ) {n : ℕ} {f : Fault} → GapStops d n f → whether d w n ≡ Not f
  whether_not w z = rw (gap_not z)

  module _ {w : List ℕ} (c : capitals w ≡ true) where
    pub whether_view : (n : ℕ) → View (Whether d w n) (GapStops d n) (whether d w n)
    whether_view n = by (gap_view n) where
      on : (m : ℕ) → Gap d n m → (x : Word) → word_at d m w ≡ x → View (Whether d w n) (GapStops d n) (on_word (give true) (give false) m x)
      on m g (spelled.Matched o) e = reads (yes (keyword g ((word_exactly d m o w c).0 e)))
      on m g spelled.Not e = reads (no g (no_word d c e))

      by : {r : Result Unit} → View (only (Gap d n)) (GapStops d n) r
          → View (Whether d w n) (GapStops d n) (bind r λ a. either d w (give true) (give false))
      by (reads {m = m} g) = on m g (word_at d m w) refl
      by (halts z) = halts z

    pub whether_is : {n m : ℕ} {q : Bool} → Whether d w n q m → whether d w n ≡ Is q m
    whether_is (yes (keyword g h)) = rw (gap_there d g, word_at_lem d c h)
    whether_is (no g h) = rw (gap_there d g, word_not d c h)

    module _ {A : Type 0} (p : Reader A) where
      pub optional_view : {P : ℕ → A → ℕ → Type 0} {S : ℕ → Fault → Type 0} → ((n : ℕ) → View (P n) (S n) (p n)) → (n : ℕ)
          → View (Optional d w P n) (OptionalStops d w S n) (optional d w p n)
      optional_view {P} {S} v n = then (gap_view n) (λ u m g. either_view d c m (λ n. bind (p n) λ a o. Is (some a) o) (λ o. Is none o)
          (λ k h. on m k g h (v k)) (λ h. reads (token.absent g h))) where
            on : (m k : ℕ) → Gap d n m → Here d w m k → {r : Result A} → View (P k) (S k) r
                → View (Optional d w P n) (S k) (bind r λ a o. Is (some a) o)
            on m k g h (reads x) = reads (token.given (keyword g h) x)
            on m k g h (halts z) = halts z

      pub optional_is : {P : ℕ → A → ℕ → Type 0} → ((n m : ℕ) (a : A) → P n a m → p n ≡ Is a m) → {n m : ℕ} {o : Option A}
          → Optional d w P n o m → optional d w p n ≡ Is o m
      optional_is v (token.given {k = k} {m = m} {a = a} (keyword g h) x) = rw (gap_there d g, word_at_lem d c h, v k m a x)
      optional_is v (token.absent g h) = rw (gap_there d g, word_not d c h)

      pub optional_halted : {S : ℕ → Fault → Type 0} → ((n : ℕ) (f : Fault) → S n f → p n ≡ Not f) → (n : ℕ) {f : Fault}
          → OptionalStops d w S n f → optional d w p n ≡ Not f
      optional_halted v n (inside z) = rw (gap_not z)
      optional_halted v n {f} (behind g (refusal.stands {m = m} h z)) = rw (gap_there d g, word_at_lem d c h, v m f z)
      optional_halted v n (behind g (refusal.absent h z)) = absurd z
