-- VALUES whole: the range, WITH, the lines, END VALUES, both ways.
use Rattle.std.specs.Prelude.{◌≡◌, Bool, ℕ}
use Rattle.std.proofs.Math.Path.{refl}
use Rattle.std.proofs.Math.Bool.{true, false, cond}
use mathlib.Core.List.{List, [], ◌∷◌}
use Rattle.std.proofs.Math.Option.{Option, none, some}
use Rattle.std.proofs.Common.{arith}
use Rattle.scan.specs.Word.{capitals}
use Rattle.tokens.specs.declared.Fault.{Fault}
use Rattle.statements.specs.rule.Words.{NOTE, END, VALUES, TO, WITH}
use Rattle.survey.specs.rule.Survey.{Amount, Range, Block}
use Rattle.survey.specs.rule.Survey as says
use Rattle.reading.specs.rule.Result.{Result, Is, Not, Reader, bind}
use Rattle.reading.specs.rule.Least.{named, judged}
use Rattle.reading.specs.rule.Token.{here, optional, amount, value}
use Rattle.reading.specs.rule.Statement.{notes}
use Rattle.reading.specs.rule.Values.{range_charges, unlisted, range_from, end_values, lines, range, range_or, values}
use Rattle.grammar.specs.Token.{Gap, Here, NoWord, Keyword, Value, Notes, Statement, End, Optional, Whether}
use Rattle.grammar.specs.Token as token
use Rattle.grammar.specs.Grammar.{Lines, Bounds}
use Rattle.grammar.specs.Grammar as grammar
use Rattle.grammar.specs.Faults.{Clean, line_faults}
use Rattle.grammar.specs.Refusal.{Then, only, Noted, noted, GapValue, gap_value, RangeGood, good, RangeStops}
use Rattle.grammar.specs.Refusal.{WithStops, RangeOrStops, ValuesStops, ValuesRead, sound, NotesStops}
use Rattle.grammar.specs.Refusal as refusal
use Rattle.grammar_laws.specs.Views.{View, reads, halts, recast, then, word_at_lem, then_halted, judge, judged_there, judged_halted}
use Rattle.grammar_laws.specs.Views.{clean_both, clean_left, clean_right}
use Rattle.grammar_laws.specs.Places.{differ, other_word}
use Rattle.grammar_laws.specs.Tokens.{here_view, here_is, here_not, word_view, word_is, word_halted, amount_view, amount_is}
use Rattle.grammar_laws.specs.Tokens.{amount_not}
use Rattle.grammar_laws.specs.Tokens.{value_view, value_is, value_halted, whether_view, whether_is, whether_not, optional_view}
use Rattle.grammar_laws.specs.Tokens.{optional_is, optional_halted}
use Rattle.grammar_laws.specs.Notes.{note_capitals, notes_view, notes_is, notes_halted, statement_view, statement_is}
use Rattle.grammar_laws.specs.Notes.{statement_halted}
use Rattle.grammar_laws.specs.Lines.{lines_of_lem, Headed, headed, lines_headed, tail_back, Fore, fore, tail_fore}
use Rattle.grammar_laws.specs.Lines.{value_no_word, quote_no_word, LinesRead, lines_read, lines_view, lines_is, lines_halted}

module _ (d : List ℕ) (quantity : Bool) (before : ℕ) where
  abbrev block : Option Range → List says.Line → Block
  block r l = record { range = r; lines = l }

  -- ---- behind `a TO b`
  pub data RangeRead (a b : Amount) (n : ℕ) : Block → ℕ → Type 0 where
    closed : {k m : ℕ} → Whether d WITH n false k → End d VALUES k m → Clean (range_charges quantity a b)
        → RangeRead a b n (block (some (range_from a b)) []) m
    onward : {k m : ℕ} {l : List says.Line} → Whether d WITH n true k → Lines d k l m → Clean (range_charges quantity a b)
        → Clean (line_faults quantity before (unlisted (some (range_from a b))) l) → RangeRead a b n (block (some (range_from a b)) l) m

  with_view : (a b : Amount) {n k m : ℕ} (w : Bool) → Whether d WITH n w k → Clean (range_charges quantity a b) → Noted d k m
      → View (RangeRead a b n) (WithStops d quantity before w (range_from a b) m)
      (cond {A = Reader Block} w (λ n. bind (amount d n) (lines d quantity before (unlisted (some (range_from a b)))))
      (λ n. bind (here d END n) λ u. end_values d (unlisted (some (range_from a b)))) m)
  unfolding capitals
  with_view a b {n} {m = m} true w c (noted s o) =
      then (amount_view d m) λ x j v. recast (λ e i. on v) (λ f z. z) (lines_view d quantity before (unlisted (some (range_from a b))) x j)
    where
      on : {x : Amount} {j i : ℕ} {e : Block} → Value d m x j → LinesRead d quantity before (unlisted (some (range_from a b))) x j e i
          → RangeRead a b n e i
      on v (lines_read r z) = onward w (lines_of_lem d s v r) c z
  with_view a b {n} {m = m} false w c (noted s o) =
      then (here_view d {w = END} refl m) λ u j h. on h (word_view d {w = VALUES} refl j) where
        on : {j : ℕ} → Here d END m j → {r : Result Unit} → View (only (Keyword d VALUES j)) (refusal.WordStops d VALUES j) r
            → View (RangeRead a b n) (refusal.WordStops d VALUES j) (bind r λ u m. Is (unlisted (some (range_from a b))) m)
        on h (reads v) = reads (closed w (token.end (token.statement s h) v) c)
        on h (halts z) = halts z

  pub range_view : (a b : Amount) (n : ℕ) → View (RangeRead a b n) (RangeStops d quantity before a b n) (range d quantity before a b n)
  unfolding range capitals
  range_view a b n =
      then (whether_view d {w = WITH} refl n) λ w k x.
      then (judge (range_charges quantity a b) (range_from a b) k good) λ r j g.
      on w x g where
        on : (w : Bool) {k j : ℕ} {r : Range} → Whether d WITH n w k → RangeGood d quantity before a b k r j
            → View (RangeRead a b n) (Then (NotesStops d j) (only (Noted d j)) λ u. WithStops d quantity before w r)
            (bind (notes d j) λ u. cond w (λ n. bind (amount d n) (lines d quantity before (unlisted (some r))))
            (λ n. bind (here d END n) λ u. end_values d (unlisted (some r))))
        on w {k} x (good c) = then (notes_view d k) λ u m s. with_view a b w x c s

  closed_is : (r : Range) {n m : ℕ} → End d VALUES n m
      → bind (notes d n) (λ u n. bind (here d END n) λ u. end_values d (unlisted (some r))) ≡ Is (unlisted (some r)) m
  unfolding capitals differ
  closed_is r (token.end (token.statement s h) v) =
      rw (
        notes_is d (noted s (other_word d {w = END} refl note_capitals refl h)),
        word_at_lem d {w = END} refl h,
        word_is d {w = VALUES} refl
            v,
      )

  onward_is : (r : Range) {n m : ℕ} {l : List says.Line} → Headed d n l m → Clean (line_faults quantity before (unlisted (some r)) l)
      → bind (notes d n) (λ u n. bind (amount d n) (lines d quantity before (unlisted (some r)))) ≡ Is (block (some r) l) m
  onward_is r (headed s v t) c =
      rw (notes_is d (noted s (value_no_word d 78 (79 ∷ 84 ∷ 69 ∷ []) (omega arith) v)), amount_is d v)
      (lines_is d quantity before (unlisted (some r)) t c)

  pub range_is : (a b : Amount) {n m : ℕ} {e : Block} → RangeRead a b n e m → range d quantity before a b n ≡ Is e m
  unfolding range capitals
  range_is a b (closed {k = k} w e c) =
      rw (whether_is d {w = WITH} refl w, judged_there (range_charges quantity a b) (range_from a b) k c)
      (closed_is (range_from a b) e)
  range_is a b (onward {k = k} w l c z) =
      rw (whether_is d {w = WITH} refl w, judged_there (range_charges quantity a b) (range_from a b) k c)
      (onward_is (range_from a b) (lines_headed d l) z)

  with_halted : (w : Bool) (r : Range) (n : ℕ) {f : Fault} → WithStops d quantity before w r n f
      → cond {A = Reader Block} w (λ n. bind (amount d n) (lines d quantity before (unlisted (some r))))
      (λ n. bind (here d END n) λ u. end_values d (unlisted (some r))) n ≡ Not f
  unfolding capitals
  with_halted true r n = then_halted _ _ (λ f. amount_not d) (λ a m. amount_is d) λ a m f. lines_halted d quantity before (unlisted (some
      r)) a m
  with_halted false r n = then_halted _ _ (λ f. here_not d {w = END} refl) (λ u m. here_is d {w = END} refl) λ u m f z.
      rw (word_halted d {w = VALUES} refl m z)

  good_is : (a b : Amount) {n m : ℕ} {r : Range} → RangeGood d quantity before a b n r m
      → judged (range_charges quantity a b) (range_from a b) n ≡ Is r m
  good_is a b {n} (good c) = judged_there (range_charges quantity a b) (range_from a b) n c

  pub range_halted : (a b : Amount) (n : ℕ) {f : Fault} → RangeStops d quantity before a b n f → range d quantity before a b n ≡ Not f
  unfolding range capitals
  range_halted a b n =
      then_halted _ _ (λ f. whether_not d WITH) (λ w m. whether_is d {w = WITH} refl) λ w k f.
      then_halted _ _ (λ f. judged_halted (range_charges quantity a b) (range_from a b) k) (λ r m. good_is a b) λ r m f.
      then_halted _ _ (λ f. notes_halted d m) (λ u j. notes_is d) λ u j f. with_halted w r j

  -- ---- the whole
  listed_of : {n k j i h m : ℕ} {a : Amount} {e : Block} → Statement d VALUES n k → Notes d k j → Value d j a i → Gap d i h
      → LinesRead d quantity before (unlisted none) a h e m → ValuesRead d quantity before n e m
  listed_of s r v g (lines_read t c) = sound (grammar.listed s (lines_of_lem d r v (tail_back d g t))) c

  ranged_of_lem : {n k j i h g m : ℕ} {a b : Amount} {e : Block} → Statement d VALUES n k → Notes d k j → Value d j a i → Keyword d TO i h
      → GapValue d h b g → RangeRead a b g e m → ValuesRead d quantity before n e m
  unfolding line_faults named
  ranged_of_lem {a = a} {b = b} s r v w (gap_value g u) (closed x e c) =
      sound (grammar.ranged s (grammar.bounds r v w g u) x e) (clean_both (range_charges quantity a b) [] c refl)
  ranged_of_lem {a = a} {b = b} s r v w (gap_value g u) (onward {l = l} x e c z) =
      sound (grammar.both s (grammar.bounds r v w g u) x e)
      (clean_both (range_charges quantity a b) (line_faults quantity before (unlisted (some (range_from a b))) l) c z)

  behind_view : {n k j i h : ℕ} {a : Amount} {o : Option Amount} → Statement d VALUES n k → Notes d k j → Value d j a i
      → Optional d TO (GapValue d) i o h
      → View (ValuesRead d quantity before n) (RangeOrStops d quantity before a o h) (range_or d quantity before a o h)
  behind_view {h = h} {a = a} s r v (token.absent g o) =
      recast (λ e m. listed_of s r v g) (λ f z. z) (lines_view d quantity before (unlisted none) a h)
  behind_view {h = h} {a = a} s r v (token.given {a = b} w u) = recast (λ e m. ranged_of_lem s r v w u) (λ f z. z) (range_view a b h)

  pub values_view : (n : ℕ) → View (ValuesRead d quantity before n) (ValuesStops d quantity before n) (values d quantity before n)
  unfolding values capitals
  values_view n =
      then (statement_view d {w = VALUES} refl n) λ u k s.
      then (notes_view d k) λ u j r.
      then (amount_view d j) λ a i v.
      then (optional_view d {w = TO} refl (value d) (value_view d) i) λ o h x. on s r v x where
        on : {k j i h : ℕ} {a : Amount} {o : Option Amount} → Statement d VALUES n k → Noted d k j → Value d j a i
            → Optional d TO (GapValue d) i o h
            → View (ValuesRead d quantity before n) (RangeOrStops d quantity before a o h) (range_or d quantity before a o h)
        on s (noted r z) v x = behind_view s r v x

  value_not_note : {n m : ℕ} {a : Amount} → Value d n a m → NoWord d NOTE n
  value_not_note v = value_no_word d 78 (79 ∷ 84 ∷ 69 ∷ []) (omega arith) v

  to_or_not : {n m : ℕ} {o : Option Amount} → Optional d TO (GapValue d) n o m → optional d TO (value d) n ≡ Is o m
  unfolding capitals
  to_or_not x = optional_is d {w = TO} refl (value d) (λ n m a. value_is d) x

  listed_is : {n k j i m : ℕ} {a : Amount} {l : List says.Line} → Statement d VALUES n k → Notes d k j → Value d j a i → Fore d a i l m
      → Clean (line_faults quantity before (unlisted none) l) → values d quantity before n ≡ Is (block none l) m
  unfolding values capitals differ
  listed_is s r v (fore g e t) c =
      rw (
        statement_is d {w = VALUES} refl refl s,
        notes_is d (noted r (value_not_note v)),
        amount_is d v,
        to_or_not (token.absent g (quote_no_word d 84 (79 ∷ []) (omega arith) e)),
      ) (lines_is d quantity before (unlisted none) t c)

  ranged_is : {n k : ℕ} {a b : Amount} {j m : ℕ} {e : Block} → Statement d VALUES n k → Bounds d k (range_from a b) j → RangeRead a b j e m
      → values d quantity before n ≡ Is e m
  unfolding values capitals differ
  ranged_is {a = a} {b = b} s (grammar.bounds r v w g u) x =
      rw (
        statement_is d {w = VALUES} refl refl s,
        notes_is d (noted r (value_not_note v)),
        amount_is d v,
        to_or_not (token.given w (gap_value g u)),
      ) (range_is a b x)

  headed_is : {n k m : ℕ} {l : List says.Line} → Statement d VALUES n k → Headed d k l m
      → Clean (line_faults quantity before (unlisted none) l)
      → values d quantity before n ≡ Is (block none l) m
  headed_is s (headed r v t) c = listed_is s r v (tail_fore d t) c

  pub values_is : {n m : ℕ} {e : Block} → ValuesRead d quantity before n e m → values d quantity before n ≡ Is e m
  values_is (sound (grammar.listed s l) c) = headed_is s (lines_headed d l) c
  values_is (sound (grammar.ranged {r = r} s b w e) c) =
      ranged_is s b (closed w e (clean_left (range_charges quantity r.from r.to) _ c))
  values_is (sound (grammar.both {r = r} {l = l} s b w e) c) =
      let f = line_faults quantity before (unlisted (some r)) l in
      ranged_is s b (onward w e (clean_left (range_charges quantity r.from r.to) f c)
      (clean_right (range_charges quantity r.from r.to) f c))

  or_halted : (a : Amount) (o : Option Amount) (n : ℕ) {f : Fault} → RangeOrStops d quantity before a o n f
      → range_or d quantity before a o n ≡ Not f
  or_halted a none n = lines_halted d quantity before (unlisted none) a n
  or_halted a (some b) n = range_halted a b n

  pub values_halted : (n : ℕ) {f : Fault} → ValuesStops d quantity before n f → values d quantity before n ≡ Not f
  unfolding values capitals differ
  values_halted n =
      then_halted _ _ (λ f. statement_halted d {w = VALUES} refl n) (λ u m. statement_is d refl refl) λ u k f.
      then_halted _ _ (λ f. notes_halted d k) (λ u m. notes_is d) λ u j f.
      then_halted _ _ (λ f. amount_not d) (λ a m. amount_is d) λ a i f.
      then_halted _ _ (λ f. optional_halted d {w = TO} refl (value d) (λ n f. value_halted d n) i) (λ o m. to_or_not) λ o h f.
      or_halted a o h
