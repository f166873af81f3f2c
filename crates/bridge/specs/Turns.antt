-- THE TURNS OF A LOOP ARE ENOUGH: what is read again and again (`repeat`) is given a number of turns; more turns change nothing. A note and
-- a statement of the heading lead on in the file, so that its length bounds them; 4,096 lines and 512 variables bound the others.
use Rattle.std.specs.Prelude.{◌≡◌, Bool, true, false, cond, List, [], ◌∷◌, ◌++◌, Ok}
use Rattle.std.proofs.Math.Path.{refl}
use Rattle.std.proofs.Math.Option.{Option, none, some}
use Prim.Native.Nat.{ℕ, zero, suc, ◌+◌, ◌-◌, ◌≤◌, ◌<◌}
use native.Mathlib.Omega.{arith}
use Rattle.std.proofs.Math.ListN.{length}
use Rattle.std.proofs.Common.{length-append, leb-false}
use Rattle.scan.specs.rule.Loop.{Next, Again, Done}
use Rattle.scan.specs.rule.Word.{word_at}
use Rattle.scan.specs.declared.Word.{Word}
use Rattle.scan.specs.declared.Word.TheVariants as spelled
use Rattle.tokens.specs.declared.Fault.{Fault}
use Rattle.tokens.specs.declared.Choice.TheVariants.{Taken}
use Rattle.tokens.specs.rule.Gap.{fault}
use Rattle.tokens.specs.Gap.{left}
use Rattle.tokens.specs.Token.{choice_of, past_string}
use Rattle.tokens.proofs.Aheads.{taken_less, string_left, word_left}
use Rattle.statements.specs.Note.{past_note}
use Rattle.statements.proofs.Notes.{note_left, notes_left}
use Rattle.statements.specs.rule.Words.{TIME, ORIGIN, USER, NOTE, STANDARD, NAMES, SPECIAL, END, VALUES, VARIABLE, NAME, LABEL}
use Rattle.survey.specs.rule.Survey.{Figure, Amount, KeptText, Line, Block, Variable}
use Rattle.reading.specs.rule.Result.{Result, Is, Not, Reader, bind, turn, repeat}
use Rattle.reading.specs.rule.Least.{judged}
use Rattle.reading.specs.rule.Token.{on_word, gap, either, word, whether, number, amount, string}
use Rattle.survey.specs.rule.Table.{lines_all}
use Rattle.reading.specs.rule.Statement.{note, notes, statement, phrase, position}
use Rattle.reading.specs.rule.Values.{line_charges, Listing, listing, with_line, end_values, line, listed}
use Rattle.reading.specs.rule.Variable.{ident_charges, variable_of, held, ident, type, content, variable}
use Rattle.reading.specs.rule.Whole.{HeadingEntry, entry, given, texted, names, once, heading_entered, another_variable}
use Rattle.bridge.specs.Lowest.{never, clear, Judged, fine, faulty, judged_view}
use Rattle.bridge.specs.Tokens.{to_reading, string_on_lem, word_on_lem}
use Rattle.bridge.specs.Notes.{past_on, notes_on_lem}
use Rattle.bridge.specs.Blocks.{line_of}

-- where each turn that goes on lowers a measure, as many turns as it says are enough
module _ {S A : Type 0} (step : S → Reader (Next S A)) (μ : S → ℕ → ℕ)
    (less : (s t : S) (n m : ℕ) → step s n ≡ Is (Again t) m → μ t m < μ s n) where
  cases : (f g : ℕ) (s : S) (n : ℕ) (r : Result (Next S A)) → step s n ≡ r
      → ((t : S) (m : ℕ) → step s n ≡ Is (Again t) m → repeat f step t m ≡ repeat g step t m)
      → bind r (turn (repeat f step)) ≡ bind r (turn (repeat g step))
  cases f g s n (Is (Again t) m) e ih = ih t m e
  cases f g s n (Is (Done a) m) e ih = refl
  cases f g s n (Not x) e ih = refl

  pub enough : (f g : ℕ) (s : S) (n : ℕ) → μ s n < f → μ s n < g → repeat f step s n ≡ repeat g step s n
  unfolding repeat
  enough zero g s n h k = absurd (omega arith)
  enough (suc f) zero s n h k = absurd (omega arith)
  enough (suc f) (suc g) s n h k =
      cases f g s n (step s n) refl (λ t m e. enough f g t m (omega (arith, less s t n m e)) (omega (arith, less s t n m e)))

-- ---- lines
module _ (d : List ℕ) (quantity : Bool) (first : ℕ) where
  data Lined (b : Block) : Result (Next Listing Block) → Type 0 where
    on : (l : Line) {a : Amount} {m : ℕ} → first + length b.lines < 4096 → Lined b (Is (Again (listing (with_line b l) a)) m)
    over : {c : Block} {m : ℕ} → Lined b (Is (Done c) m)
    stops : {f : Fault} → Lined b (Not f)

  line_goes : (s : Listing) (n : ℕ) → Lined s.block (listed d quantity first s n)
  unfolding listed line line_charges
  line_goes s n = at_text (string d n) where
    ends : (l : Line) (r : Result Unit) → Lined s.block (bind (bind r λ a m. Is (with_line s.block l) m) λ b m. Is (Done b) m)
    ends l (Is a m) = over
    ends l (Not f) = stops

    value : (l : Line) (r : Result Amount) → first + length s.block.lines < 4096
        → Lined s.block (bind r λ a m. Is (Again (listing (with_line s.block l) a)) m)
    value l (Is a m) h = on l h
    value l (Not f) h = stops

    at_end_lem : (l : Line) (k : ℕ) (w : Word) → first + length s.block.lines < 4096
        → Lined s.block (on_word (λ e. bind (end_values d (with_line s.block l) e) λ b m. Is (Done b) m)
        (λ i. bind (amount d i) λ a m. Is (Again (listing (with_line s.block l) a)) m) k w)
    at_end_lem l k (spelled.Matched e) h = ends l (word d VALUES e)
    at_end_lem l k spelled.Not h = value l (amount d k) h

    at_notes : (l : Line) (r : Result Unit) → first + length s.block.lines < 4096
        → Lined s.block (bind r λ a. either d END (λ e. bind (end_values d (with_line s.block l) e) λ b m. Is (Done b) m)
        (λ i. bind (amount d i) λ a m. Is (Again (listing (with_line s.block l) a)) m))
    at_notes l (Is a k) h = at_end_lem l k (word_at d k END) h
    at_notes l (Not f) h = stops

    then : Line → Reader (Next Listing Block)
    then l m = bind (notes d m) λ a. either d END (λ e. bind (end_values d (with_line s.block l) e) λ b m. Is (Done b) m)
        (λ i. bind (amount d i) λ a m. Is (Again (listing (with_line s.block l) a)) m)

    at_judged : (l : Line) (m : ℕ) {r : Result Line} → Judged (line_charges quantity first s.block s.next) l m r
        → Lined s.block (bind r then)
    at_judged l m (fine (clear a (clear b (clear c (clear e (clear f z)))))) =
        at_notes l (notes d m) (leb-false 4096 (first + length s.block.lines) f)
    at_judged l m faulty = stops

    at_special : (t : KeptText) (r : Result Bool)
        → Lined s.block (bind (bind r λ q. judged (line_charges quantity first s.block s.next) (line_of s.next t q)) then)
    at_special t (Is q m) = at_judged (line_of s.next t q) m
        (judged_view (line_charges quantity first s.block s.next) (line_of s.next t q) m)
    at_special t (Not f) = stops

    at_text : (r : Result KeptText)
        → Lined s.block (bind
        (bind r λ t n. bind (whether d SPECIAL n) λ q. judged (line_charges quantity first s.block s.next) (line_of s.next t q))
        then)
    at_text (Is t m) = at_special t (whether d SPECIAL m)
    at_text (Not f) = stops

  line_less : (s t : Listing) (n m : ℕ) → listed d quantity first s n ≡ Is (Again t) m
      → 4096 - (first + length t.block.lines) < 4096 - (first + length s.block.lines)
  line_less s t n m e = by (line_goes s n) e where
    by : {r : Result (Next Listing Block)} → Lined s.block r → r ≡ Is (Again t) m
        → 4096 - (first + length t.block.lines) < 4096 - (first + length s.block.lines)
    by (on l {a = a} h) e =
        let q : listing (with_line s.block l) a ≡ t = cc in
        rw (← q) (rw (length-append s.block.lines (l ∷ [])) (omega arith))
    by over e = never cc
    by stops e = never cc

  -- however many turns above 4,096 the reader of lines is given
  pub lines_enough : (f : ℕ) (s : Listing) (n : ℕ) → 4096 < f
      → repeat f (listed d quantity first) s n ≡ repeat 4097 (listed d quantity first) s n
  lines_enough f s n h = enough (listed d quantity first) (λ s n. 4096 - (first + length s.block.lines)) line_less f 4097 s n
      (omega arith) (omega arith)

-- ---- variables
module _ (d : List ℕ) where
  -- an ident that was read stands behind fewer than 512 variables
  data Headed (earlier : List Variable) : Result Figure → Type 0 where
    headed : {n : Figure} {m : ℕ} → length earlier < 512 → Headed earlier (Is n m)
    unheaded : {f : Fault} → Headed earlier (Not f)

  ident_few : (earlier : List Variable) (n : ℕ) → Headed earlier (ident d earlier n)
  unfolding ident ident_charges
  ident_few earlier n = at_word (statement d VARIABLE n) where
    at_judged : (x : Figure) (m : ℕ) {r : Result Figure} → Judged (ident_charges earlier x) x m r → Headed earlier r
    at_judged x m (fine (clear a (clear b (clear c (clear e z))))) = headed (leb-false 512 (length earlier) e)
    at_judged x m faulty = unheaded

    at_number : (r : Result Figure) → Headed earlier (bind r λ n. judged (ident_charges earlier n) n)
    at_number (Is x m) = at_judged x m (judged_view (ident_charges earlier x) x m)
    at_number (Not f) = unheaded

    at_word : (r : Result Unit) → Headed earlier (bind r λ a n. bind (number d n) λ n. judged (ident_charges earlier n) n)
    at_word (Is a k) = at_number (number d k)
    at_word (Not f) = unheaded

  data Listed (l : List Variable) : Result (Next (List Variable) (List Variable)) → Type 0 where
    on : (v : Variable) {m : ℕ} → length l < 512 → Listed l (Is (Again (l ++ v ∷ [])) m)
    over : {k : List Variable} {m : ℕ} → Listed l (Is (Done k) m)
    stops : {f : Fault} → Listed l (Not f)

  abbrev behind : List Variable → Figure → Reader Variable
  behind l x i =
      bind (phrase d NAME i) λ name i. bind (phrase d LABEL i) λ label i. bind (type d i) λ s i. bind (position d i) λ p i.
      bind (content d p (lines_all l) s i) λ c i. bind (statement d END i) λ a i. bind (word d VARIABLE i) λ a. held
      (variable_of x name label p c)

  variable_goes : (l : List Variable) (n : ℕ) → Listed l (another_variable d l n)
  unfolding another_variable variable
  variable_goes l n = at_ident (ident_few l n) where
    at_end_lem : (v : Variable) (k : ℕ) (w : Word) → length l < 512
        → Listed l (on_word (λ e. Is (Done (l ++ v ∷ [])) e) (λ i. Is (Again (l ++ v ∷ [])) i) k w)
    at_end_lem v k (spelled.Matched e) h = over
    at_end_lem v k spelled.Not h = on v h

    at_notes : (v : Variable) (r : Result Unit) → length l < 512
        → Listed l (bind r λ a. either d END (λ e. Is (Done (l ++ v ∷ [])) e) (λ i. Is (Again (l ++ v ∷ [])) i))
    at_notes v (Is a k) h = at_end_lem v k (word_at d k END) h
    at_notes v (Not f) h = stops

    at_variable : (r : Result Variable) → length l < 512
        → Listed l (bind r λ v n. bind (notes d n) λ a. either d END (λ e. Is (Done (l ++ v ∷ [])) e) (λ i. Is (Again (l ++ v ∷ [])) i))
    at_variable (Is v m) h = at_notes v (notes d m) h
    at_variable (Not f) h = stops

    at_ident : {r : Result Figure} → Headed l r
        → Listed l (bind (bind r (behind l))
        λ v n. bind (notes d n) λ a. either d END (λ e. Is (Done (l ++ v ∷ [])) e) (λ i. Is (Again (l ++ v ∷ [])) i))
    at_ident (headed {n = x} {m = i} h) = at_variable (behind l x i) h
    at_ident unheaded = stops

  variable_less : (l k : List Variable) (n m : ℕ) → another_variable d l n ≡ Is (Again k) m → 512 - length k < 512 - length l
  variable_less l k n m e = by (variable_goes l n) e where
    by : {r : Result (Next (List Variable) (List Variable))} → Listed l r → r ≡ Is (Again k) m → 512 - length k < 512 - length l
    by (on v h) e = let q : l ++ v ∷ [] ≡ k = cc in rw (← q) (rw (length-append l (v ∷ [])) (omega arith))
    by over e = never cc
    by stops e = never cc

  pub variables_enough : (f : ℕ) (l : List Variable) (n : ℕ) → 512 < f → repeat f (another_variable d) l n
      ≡ repeat 513 (another_variable d) l n
  variables_enough f l n h = enough (another_variable d) (λ l n. 512 - length l) variable_less f 513 l n (omega arith) (omega arith)

-- ---- notes and the heading: each leads on in the file
module _ (d : List ℕ) where
  string_on_less : (j : ℕ) {t : KeptText} {k : ℕ} → string d j ≡ Is t k → left d (Ok k) ≤ left d (Ok j)
  unfolding past_string
  string_on_less j e = rw (string_on_lem d (Is j j), e) at (string_left d (Ok j))

  notes_on_less : (j : ℕ) {a : Unit {0}} {k : ℕ} → notes d j ≡ Is a k → left d (Ok k) ≤ left d (Ok j)
  notes_on_less j e = rw (notes_on_lem d (Is j j), e) at (notes_left d (Ok j))

  names_on_less : (j : ℕ) {a : Unit {0}} {k : ℕ} → word d NAMES j ≡ Is a k → left d (Ok k) ≤ left d (Ok j)
  names_on_less j e = rw (word_on_lem d (Is j j) NAMES, e) at (word_left d (Ok j) 78 (65 ∷ 77 ∷ 69 ∷ 83 ∷ []))

  chosen : (n : ℕ) {m : ℕ} (w : List ℕ) → word_at d n w ≡ spelled.Matched m → choice_of d (Ok n) w ≡ Taken m
  unfolding choice_of
  chosen n w e = rw e

  taken_on : (n : ℕ) (x : ℕ) (w : List ℕ) {m : ℕ} → word_at d n (x ∷ w) ≡ spelled.Matched m → left d (Ok m) < left d (Ok n)
  taken_on n x w {m} e = taken_less d (Ok n) x w {m = m} (chosen n (x ∷ w) e)

  abbrev again_at : Reader (Next Unit Unit)
  again_at k = Is (Again tt) k

  note_less : (s t : Unit {0}) (n m : ℕ) → note d s n ≡ Is (Again t) m → left d (Ok m) < left d (Ok n)
  note_less s t n m = by (word_at d n NOTE) refl where
    on : (j : ℕ) (r : Result Unit) → past_note d j ≡ to_reading r → left d (past_note d j) < left d (Ok n)
        → bind r (λ a. again_at) ≡ Is (Again t) m → left d (Ok m) < left d (Ok n)
    on j (Is a k) p l e = let q : k ≡ m = cc in rw (← q) (rw p at l)
    on j (Not f) p l e = never cc

    text : (j : ℕ) (r : Result KeptText) → past_note d j ≡ to_reading (bind r λ t. gap d) → left d (past_note d j) < left d (Ok n)
        → bind r (λ t k. bind (gap d k) λ a. again_at) ≡ Is (Again t) m → left d (Ok m) < left d (Ok n)
    text j (Is x k) p l e = on j (gap d k) p l e
    text j (Not f) p l e = never cc

    by : (w : Word) → word_at d n NOTE ≡ w
        → on_word (λ j. bind (string d j) λ t k. bind (gap d k) λ a. again_at) (λ k. Is (Done tt) k) n w ≡ Is (Again t) m
        → left d (Ok m) < left d (Ok n)
    by (spelled.Matched j) i e = text j (string d j) (past_on d j) (note_left d (Ok n) refl (chosen n NOTE i)) e
    by spelled.Not i e = never cc

  note_on : (s t : Unit {0}) (n m : ℕ) → note d s n ≡ Is (Again t) m → length d - m < length d - n
  unfolding left
  note_on s t n m e = omega (arith, note_less s t n m e)

  pub notes_enough : (f n : ℕ) → length d - n < f → repeat f (note d) tt n ≡ repeat (suc (length d)) (note d) tt n
  notes_enough f n h = enough (note d) (λ s n. length d - n) note_on f (suc (length d)) tt n h (omega arith)

  -- a statement of the heading
  module _ (l k : List HeadingEntry) (n m : ℕ) where
    abbrev Less : Type 0
    Less = left d (Ok m) < left d (Ok n)

    abbrev behind_item : ℕ → Reader (Option KeptText) → Reader (Next (List HeadingEntry) (List HeadingEntry))
    behind_item i p = cond (given i l) (λ m. Not (fault 2 n)) (λ m. bind (p m) λ t m. bind (notes d m) λ a m. Is (Again (entry i t ∷ l)) m)

    abbrev onward_at : ℕ → Option KeptText → Reader (Next (List HeadingEntry) (List HeadingEntry))
    onward_at i t o = Is (Again (entry i t ∷ l)) o

    item_less : (i : ℕ) (p : Reader (Option KeptText)) (j : ℕ) → left d (Ok j) < left d (Ok n)
        → ((t : Option KeptText) (o : ℕ) → p j ≡ Is t o → left d (Ok o) ≤ left d (Ok j)) → behind_item i p j ≡ Is (Again k) m → Less
    item_less i p j h less = by (given i l) where
      at_notes : (t : Option KeptText) (o : ℕ) → left d (Ok o) ≤ left d (Ok j) → (r : Result Unit) → notes d o ≡ r
          → bind r (λ a. onward_at i t) ≡ Is (Again k) m → Less
      at_notes t o g (Is a z) q e = let u : z ≡ m = cc in let v = notes_on_less o q in rw (← u) (omega arith)
      at_notes t o g (Not f) q e = never cc

      at_text : (r : Result (Option KeptText)) → p j ≡ r → bind r (λ t m. bind (notes d m) λ a. onward_at i t) ≡ Is (Again k) m → Less
      at_text (Is t o) q e = at_notes t o (less t o q) (notes d o) refl e
      at_text (Not f) q e = never cc

      by : (q : Bool) → cond {A = Reader (Next (List HeadingEntry) (List HeadingEntry))} q (λ m. Not (fault 2 n))
          (λ m. bind (p m) λ t m. bind (notes d m) λ a m. Is (Again (entry i t ∷ l)) m) j ≡ Is (Again k) m → Less
      by true e = never cc
      by false e = at_text (p j) refl e

    texted_less : (j : ℕ) (t : Option KeptText) (o : ℕ) → texted d j ≡ Is t o → left d (Ok o) ≤ left d (Ok j)
    texted_less j t o = by (string d j) refl where
      by : (r : Result KeptText) → string d j ≡ r → bind r (λ t m. Is (some t) m) ≡ Is t o → left d (Ok o) ≤ left d (Ok j)
      by (Is x z) q e = let u : z ≡ o = cc in rw (← u) (string_on_less j q)
      by (Not f) q e = never cc

    abbrev none_at : Reader (Option KeptText)
    none_at o = Is none o

    names_less : (j : ℕ) (t : Option KeptText) (o : ℕ) → names d j ≡ Is t o → left d (Ok o) ≤ left d (Ok j)
    names_less j t o = by (word d NAMES j) refl where
      by : (r : Result Unit) → word d NAMES j ≡ r → bind r (λ a. none_at) ≡ Is t o → left d (Ok o) ≤ left d (Ok j)
      by (Is a z) q e = let u : z ≡ o = cc in rw (← u) (names_on_less j q)
      by (Not f) q e = never cc

    text_or : (i x : ℕ) (w : List ℕ) (z : Reader (Next (List HeadingEntry) (List HeadingEntry))) → (z n ≡ Is (Again k) m → Less)
        → on_word (behind_item i (texted d)) z n (word_at d n (x ∷ w)) ≡ Is (Again k) m → Less
    text_or i x w z or_else = by (word_at d n (x ∷ w)) refl where
      by : (y : Word) → word_at d n (x ∷ w) ≡ y → on_word (behind_item i (texted d)) z n y ≡ Is (Again k) m → Less
      by (spelled.Matched j) q e = item_less i (texted d) j (taken_on n x w q) (texted_less j) e
      by spelled.Not q e = or_else e

    names_or : on_word (behind_item 4 (names d)) (λ n. Is (Done l) n) n (word_at d n STANDARD) ≡ Is (Again k) m → Less
    names_or = by (word_at d n STANDARD) refl where
      by : (y : Word) → word_at d n STANDARD ≡ y → on_word (behind_item 4 (names d)) (λ n. Is (Done l) n) n y ≡ Is (Again k) m → Less
      by (spelled.Matched j) q e = item_less 4 (names d) j (taken_on n 83 (84 ∷ 65 ∷ 78 ∷ 68 ∷ 65 ∷ 82 ∷ 68 ∷ []) q) (names_less j) e
      by spelled.Not q e = never cc

    -- what is tried behind a word that does not stand
    abbrev from_standard : Reader (Next (List HeadingEntry) (List HeadingEntry))
    from_standard = once d l 4 STANDARD (names d) (λ n. Is (Done l) n)

    abbrev from_user : Reader (Next (List HeadingEntry) (List HeadingEntry))
    from_user = once d l 3 USER (texted d) from_standard

    abbrev from_origin : Reader (Next (List HeadingEntry) (List HeadingEntry))
    from_origin = once d l 2 ORIGIN (texted d) from_user

    abbrev from_time : Reader (Next (List HeadingEntry) (List HeadingEntry))
    from_time = once d l 1 TIME (texted d) from_origin

    entry_less : heading_entered d l n ≡ Is (Again k) m → length d - m < length d - n
    unfolding heading_entered left
    entry_less e =
        let h : Less =
        text_or 0 68 (65 ∷ 84 ∷ 69 ∷ []) from_time
        (text_or 1 84 (73 ∷ 77 ∷ 69 ∷ []) from_origin
        (text_or 2 79 (82 ∷ 73 ∷ 71 ∷ 73 ∷ 78 ∷ []) from_user
        (text_or 3 85 (83 ∷ 69 ∷ 82 ∷ []) from_standard names_or))) e
        in omega arith

  pub entries_enough : (f : ℕ) (l : List HeadingEntry) (n : ℕ) → length d - n < f
      → repeat f (heading_entered d) l n ≡ repeat (suc (length d)) (heading_entered d) l n
  entries_enough f l n h = enough (heading_entered d) (λ l n. length d - n) entry_less f (suc (length d)) l n h (omega arith)
