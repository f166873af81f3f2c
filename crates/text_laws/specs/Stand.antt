-- Every text of a definition that was read, as the code's books have it, stands in the definition: from its place on it is a string, whose
-- closing quote stands just behind its length. Names, labels, and the texts of lines. specs/Decoded brings it to the rule.
use Rattle.std.specs.Prelude.{◌≡◌, Bool, eqb, ltb, Ok, Err, ℤ}
use Rattle.std.proofs.Math.Path.{refl, ap}
use Rattle.std.proofs.Common.{◌∙◌, sym}
use Rattle.std.proofs.Math.Bool.{true, false, cond}
use mathlib.Core.List.{List, [], ◌∷◌, ◌++◌}
use Prim.Native.Nat.{ℕ, zero, suc, ◌+◌, ◌-◌}
use native.Mathlib.Omega.{arith}
use Rattle.std.proofs.Math.ListN.{length}
use Rattle.scan.specs.rule.Text.{Text, text}
use Rattle.scan.specs.rule.Loop.{Next, Again, Done, on_next, loop_of}
use Rattle.scan.proofs.Texts.{From, at_stop, at_sign, from_text}
use Rattle.marks.specs.declared.Inside.TheVariants.{Plain}
use Rattle.marks.specs.declared.Skip.{Skip}
use Rattle.marks.specs.declared.Skip.TheVariants.{Past, Unclosed, Bad}
use Rattle.marks.specs.rule.Marks.{string_of}
use Rattle.marks.proofs.Levels.{Ahead, by_past, string_ahead}
use Rattle.tokens.specs.declared.Choice.{Choice}
use Rattle.tokens.specs.declared.Choice.TheVariants.{Taken, Left}
use Rattle.tokens.specs.declared.Quoted.{Quoted}
use Rattle.tokens.specs.rule.Gap.{fault, OrFault}
use Rattle.tokens.specs.Gap.{gap_on}
use Rattle.tokens.specs.Token.{choice_of, word_on, word_here, value_here, past_value, of_skip, string_in, phrase_on, string_on, past_string}
use Rattle.statements.specs.declared.Typed.{Typed}
use Rattle.statements.specs.declared.Typed.TheVariants as typed
use Rattle.statements.specs.rule.Words.{SPECIAL, END, VALUES, TO, SPREAD}
use Rattle.statements.specs.Note.{notes_on, statement_on, text_on}
use Rattle.statements.specs.Spread.{spread_rest}
use Rattle.statements.specs.Size.{size_on}
use Rattle.values.specs.declared.Block.{Block}
use Rattle.values.specs.declared.Said.{Said}
use Rattle.values.specs.declared.Ranged.{Ranged}
use Rattle.values.specs.declared.Ranged.TheVariants as ranged
use Rattle.values.specs.declared.Turn.{Turn}
use Rattle.values.specs.declared.Turn.TheVariants as turn
use Rattle.values.specs.Range.{range_rest}
use Rattle.values.specs.Line.{Given, said_of, special_or, line_rest, number_at, judge_line, grown_by, more_of, Listing, state_of, after}
use Rattle.values.specs.Line.{judged_step}
use Rattle.values.specs.Line.{read_step, line_step, lines_from}
use Rattle.values.specs.Line as given
use Rattle.values.specs.Block.{empty_block, closed_by, range_then, to_or, values_on}
use Rattle.variables.specs.declared.Head.{Head}
use Rattle.variables.specs.Head.{join_titles, join_head, head_on}
use Rattle.variables.specs.Rest.{Telling, Told, join_values, values_rest, join_size, join_nothing, spread_or, optional, spread_then}
use Rattle.variables.specs.Rest.{rest_of}
use Rattle.variables.specs.Rest as told
use Rattle.measures.specs.Survey.{Variable, lines_all, ident_met, lines_in, holds_in}
use Rattle.entries.specs.Entry.{Entry, variable, end_variable, ended, told_then, held_by, rest_then, head_then, entry_of}
use Rattle.entries.specs.Entry as entry
use Rattle.variables.specs.Ident.{ident_on}
use Rattle.measures.specs.Survey.{table_of}
use Rattle.heading.specs.Heading.{front_on}
use Rattle.names.specs.rule.Standard.{name_fault}
use Rattle.definition.specs.Books.{Variables, Course, course, end_or, entered, variable_step, variables_from, ends_on, Survey, Read, Whole}
use Rattle.definition.specs.Books.{Faulty, survey_of, names_of, quote_at, Outcome, Built, Refusal, fitting, named, judged, outcome_in}
use Rattle.definition.specs.Books as variables
use Rattle.text_laws.specs.Cut.{none}
use Rattle.statements.specs.declared.Position.{Position}
use Rattle.tokens.specs.declared.Value.{Value}
use Rattle.tokens.specs.declared.Figures.{Figures}
use Rattle.statements.specs.declared.Subfields.{Subfields}

-- ---- what holds of each of a list
pub data Each {A : Type 0} (P : A → Type 0) : List A → Type 0 where
  nil : Each P []
  more : {x : A} {l : List A} → P x → Each P l → Each P (x ∷ l)

-- and of one more
each_more : {A : Type 0} {P : A → Type 0} {l : List A} (y : A) → Each P l → P y → Each P (l ++ y ∷ [])
each_more y nil k = more k nil
each_more y (more p e) k = more p (each_more y e k)

-- what each step keeps, the loop keeps
module _ {S A : Type 0} (step : S → Next S A) (out : A) (P : S → Type 0) (Q : A → Type 0)
    (again : (s s' : S) → P s → step s ≡ Again s' → P s') (done : (s : S) (a : A) → P s → step s ≡ Done a → Q a) (over : Q out) where
  pub loop_keeps : (f : ℕ) (s : S) → P s → Q (loop_of step out f s)
  unfolding loop_of
  loop_keeps zero s p = over
  loop_keeps (suc f) s p = by (step s) refl (loop_keeps f) where
    by : (n : Next S A) → step s ≡ n → ((s' : S) → P s' → Q (loop_of step out f s')) → Q (on_next n (loop_of step out f))
    by (Again s') e k = k s' (again s s' p e)
    by (Done a) e k = done s a p e

module _ (d : List ℕ) where
  -- a text stands in the definition
  abbrev pub Stands : Quoted → Type 0
  Stands q = string_of Plain (text d q.place) ≡ Past (q.place + q.length + 1)

  -- ---- a string that was read
  string_in_lem : {n : ℕ} {t : Text} → From d n t → (q : Quoted) → string_in t ≡ Ok q → Stands q
  unfolding string_in
  string_in_lem at_stop q e = none cc
  string_in_lem (at_sign {p = p} {b = b} {u = u} g l f r) q e = by (eqb b 34) (string_of Plain u) refl (string_ahead d r Plain) e where
    by : (x : Bool) (k : Skip) → string_of Plain u ≡ k → Ahead (p + 1) k → cond x (of_skip p k) (Err (fault 2 p)) ≡ Ok q
        → Stands q
    by true (Past m) i (by_past h) e =
        let j : record { place = p + 1; length = m - (p + 1) - 1; next = m } ≡ q = cc in
        let k : m ≡ p + 1 + (m - (p + 1) - 1) + 1 = omega arith in
        rw (← j) (ap (string_of Plain) (sym f) ∙ i ∙ ap Past k)
    by true Unclosed i h e = none cc
    by true (Bad o) i h e = none cc
    by false k i h e = none cc

  string_stands : (t : OrFault ℕ) (q : Quoted) → string_on d t ≡ Ok q → Stands q
  unfolding string_on
  string_stands t q = by (gap_on d t) where
    by : (g : OrFault ℕ) → phrase_on g (λ n. string_in (text d n)) ≡ Ok q → Stands q
    by (Ok n) e = string_in_lem (from_text d n) q e
    by (Err f) e = none cc

  -- ---- the text of a line
  abbrev pub LineStands : Said → Type 0
  LineStands s = Stands s.text

  said_text : (a : OrFault Value) (q : OrFault Quoted) (n : ℕ) (end : OrFault ℕ) (s : Said) → said_of a q n end ≡ Ok s → q ≡ Ok s.text
  unfolding said_of
  said_text (Err f) q n end s e = none cc
  said_text (Ok v) (Err f) n end s e = none cc
  said_text (Ok v) (Ok q) n (Err f) s e = none cc
  said_text (Ok v) (Ok q) n (Ok m) s e = let j : record { value = v; text = q; special = n; next = m } ≡ s = cc in rw
      (← j) refl

  line_stands : (a : OrFault Value) (s : Said) → line_rest d a ≡ Ok s → LineStands s
  unfolding line_rest
  line_stands a s = by (choice_of d (gap_on d (past_string (string_on d (past_value a)))) SPECIAL) where
    by : (k : Choice) → special_or a (string_on d (past_value a)) (gap_on d (past_string (string_on d (past_value a)))) k ≡ Ok s
        → LineStands s
    by (Taken m) e = string_stands (past_value a) s.text (said_text a (string_on d (past_value a)) 1 (Ok m) s e)
    by Left e = string_stands (past_value a) s.text (said_text a (string_on d (past_value a)) 0
        (gap_on d (past_string (string_on d (past_value a)))) s e)

  -- ---- the lines of a block
  record LinesStand (g : Given) : Type 0 where
    pub lines_stand : {b : Block} {l : List Said} {n : ℕ} → g ≡ given.Is b l n → Each LineStands l

  no_lines : (f : _) → LinesStand (given.Not f)
  no_lines f = record { lines_stand = λ e. none cc }

  module _ (quantity : Bool) (first : ℕ) where
    turned : (l : List Said) (t : Turn) (s : Listing) → Each LineStands l → after l t ≡ Again s → Each LineStands s.lines
    turned l (turn.More a b) s h e = let j : state_of a b l ≡ s = cc in rw (← j) h
    turned l (turn.Over b n) s h e = none cc
    turned l (turn.Not f) s h e = none cc

    over : (l : List Said) (t : Turn) (g : Given) → Each LineStands l → after l t ≡ Done g → LinesStand g
    over l (turn.More a b) g h e = none cc
    over l (turn.Over b n) g h e = let j : given.Is b l n ≡ g = cc in rw (← j)
        (record { lines_stand = λ {b = c} {l = k} {n = m} e. let i : l ≡ k = cc in rw (← i) h })
    over l (turn.Not f) g h e = let j : given.Not f ≡ g = cc in rw (← j) (no_lines f)

    again : (s s' : Listing) → Each LineStands s.lines → line_step d quantity first s ≡ Again s' → Each LineStands s'.lines
    unfolding line_step
    again s s' h = by (line_rest d s.amount) refl where
      judged : (x : Said) (v : OrFault ℤ) → LineStands x → judged_step d s x v ≡ Again s' → Each LineStands s'.lines
      judged x (Ok z) k e = turned (s.lines ++ x ∷ []) (more_of d (grown_by s.block x.value) x.next) s'
          (each_more x h k) e
      judged x (Err f) k e = none cc

      by : (r : OrFault Said) → line_rest d s.amount ≡ r → read_step d quantity first s r ≡ Again s' → Each LineStands s'.lines
      by (Ok x) i e = judged x (judge_line (number_at s.lines) (length s.lines) first quantity s.block x.value)
          (line_stands s.amount x i) e
      by (Err f) i e = none cc

    done : (s : Listing) (g : Given) → Each LineStands s.lines → line_step d quantity first s ≡ Done g → LinesStand g
    unfolding line_step
    done s g h = by (line_rest d s.amount) refl where
      judged : (x : Said) (v : OrFault ℤ) → LineStands x → judged_step d s x v ≡ Done g → LinesStand g
      judged x (Ok z) k e = over (s.lines ++ x ∷ []) (more_of d (grown_by s.block x.value) x.next) g (each_more x h k) e
      judged x (Err f) k e = let j : given.Not f ≡ g = cc in rw (← j) (no_lines f)

      by : (r : OrFault Said) → line_rest d s.amount ≡ r → read_step d quantity first s r ≡ Done g → LinesStand g
      by (Ok x) i e = judged x (judge_line (number_at s.lines) (length s.lines) first quantity s.block x.value)
          (line_stands s.amount x i) e
      by (Err f) i e = let j : given.Not f ≡ g = cc in rw (← j) (no_lines f)

    from_none : (a : OrFault Value) (b : Block) → LinesStand (lines_from d quantity first (state_of a b []))
    unfolding lines_from
    from_none a b = loop_keeps (line_step d quantity first) (given.Not (fault 0 0))
        (λ s. Each LineStands s.lines) LinesStand again done (no_lines (fault 0 0)) (suc (4096 - (first + 0))) (state_of a b []) (nil)

    ranged_stand : (r : Ranged) → LinesStand (range_then d quantity first r)
    unfolding range_then closed_by
    ranged_stand (ranged.Not f) = no_lines f
    ranged_stand (ranged.Is b with n) = by with where
      shut : (t : OrFault ℕ) → LinesStand (closed_by b t)
      shut (Ok m) = record { lines_stand = λ {l = l} e. let i : [] ≡ l = cc in rw (← i) (nil) }
      shut (Err f) = no_lines f

      by : (w : Bool) → LinesStand (cond w (lines_from d quantity first (state_of (value_here d (notes_on d (Ok n))) b []))
          (closed_by b (word_on d (word_here d (notes_on d (Ok n)) END) VALUES)))
      by true = from_none (value_here d (notes_on d (Ok n))) b
      by false = shut (word_on d (word_here d (notes_on d (Ok n)) END) VALUES)

    values_stand : (t : OrFault ℕ) → LinesStand (values_on d quantity first t)
    unfolding values_on
    values_stand t = by (value_here d (notes_on d (statement_on d t VALUES)))
        (choice_of d (gap_on d (past_value (value_here d (notes_on d (statement_on d t VALUES))))) TO) where
          by : (a : OrFault Value) (k : Choice) → LinesStand (to_or d quantity first a k)
          by a (Taken m) = ranged_stand (range_rest d quantity a (Ok m))
          by a Left = from_none a empty_block

  -- ---- what stands behind a position
  record TellingStands (r : Told) : Type 0 where
    pub telling_stands : {x : Telling} → r ≡ told.Is x → Each LineStands x.lines

  no_telling : (f : _) → TellingStands (told.Not f)
  no_telling f = record { telling_stands = λ e. none cc }

  values_rest_lem : (quantity : Bool) (first : ℕ) (t : OrFault ℕ) (count width : ℕ)
      → TellingStands (values_rest d quantity first t count width)
  unfolding values_rest join_values
  values_rest_lem quantity first t count width = by (values_on d quantity first t) (values_stand quantity first t) where
    by : (g : Given) → LinesStand g → TellingStands (join_values count width g)
    by (given.Is b l n) h = record {
      telling_stands = λ {x} e.
          let j : record { block = b; lines = l; subfields = count; subwidth = width; size = 0; next = n } ≡ x = cc in rw (← j)
          (h.lines_stand refl);
    }
    by (given.Not f) h = no_telling f

  spread_rest_lem : (first : ℕ) (t : OrFault ℕ) (w : ℕ) → TellingStands (spread_then d first t w)
  unfolding spread_then
  spread_rest_lem first t w = by (choice_of d (notes_on d t) SPREAD) where
    spread : (s : OrFault Subfields) → TellingStands (spread_or d first s)
    spread (Ok s) = values_rest_lem false first (Ok s.next) s.count s.width
    spread (Err f) = no_telling f

    by : (k : Choice) → TellingStands (optional d first (notes_on d t) w k)
    by (Taken m) = spread (spread_rest d (Ok m) w)
    by Left = values_rest_lem false first (notes_on d t) 0 0

  size_rest : (x : OrFault Figures) → TellingStands (join_size x)
  unfolding join_size
  size_rest (Ok y) = record {
    telling_stands = λ {x} e.
        let j : record { block = empty_block; lines = []; subfields = 0; subwidth = 0; size = y.size; next = y.next } ≡ x = cc in
        rw (← j) (nil);
  }
  size_rest (Err f) = no_telling f

  nothing_rest : (t : OrFault ℕ) → TellingStands (join_nothing t)
  unfolding join_nothing
  nothing_rest (Ok n) = record {
    telling_stands = λ {x} e.
        let j : record { block = empty_block; lines = []; subfields = 0; subwidth = 0; size = 0; next = n } ≡ x = cc in rw (← j) (nil);
  }
  nothing_rest (Err f) = no_telling f

  rest_stands : (first kind : ℕ) (t : OrFault ℕ) (w : ℕ) → TellingStands (rest_of d first kind t w)
  unfolding rest_of
  rest_stands first kind t w = by (eqb kind 1) (eqb kind 2) (eqb kind 3) (eqb kind 4) where
    by : (a b c e : Bool) → TellingStands (cond a (values_rest d false first t 0 0)
        (cond b (spread_then d first t w) (cond c (values_rest d true first t 0 0) (cond e (join_size (size_on d t)) (join_nothing t)))))
    by true b c e = values_rest_lem false first t 0 0
    by false true c e = spread_rest_lem first t w
    by false false true e = values_rest_lem true first t 0 0
    by false false false true = size_rest (size_on d t)
    by false false false false = nothing_rest t

  -- ---- a variable
  pub record VariableStands (v : Variable) : Type 0 where
    pub name_stands : Stands v.head.name
    pub label_stands : Stands v.head.label
    pub lines_stand : Each LineStands (lines_in v)

  head_stands : (i : OrFault Figures) (h : Head) → head_on d i ≡ Ok h → Stands h.name × Stands h.label
  unfolding head_on text_on join_head join_titles
  head_stands i h e = by _ _ i _ _ _ _ refl refl e where
    by : (t u : OrFault ℕ) (j : OrFault Figures) (n l : OrFault Quoted) (k : Typed) (p : OrFault Position) → string_on d t ≡ n
        → string_on d u ≡ l
        → join_head (join_titles j n l) k p ≡ Ok h → Stands h.name × Stands h.label
    by t u (Err f) n l k p a b g = none cc
    by t u (Ok x) (Err f) l k p a b g = none cc
    by t u (Ok x) (Ok n) (Err f) k p a b g = none cc
    by t u (Ok x) (Ok n) (Ok l) (typed.Not f) p a b g = none cc
    by t u (Ok x) (Ok n) (Ok l) (typed.Is k m) (Err f) a b g = none cc
    by t u (Ok x) (Ok n) (Ok l) (typed.Is k m) (Ok q) a b g =
        let j : record {
          ident = x.size;
          name = n;
          label = l;
          kind = k;
          start = q.start;
          finish = q.finish;
          place = q.place;
          next = q.next;
        }
        ≡ h = cc in
        rw (← j) (string_stands t n a, string_stands u l b)

  entry_stands : (t : OrFault ℕ) (met : ℕ → Bool) (count before : ℕ) (v : Variable) (n : ℕ) → entry_of d t met count before ≡ entry.Is v n
      → VariableStands v
  unfolding entry_of rest_then held_by
  entry_stands t met count before v n = by (head_on d (ident_on d t met count)) refl where
    told_by : (h : Head) (r : Told) → Stands h.name × Stands h.label → TellingStands r
        → told_then r (λ x. ended (end_variable d x.next) λ m. held_by before (variable h x) m) ≡ entry.Is v n → VariableStands v
    told_by h (told.Not f) a b e = none cc
    told_by h (told.Is x) a b e = ends (end_variable d x.next) e where
      held : (q : Bool) (m : ℕ) → cond q (entry.Is (variable h x) m) (entry.Not (fault 7 h.place)) ≡ entry.Is v n → VariableStands v
      held true m e =
          let j : variable h x ≡ v = cc in
          rw (← j) (record { name_stands = a.0; label_stands = a.1; lines_stand = b.telling_stands refl })
      held false m e = none cc

      ends : (r : OrFault ℕ) → ended r (λ m. held_by before (variable h x) m) ≡ entry.Is v n → VariableStands v
      ends (Ok m) e = held (holds_in before (variable h x)) m e
      ends (Err f) e = none cc

    by : (r : OrFault Head) → head_on d (ident_on d t met count) ≡ r → head_then r (rest_then d before) ≡ entry.Is v n → VariableStands v
    by (Err f) i e = none cc
    by (Ok h) i e = told_by h (rest_of d before h.kind (Ok h.next) (h.finish + 1 - h.start))
        (head_stands (ident_on d t met count) h i) (rest_stands before h.kind (Ok h.next) (h.finish + 1 - h.start)) e

  -- ---- all of them
  record AllStand (v : Variables) : Type 0 where
    pub all_stand : {l : List Variable} {m : ℕ} → v ≡ variables.Is l m → Each VariableStands l

  abbrev next_entry : Course → Entry
  next_entry s = entry_of d s.at (ident_met s.earlier) (length s.earlier) (lines_all s.earlier)

  module _ (s : Course) (h : Each VariableStands s.earlier) where
    grown : (v : Variable) (n : ℕ) → next_entry s ≡ entry.Is v n → Each VariableStands (s.earlier ++ v ∷ [])
    grown v n e = each_more v h (entry_stands s.at (ident_met s.earlier) (length s.earlier) (lines_all s.earlier) v n e)

    next_course : (s' : Course) → variable_step d s ≡ Again s' → Each VariableStands s'.earlier
    unfolding variable_step
    next_course s' = by (next_entry s) refl where
      choice : (v : Variable) (n : ℕ) (k : Choice) → Each VariableStands (s.earlier ++ v ∷ [])
          → end_or (s.earlier ++ v ∷ []) (notes_on d (Ok n)) k ≡ Again s' → Each VariableStands s'.earlier
      choice v n (Taken m) g e = none cc
      choice v n Left g e = let j : course (notes_on d (Ok n)) (s.earlier ++ v ∷ []) ≡ s' = cc in rw (← j) g

      by : (o : Entry) → next_entry s ≡ o → entered d s.earlier o ≡ Again s' → Each VariableStands s'.earlier
      by (entry.Is v n) i e = choice v n (choice_of d (notes_on d (Ok n)) END) (grown v n i) e
      by (entry.Not f) i e = none cc

    last_course : (a : Variables) → variable_step d s ≡ Done a → AllStand a
    unfolding variable_step
    last_course a = by (next_entry s) refl where
      choice : (v : Variable) (n : ℕ) (k : Choice) → Each VariableStands (s.earlier ++ v ∷ [])
          → end_or (s.earlier ++ v ∷ []) (notes_on d (Ok n)) k ≡ Done a → AllStand a
      choice v n Left g e = none cc
      choice v n (Taken m) g e =
          let j : variables.Is (s.earlier ++ v ∷ []) m ≡ a = cc in
          rw (← j) (record { all_stand = λ {l = l} {m = k} q. let i : s.earlier ++ v ∷ [] ≡ l = cc in rw (← i) g })

      by : (o : Entry) → next_entry s ≡ o → entered d s.earlier o ≡ Done a → AllStand a
      by (entry.Is v n) i e = choice v n (choice_of d (notes_on d (Ok n)) END) (grown v n i) e
      by (entry.Not f) i e = let j : variables.Not f ≡ a = cc in rw (← j) (record { all_stand = λ q. none cc })

  variables_stand : (t : OrFault ℕ) → AllStand (variables_from d (course t []))
  unfolding variables_from
  variables_stand t = loop_keeps (variable_step d) (variables.Not (fault 0 0)) (λ s. Each VariableStands s.earlier) AllStand
      (λ s s' h e. next_course s h s' e) (λ s a h e. last_course s h a e) (record { all_stand = λ q. none cc }) (suc (512 - 0))
      (course t []) (nil)

  survey_stands : (s : Survey) → survey_of d ≡ Whole s → Each VariableStands s.variables
  unfolding survey_of
  survey_stands s = by (variables_from d (course (front_on d).next [])) refl where
    ends : (v : List Variable) (r : OrFault ℕ) → Each VariableStands v → variables.ended (front_on d) v r ≡ Whole s
        → Each VariableStands s.variables
    ends v (Ok k) g e = let j : record { front = front_on d; variables = v } ≡ s = cc in rw (← j) g
    ends v (Err f) g e = none cc

    by : (v : Variables) → variables_from d (course (front_on d).next []) ≡ v → variables.closed d (front_on d) v ≡ Whole s
        → Each VariableStands s.variables
    by (variables.Is v m) i e = ends v (ends_on d m) ((variables_stand (front_on d).next).all_stand i) e
    by (variables.Not f) i e = none cc

  -- ---- STAND: every text of a table that was read from the definition stands in it
  module _ (n : ℕ) (l : List Variable) where
    fitted : (v : List Variable) → fitting n v ≡ Built l → v ≡ l
    unfolding fitting
    fitted v = by (ltb n (length (table_of v))) where
      by : (b : Bool) → cond b (Refusal 10 0) (Built v) ≡ Built l → v ≡ l
      by true e = none cc
      by false e = cc

    named_same : (standard : Bool) (v : List Variable) → named d n standard v ≡ Built l → v ≡ l
    unfolding named
    named_same false v e = fitted v e
    named_same true v e = by (ltb (name_fault (names_of d v)) (length v)) e where
      by : (b : Bool) → cond b (Refusal 9 (quote_at v (name_fault (names_of d v)))) (fitting n v) ≡ Built l → v ≡ l
      by true i = none cc
      by false i = fitted v i

    pub built_stands : outcome_in d n ≡ Built l → Each VariableStands l
    unfolding outcome_in
    built_stands = by (ltb 1048576 (length d)) where
      whole : (r : Read) → survey_of d ≡ r → judged d n r ≡ Built l → Each VariableStands l
      whole (Whole s) i e = rw (← named_same s.front.heading.standard s.variables e) (survey_stands s i)
      whole (Faulty f) i e = none cc

      by : (b : Bool) → cond b (Refusal 1 0) (judged d n (survey_of d)) ≡ Built l → Each VariableStands l
      by true e = none cc
      by false e = whole (survey_of d) refl e
