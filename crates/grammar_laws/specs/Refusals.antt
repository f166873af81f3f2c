-- "Numbers 2 to 9 come with the first byte of the token or opening mark at fault (file length at the end)": what a refusal of 2 to 8 says
-- of
-- the text, in words, for every definition.
use Rattle.std.specs.Prelude.{◌≡◌, Bool, true, false, cond, List, [], ◌∷◌, ℕ, zero, suc, ◌+◌, ◌-◌, ◌≤◌, ◌<◌, eqb, ltb, length, get_or, Err}
use Rattle.std.proofs.Math.Path.{refl}
use Rattle.std.proofs.Common.{sym, ◌∙◌, arith, eqb-true, ltb-true, ltb-false}
use Rattle.std.proofs.Math.Option
use Rattle.std.proofs.Math.Option.{Option, none, some}
use Rattle.std.proofs.lemmas.Bool.{eqb-false}
use Rattle.ascii.specs.rule.Class.{class_of}
use Rattle.scan.specs.rule.Text.{Text, stop, sign, text, place_of}
use Rattle.scan.specs.rule.Number.{is_value, run_bytes}
use Rattle.scan.proofs.Texts.{From, at_stop, at_sign, from_text, text_end, text_dropped, text_kept}
use Rattle.tokens.specs.declared.Fault.{Fault}
use Rattle.tokens.specs.rule.Gap.{fault}
use Rattle.token_laws.specs.Comments.{StringOpen, StringBad, Unended, Faulty}
use Rattle.token_laws.specs.Gaps.{Behind, outermost}
use Rattle.token_laws.specs.Gaps as gaps
use Rattle.token_laws.specs.Opening.{Spaces, Opens, sss_due, version_due, run_due, other_run}
use Rattle.token_laws.specs.Opening as opening
use Rattle.statements.specs.rule.Words.{NAMES, SURVEY, RECORD, SSS, VARIABLE, NAME, LABEL, TYPE}
use Rattle.statements.specs.rule.Words.{POSITION, TO, OF, SIZE, VALUES, END, ONE-ONE}
use Rattle.survey.specs.rule.Survey.{Figure, Amount, Range, Block, Variable}
use Rattle.survey.specs.rule.Table.{lines_all}
use Rattle.reading.specs.rule.Result.{Not}
use Rattle.reading.specs.rule.Least.{Charge, ◌when◌}
use Rattle.reading.specs.rule.Statement.{position_charges, spread_charges, size_charges}
use Rattle.reading.specs.rule.Values.{range_charges, line_charges}
use Rattle.reading.specs.rule.Variable.{ident_charges, Sort, Single, Multiple, Quantity, Character, Logical, room, variable_of}
use Rattle.reading.specs.rule.Whole.{HeadingEntry, survey_of}
use Rattle.bridge.specs.Lowest.{never}
use Rattle.grammar.specs.Token.{Gap}
use Rattle.grammar.specs.Faults.{width_faults}
use Rattle.grammar.specs.Refusal.{Lowest, Due, due, Then, inside, behind, Or, stands, absent, Once, second, first_time, Never}
use Rattle.grammar.specs.Refusal.{GapStops, WordStops, NumberStops, QuoteStops, StringStops, LetterStops}
use Rattle.grammar.specs.Refusal.{GapValueStops, OptionalStops, Noted, noted, NotesStops, in_gap, in_note, StatementStops, PhraseStops}
use Rattle.grammar.specs.Refusal.{PositionStops, SizeStops, SpreadStops, IdentStops, TypeStops, LinesStops, in_line, WithStops}
use Rattle.grammar.specs.Refusal.{RangeOrStops, ValuesStops, RestStops, VariableStops, VariablesStops, in_variable, ItemStops}
use Rattle.grammar.specs.Refusal.{TextedStops, ItemsStops, in_item, ItemsRead, items, OpeningStops, FrontStops, EndsStops, Stops}
use Rattle.grammar.specs.Refusal as refusal
use Rattle.grammar_laws.specs.Places.{place_text, Stood, gap_stood}
use Rattle.grammar_laws.specs.Places as places
use Rattle.grammar_laws.specs.Notes.{notes_gap}
use Rattle.grammar_laws.specs.Lowest.{Charged, holds, later, LeastOf, lowest_first}
use Rattle.grammar_laws.specs.Whole.{refused_exactly}

-- ---- charges are faults of 5 and above
above : List Charge → Bool
above [] = true
above (f when q ∷ l) = cond (ltb 4 f.number) (above l) false

above_charged : {f : Fault} {l : List Charge} → above l ≡ true → Charged f l → 4 < f.number
unfolding above
above_charged {f} e (holds {l = l} h) = by (ltb 4 f.number) refl e where
  by : (q : Bool) → ltb 4 f.number ≡ q → cond q (above l) false ≡ true → 4 < f.number
  by true i e = ltb-true 4 f.number i
  by false i e = never cc
above_charged e (later {c = g when q} {l = l} c) = by (ltb 4 g.number) e (λ k. above_charged k c) where
  by : {A : Type 0} (x : Bool) → cond x (above l) false ≡ true → (above l ≡ true → A) → A
  by true e k = k e
  by false e k = never cc

position_above : (a b : Figure) → above (position_charges a b) ≡ true
unfolding above position_charges
position_above a b = refl

size_above : (a : Figure) → above (size_charges a) ≡ true
unfolding above size_charges
size_above a = refl

spread_above : (n : ℕ) (a : Figure) (w : Option Figure) → above (spread_charges n a w) ≡ true
unfolding above spread_charges
spread_above n a none = refl
spread_above n a (some w) = refl

ident_above : (l : List Variable) (a : Figure) → above (ident_charges l a) ≡ true
unfolding above ident_charges
ident_above l a = refl

range_above : (q : Bool) (a b : Amount) → above (range_charges q a b) ≡ true
unfolding above range_charges
range_above q a b = refl

line_above : (q : Bool) (n : ℕ) (b : Block) (a : Amount) → above (line_charges q n b a) ≡ true
unfolding above line_charges
line_above q n b a = refl

width_above : (v : Variable) → above (width_faults v) ≡ true
unfolding above
width_above v = refl

module _ (d : List ℕ) where
  -- ---- the words: a byte of the kept text stands at p, or the text ends there
  pub data Standing (p : ℕ) : Type 0 where
    byte : {b : ℕ} → text d p ≡ sign p b (text d (p + 1)) → Standing p
    end : text d p ≡ stop p → length d ≤ p → Standing p

  -- 2 where a token was due; 3 at the angle of a comment that does not close, which is the outermost mark, at what is bad in one (its 33rd
  -- angle, or a brace), at the quote of a string that does not close, at the brace of a bad form; 4 at a version that is not 1.1; 5 to 8,
  -- the
  -- least of a statement's faults that hold
  pub data Placed : Fault → Type 0 where
    due_here : {p : ℕ} → Standing p → Placed (fault 2 p)
    comment_open : {p : ℕ} → text d p ≡ sign p 60 (text d (p + 1)) → Unended d 1 (p + 1) → Placed (fault 3 p)
    comment_bad : (p : ℕ) {o : ℕ} → text d p ≡ sign p 60 (text d (p + 1)) → Faulty d o 1 (p + 1) → Placed (fault 3 o)
    string_open : {p : ℕ} → text d p ≡ sign p 34 (text d (p + 1)) → StringOpen (text d (p + 1)) → Placed (fault 3 p)
    string_bad : (p : ℕ) {o : ℕ} → text d p ≡ sign p 34 (text d (p + 1)) → StringBad o (text d (p + 1)) → Placed (fault 3 o)
    version_other : {p : ℕ} → (run_bytes is_value (text d p) ≡ [] → ⊥) → (run_bytes is_value (text d p) ≡ ONE-ONE → ⊥) → Placed (fault 4 p)
    judged_least : {f : Fault} (l : List Charge) → LeastOf l f → 4 < f.number → Placed f

  far : (f n : ℕ) {q : ℕ} → length d - n < f → text d n ≡ stop q → length d ≤ q
  far zero n h e = absurd (omega arith)
  far (suc f) n {q} h e = by (ltb n (length d)) (eqb (class_of (get_or d n 0)) 0) refl refl (far f (n + 1)) where
    by : (x y : Bool) → ltb n (length d) ≡ x → eqb (class_of (get_or d n 0)) 0 ≡ y
        → (length d - (n + 1) < f → text d (n + 1) ≡ stop q → length d ≤ q) → length d ≤ q
    by false y i j ih =
        let l = ltb-false n (length d) i in
        let g = sym (text_end d n l) ∙ e in
        let k : n ≡ q = cc in
        omega arith
    by true true i j ih =
        let l = ltb-true n (length d) i in
        ih (omega arith) (sym (text_dropped d n l (eqb-true _ _ j)) ∙ e)
    by true false i j ih = let g = sym (text_kept d n (ltb-true n (length d) i) (eqb-false _ _ j)) ∙ e in never cc

  stop_far : (n : ℕ) {q : ℕ} → text d n ≡ stop q → length d ≤ q
  stop_far n e = far (suc (length d - n)) n (omega arith) e

  place_standing : (n : ℕ) → Standing (place_of (text d n))
  unfolding place_of
  place_standing n = by (from_text d n) refl (place_text d n) where
    by : {t : Text} → From d n t → text d n ≡ t → text d (place_of t) ≡ t → Standing (place_of t)
    by at_stop e q = end q (stop_far n e)
    by (at_sign {p = p} {b = b} h w i r) e q = byte {b = b} (rw i at q)

  gap_standing : {n m : ℕ} → Gap d n m → Standing m
  gap_standing g = by (gap_stood d g) where
    by : {m : ℕ} → Stood d m → Standing m
    by (places.byte e f h) = byte e
    by {m} (places.end e) = end e (stop_far m e)

  noted_standing : {n m : ℕ} → Noted d n m → Standing m
  noted_standing (noted s o) = gap_standing (notes_gap d s)

  spaces_standing : {n p : ℕ} → Spaces d n p → Standing p
  unfolding place_of
  spaces_standing (opening.byte {at = n} e f) = rw e at (place_standing n)
  spaces_standing (opening.end {at = n} e) = rw e at (place_standing n)
  spaces_standing (opening.space e s) = spaces_standing s

  stands_at : (n : ℕ) {p b : ℕ} → text d n ≡ sign p b (text d (p + 1)) → text d p ≡ sign p b (text d (p + 1))
  unfolding place_of
  stands_at n e = rw e at (place_text d n)

  -- ---- one behind the other
  each : {A : Type 0} {P : A → ℕ → Type 0} {S : Fault → Type 0} {T : A → ℕ → Fault → Type 0} → ((f : Fault) → S f → Placed f)
      → ((a : A) (m : ℕ) → P a m → (f : Fault) → T a m f → Placed f) → (f : Fault) → Then S P T f → Placed f
  each s t f (inside z) = s f z
  each s t f (behind {a = a} {m = m} p z) = t a m p f z

  or_placed : {w : List ℕ} {n : ℕ} {S : ℕ → Fault → Type 0} {T : Fault → Type 0} → ((m : ℕ) (f : Fault) → S m f → Placed f)
      → ((f : Fault) → T f → Placed f) → (f : Fault) → Or d w n S T f → Placed f
  or_placed s t f (stands {m = m} h z) = s m f z
  or_placed s t f (absent h z) = t f z

  never_placed : (f : Fault) → Never f → Placed f
  never_placed f z = absurd z

  due_placed : {why : Type 0} {n : ℕ} → Standing n → (f : Fault) → Due why n f → Placed f
  due_placed s f (due x) = due_here s

  lowest_placed : (l : List Charge) → above l ≡ true → (f : Fault) → Lowest l f → Placed f
  lowest_placed l a f z = let h = (lowest_first l f).0 z in judged_least l h (above_charged a h.charged)

  -- ---- tokens
  gap_placed : (n : ℕ) (f : Fault) → GapStops d n f → Placed f
  gap_placed n f z = by z where
    by : {f : Fault} → Behind d n (Err f) → Placed f
    by (outermost {n = k} {p = p} g e u) = comment_open (stands_at k e) u
    by (gaps.inside {n = k} {p = p} g e u) = comment_bad p (stands_at k e) u

  word_placed : (w : List ℕ) (n : ℕ) (f : Fault) → WordStops d w n f → Placed f
  word_placed w n = each (gap_placed n) λ u m g. due_placed (gap_standing g)

  number_placed : (n : ℕ) (f : Fault) → NumberStops d n f → Placed f
  number_placed n = each (gap_placed n) λ u m g. due_placed (gap_standing g)

  value_placed : (n : ℕ) (f : Fault) → GapValueStops d n f → Placed f
  value_placed n = each (gap_placed n) λ u m g. due_placed (gap_standing g)

  letter_placed : (n : ℕ) (f : Fault) → LetterStops d n f → Placed f
  letter_placed n = each (gap_placed n) λ u m g. due_placed (gap_standing g)

  quote_placed : {n : ℕ} → Standing n → (f : Fault) → QuoteStops d n f → Placed f
  quote_placed {n} s f (refusal.unclosed {p = p} e z) = string_open (stands_at n e) z
  quote_placed {n} s f (refusal.bad {p = p} e z) = string_bad p (stands_at n e) z
  quote_placed s f (refusal.other z) = due_here s

  string_placed : (n : ℕ) (f : Fault) → StringStops d n f → Placed f
  string_placed n = each (gap_placed n) λ u m g. quote_placed (gap_standing g)

  notes_placed : {n : ℕ} (f : Fault) → NotesStops d n f → Placed f
  notes_placed {n} f (in_gap z) = gap_placed n f z
  notes_placed f (in_note {k = k} w z) = string_placed k f z
  notes_placed f (refusal.NotesStops.later w s z) = notes_placed f z

  statement_placed : (w : List ℕ) (n : ℕ) (f : Fault) → StatementStops d w n f → Placed f
  statement_placed w n = each notes_placed λ u m s. due_placed (noted_standing s)

  phrase_placed : (w : List ℕ) (n : ℕ) (f : Fault) → PhraseStops d w n f → Placed f
  phrase_placed w n = each (statement_placed w n) λ u m s. string_placed m

  optional_placed : (w : List ℕ) {S : ℕ → Fault → Type 0} → ((n : ℕ) (f : Fault) → S n f → Placed f) → (n : ℕ) (f : Fault)
      → OptionalStops d w S n f → Placed f
  optional_placed w s n = each (gap_placed n) λ u m g. or_placed s never_placed

  -- ---- statements
  position_placed : (n : ℕ) (f : Fault) → PositionStops d n f → Placed f
  position_placed n =
      each (statement_placed POSITION n) λ u k s.
      each (number_placed k) λ a j x.
      each (optional_placed TO number_placed j) λ b m o.
      lowest_placed (position_charges a (Option.get_or b a)) (position_above a (Option.get_or b a))

  size_placed : (n : ℕ) (f : Fault) → SizeStops d n f → Placed f
  size_placed n = each (statement_placed SIZE n) λ u k s. each (number_placed k) λ a j x. lowest_placed (size_charges a) (size_above a)

  spread_placed : (width n : ℕ) (f : Fault) → SpreadStops d width n f → Placed f
  spread_placed width n =
      each (number_placed n) λ a j x.
      each (optional_placed OF number_placed j) λ w m o.
      lowest_placed (spread_charges width a w) (spread_above width a w)

  ident_placed : (l : List Variable) (n : ℕ) (f : Fault) → IdentStops d l n f → Placed f
  ident_placed l n =
      each (statement_placed VARIABLE n) λ u k s. each (number_placed k) λ a j x. lowest_placed (ident_charges l a) (ident_above l a)

  type_placed : (n : ℕ) (f : Fault) → TypeStops d n f → Placed f
  type_placed n = each (statement_placed TYPE n) λ u k s. each (gap_placed k) λ u m g. due_placed (gap_standing g)

  -- ---- VALUES
  module _ (quantity : Bool) (before : ℕ) where
    lines_placed : {b : Block} {a : Amount} {n : ℕ} (f : Fault) → LinesStops d quantity before b a n f → Placed f
    lines_placed {b} {a} {n} f (in_line z) =
        each (each (string_placed n) λ t k s. each (gap_placed k) λ w m g. lowest_placed (line_charges quantity before b a) (line_above
        quantity
        before b a))
        (λ l k x. each notes_placed λ u m s. or_placed (λ i. word_placed VALUES i) (due_placed (noted_standing s))) f z
    lines_placed f (refusal.LinesStops.later x s o v z) = lines_placed f z

    with_placed : (w : Bool) (r : Range) {n : ℕ} → Standing n → (f : Fault) → WithStops d quantity before w r n f → Placed f
    with_placed true r s = each (due_placed s) λ a m v. lines_placed
    with_placed false r s = each (due_placed s) λ u m h. word_placed VALUES m

    or_lines_placed : (a : Amount) (o : Option Amount) (n : ℕ) (f : Fault) → RangeOrStops d quantity before a o n f → Placed f
    or_lines_placed a none n = lines_placed
    or_lines_placed a (some b) n =
        each (gap_placed n) λ w k x.
        each (lowest_placed (range_charges quantity a b) (range_above quantity a b)) λ r m g.
        each notes_placed λ u j s. with_placed w r (noted_standing s)

    values_placed : (n : ℕ) (f : Fault) → ValuesStops d quantity before n f → Placed f
    values_placed n =
        each (statement_placed VALUES n) λ u k s.
        each notes_placed λ u j r.
        each (due_placed (noted_standing r)) λ a i v.
        each (optional_placed TO value_placed i) λ o m x. or_lines_placed a o m

  -- ---- variables
  rest_placed : (width before : ℕ) (t : Sort) (n : ℕ) (f : Fault) → RestStops d width before t n f → Placed f
  rest_placed width before Single n = values_placed false before n
  rest_placed width before Multiple n =
      each notes_placed λ u k s. each (or_placed (spread_placed width) never_placed) λ o m x. values_placed false before m
  rest_placed width before Quantity n = values_placed true before n
  rest_placed width before Character n = size_placed n
  rest_placed width before Logical n = never_placed

  variable_placed : (l : List Variable) (n : ℕ) (f : Fault) → VariableStops d l n f → Placed f
  variable_placed l n =
      each (ident_placed l n) λ x b a₁.
      each (phrase_placed NAME b) λ name c a₂.
      each (phrase_placed LABEL c) λ label e a₃.
      each (type_placed e) λ t g a₄.
      each (position_placed g) λ p h a₅.
      each (rest_placed (room p) (lines_all l) t h) λ r i a₆.
      each (statement_placed END i) λ u j a₇.
      each (word_placed VARIABLE j) λ u m a₈.
      lowest_placed (width_faults (variable_of x name label p r)) (width_above (variable_of x name label p r))

  variables_placed : {l : List Variable} {n : ℕ} (f : Fault) → VariablesStops d l n f → Placed f
  variables_placed {l} {n} f (in_variable z) = each (variable_placed l n) (λ v m x. notes_placed) f z
  variables_placed f (refusal.VariablesStops.later x s o z) = variables_placed f z

  -- ---- the heading
  once_placed : {l : List HeadingEntry} {i n : ℕ} {S : Fault → Type 0} → Standing n → ((f : Fault) → S f → Placed f) → (f : Fault)
      → Once l i n S f
      → Placed f
  once_placed s t f (second e) = due_here s
  once_placed s t f (first_time e z) = t f z

  texted_placed : (n : ℕ) (f : Fault) → TextedStops d n f → Placed f
  texted_placed n = each (string_placed n) λ t m s. notes_placed

  item_placed : (l : List HeadingEntry) {n : ℕ} → Standing n → (f : Fault) → ItemStops d l n f → Placed f
  item_placed l s =
      or_placed (λ m. once_placed s (texted_placed m))
      (or_placed (λ m. once_placed s (texted_placed m))
      (or_placed (λ m. once_placed s (texted_placed m))
      (or_placed (λ m. once_placed s (texted_placed m))
      (or_placed (λ m. once_placed s (each (word_placed NAMES m) λ u k x. notes_placed)) never_placed))))

  items_placed : {l : List HeadingEntry} {n : ℕ} → Standing n → (f : Fault) → ItemsStops d l n f → Placed f
  items_placed {l} s f (in_item z) = item_placed l s f z
  items_placed s f (refusal.ItemsStops.later x g r z) = items_placed (noted_standing r) f z

  read_standing : {l k : List HeadingEntry} {n m : ℕ} → ItemsRead d l n k m → Standing m
  read_standing (items x s z) = noted_standing s

  -- ---- the whole
  opening_placed : (f : Fault) → OpeningStops d f → Placed f
  opening_placed f z = by z where
    by : {f : Fault} → Opens d (Err f) → Placed f
    by (sss_due n) = due_here (place_standing 0)
    by (version_due b s n) = due_here (spaces_standing s)
    by (run_due b s n) = due_here (spaces_standing s)
    by (other_run b s n o) = version_other n o

  front_placed : (f : Fault) → FrontStops d f → Placed f
  front_placed =
      each opening_placed λ u a o.
      each notes_placed λ u n s.
      each (items_placed (noted_standing s)) λ l m x.
      each (due_placed (read_standing x)) λ u c h.
      each notes_placed λ u k r.
      each (or_placed string_placed never_placed) λ t e y.
      each (statement_placed RECORD e) λ u g z. letter_placed g

  ends_placed : (n : ℕ) (f : Fault) → EndsStops d n f → Placed f
  ends_placed n =
      each (word_placed RECORD n) λ u a x.
      each (statement_placed END a) λ u b y.
      each (word_placed SURVEY b) λ u c z.
      each (statement_placed END c) λ u e v. word_placed SSS e

  stops_placed : (f : Fault) → Stops d f → Placed f
  stops_placed = each front_placed λ h a x. each variables_placed λ l b y. ends_placed b

  -- REFUSALS IN WORDS, 2 to 8, of every definition
  pub refusal_says : (f : Fault) → survey_of d ≡ Not f → Placed f
  refusal_says f e = stops_placed f ((refused_exactly d f).0 e)

  -- so a 2 stands at the first byte of what stands there, or at the end
  pub two_stands : (f : Fault) → survey_of d ≡ Not f → f.number ≡ 2 → Standing f.place
  two_stands f e q = by (refusal_says f e) q where
    by : {f : Fault} → Placed f → f.number ≡ 2 → Standing f.place
    by (due_here s) q = s
    by (comment_open i u) q = absurd (omega arith)
    by (comment_bad p i u) q = absurd (omega arith)
    by (string_open i u) q = absurd (omega arith)
    by (string_bad p i u) q = absurd (omega arith)
    by (version_other n o) q = absurd (omega arith)
    by (judged_least l x h) q = absurd (omega arith)
