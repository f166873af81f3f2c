-- THE CLEAN TEXT READS BACK (document 02, C-11; READINGS-02, C-11 point 7): "Reading its output gives the same table apart from text places
-- and lengths, and equal decoded texts"; it is refused by none of 1 to 9; cleaning it again gives it again.
use Rattle.std.specs.Prelude.{◌≡◌, false, List, [], ◌∷◌, map, ℕ, ◌≤◌, ℤ, length}
use Rattle.std.proofs.Math.Path.{refl}
use Rattle.std.proofs.Common.{sym, ap, ◌∙◌, arith}
use Rattle.std.proofs.Math.Option.{Option}
use Rattle.cells.specs.rule.Cell.{cell}
use Rattle.signs.specs.declared.Sign.{Sign}
use Rattle.survey.specs.rule.Survey.{KeptText, Line, Variable, Heading, Survey}
use Rattle.survey.specs.rule.Table.{lines_of, table_of}
use Rattle.definition.specs.rule.Definition.{SssOutcome, Built, Refusal, sss_outcome}
use Rattle.grammar.specs.Grammar.{Definition}
use Rattle.grammar.specs.Faults.{Clean, faults_of}
use Rattle.grammar.specs.Refusal.{sound}
use Rattle.bridge.specs.Lowest.{never}
use Rattle.grammar_laws.specs.Whole.{definition_exactly, says_once}
use Rattle.grammar_laws.specs.Outcome.{NamesStand, not_asked, all_good, Settles, outcome_exactly}
use Rattle.grammar_laws.specs.Outcome as outcome
use Rattle.clean_text.specs.rule.Clean.{clean_lines, clean_of}
use Rattle.printed.specs.Left.{Yields, yields}
use Rattle.printed.specs.Strings.{SameText}
use Rattle.clean_laws.specs.Said.{survey_says}
use Rattle.clean_laws.specs.Same.{Alike, nil, more, Both, neither, either, SameLine, SameVariable, SameHeading, SameSurvey}
use Rattle.clean_laws.specs.Derived.{clean_derived}
use Rattle.clean_laws.specs.rule.Texts.{text_at}
use Rattle.clean_laws.specs.rule.Reads.{text_signs, perhaps_signs, head_texts, Reads}
use Rattle.clean_laws.specs.rule.Lined.{Lined}
use Rattle.clean_laws.specs.Lined.{clean_lined}
use Rattle.clean_laws.specs.Again.{clean_again}
use Rattle.clean_laws.specs.Columns.{shape, length_same}
use Rattle.clean_laws.specs.Masked.{masked}
use Rattle.clean_laws.specs.Tables.{table_same, table_long, names_same, rows_told, rows_room}
use Rattle.clean_laws.specs.Apart.{masked_keeps}
use Rattle.clean_laws.specs.Faults.{survey_clean, survey_short}

-- ---- a variable's name, label and value texts, decoded
unfoldable pub variable_texts : List ℕ → Variable → List (List Sign)
variable_texts d v = text_signs d v.name ∷ text_signs d v.label ∷ map (λ l. text_signs d l.text) (lines_of v)

-- THE PROMISE: what the clean text of d, of the survey s, says when it is read
pub record CleanReads (d : List ℕ) (s : Survey) : Type 0 where
  pub survey : Survey
  pub reads : Reads (clean_of d s) survey
  -- "the same table apart from text places and lengths": as long, and equal in every other number
  pub long : length (table_of survey.variables) ≡ length (table_of s.variables)
  pub cells : (k : ℕ) → text_at (length s.variables) k ≡ false → cell (table_of survey.variables) k ≡ cell (table_of s.variables) k
  pub table : masked (table_of survey.variables) ≡ masked (table_of s.variables)
  -- "equal decoded texts", the heading's and the variables'
  pub heading_texts : head_texts (clean_of d s) survey.heading ≡ head_texts d s.heading
  pub variable_texts_lem : map (variable_texts (clean_of d s)) survey.variables ≡ map (variable_texts d) s.variables
  -- "DATE to USER, STANDARD NAMES and TITLE kept", and the record's letter
  pub standard : survey.heading.standard ≡ s.heading.standard
  pub letter : survey.heading.letter ≡ s.heading.letter
  -- cleaning it again gives it again
  pub again : clean_of (clean_of d s) survey ≡ clean_of d s

module _ (d p : List ℕ) where
  perhaps_same : {o o' : Option KeptText} → Both (SameText d p) o o' → perhaps_signs p o' ≡ perhaps_signs d o
  perhaps_same neither = refl
  perhaps_same (either s) = rw s.decoded

  head_same : {h h' : Heading} → SameHeading d p h h' → head_texts p h' ≡ head_texts d h
  unfolding head_texts
  head_same s =
      rw (perhaps_same s.date, perhaps_same s.time, perhaps_same s.origin, perhaps_same s.user, perhaps_same s.title)

  lines_same : {l l' : List Line} → Alike (SameLine d p) l l' → map (λ l. text_signs p l.text) l' ≡ map (λ l. text_signs d l.text) l
  lines_same nil = refl
  lines_same (more s r) = rw (s.text.decoded, lines_same r)

  variables_same : {l l' : List Variable} → Alike (SameVariable d p) l l' → map (variable_texts p) l' ≡ map (variable_texts d) l
  unfolding variable_texts
  variables_same nil = refl
  variables_same (more s r) = rw (s.name.decoded, s.label.decoded, lines_same (shape d p s).lines, variables_same r)

  cells_same : {l l' : List Variable} → Alike (SameVariable d p) l l' → (k : ℕ) → text_at (length l) k ≡ false
      → cell (table_of l') k ≡ cell (table_of l) k
  cells_same {l} {l'} s k e =
      let n = length_same d p s in
      sym (kept l' k (rw n e)) ∙ ap (λ (t : List ℤ). cell t k) (table_same d p s) ∙ kept l k e where
        kept : (l : List Variable) (k : ℕ) → text_at (length l) k ≡ false → cell (masked (table_of l)) k ≡ cell (table_of l) k
        kept l k e = masked_keeps (table_of l) k (rw (rows_told l) (rows_room l)) (rw (rows_told l) e)

  names_stand : {s s' : Survey} → SameSurvey d p s s' → NamesStand d s → NamesStand p s'
  names_stand s (not_asked e) = not_asked (s.heading.standard ∙ e)
  names_stand {s' = s'} s (all_good h) = all_good (rw (length_same d p s.variables, names_same d p s.variables) h)

-- ---- d is read as s exactly when its text says so, with names that stand
reads_is : (d : List ℕ) {s : Survey} {m : ℕ} → length d ≤ 1048576 → Definition d s m → Clean (faults_of s) → NamesStand d s → Reads d s
reads_is d {s} {m} h x c w = record {
  end = m;
  says = (definition_exactly d s m).1 (x, c);
  built = λ n l. (outcome_exactly d n (Built s.variables)).1 (outcome.read h (sound x c) w l);
  no_room = λ n l. (outcome_exactly d n (Refusal 10 0)).1 (outcome.no_room h (sound x c) w l);
}

module _ (d : List ℕ) {s : Survey} {m : ℕ} (short : length (clean_of d s) ≤ 1048576) (x : Definition d s m) (c : Clean (faults_of s))
    (w : NamesStand d s) where
  back : Yields (clean_of d s) (Definition (clean_of d s)) (SameSurvey d (clean_of d s) s) [] → CleanReads d s
  back (yields {a = s'} y r l) = record {
    survey = s';
    reads = reads_is (clean_of d s) short y (survey_clean d (clean_of d s) r c) (names_stand d (clean_of d s) r w);
    long = table_long d (clean_of d s) r.variables;
    cells = cells_same d (clean_of d s) r.variables;
    table = table_same d (clean_of d s) r.variables;
    heading_texts = head_same d (clean_of d s) r.heading;
    variable_texts_lem = variables_same d (clean_of d s) r.variables;
    standard = r.heading.standard;
    letter = r.heading.letter;
    again = clean_again d (clean_of d s) r;
  }

  clean_back : CleanReads d s
  clean_back = back (clean_derived d (survey_says d (survey_short s c) x))

-- what is built was derived, with nothing at fault and names that stand
data Derived (d : List ℕ) (l : List Variable) : Type 0 where
  derived : {s : Survey} {m : ℕ} → length d ≤ 1048576 → Definition d s m → Clean (faults_of s) → NamesStand d s → s.variables ≡ l
      → Derived d l

built_derived : (d : List ℕ) (n : ℕ) (l : List Variable) → sss_outcome d n ≡ Built l → Derived d l
built_derived d n l e = by ((outcome_exactly d n (sss_outcome d n)).0 refl) e where
  by : {o : SssOutcome} → Settles d n o → o ≡ Built l → Derived d l
  by (outcome.too_long h) e = never cc
  by (outcome.stopped h z) e = never cc
  by (outcome.misnamed h x q w) e = never cc
  by (outcome.no_room h x w k) e = never cc
  by (outcome.read {s = s} h (sound x c) w k) e = let q : s.variables ≡ l = cc in derived h x c w q

-- A TABLE THAT WAS BUILT is that of a survey which d is read as
pub data ReadAs (d : List ℕ) (l : List Variable) : Type 0 where
  read_as : {s : Survey} → Reads d s → s.variables ≡ l → ReadAs d l

pub built_reads : (d : List ℕ) (n : ℕ) (l : List Variable) → sss_outcome d n ≡ Built l → ReadAs d l
built_reads d n l e = by (built_derived d n l e) where
  by : Derived d l → ReadAs d l
  by (derived h x c w q) = read_as (reads_is d h x c w) q

-- THE READING BACK: of a definition d that is read as s, the clean text is read, and says the same
pub clean_reads : (d : List ℕ) (s : Survey) → Reads d s → length (clean_of d s) ≤ 1048576 → CleanReads d s
clean_reads d s r h =
    let x = (definition_exactly d s r.end).0 r.says in
    by x (built_derived d (length (table_of s.variables)) s.variables (r.built (length (table_of s.variables)) (omega arith))) where
      by : Definition d s r.end × Clean (faults_of s) → Derived d s.variables → CleanReads d s
      by x (derived k y c w q) =
          let e = says_once d (sound x.0 x.1) (sound y c) in
          clean_back d h x.0 x.1 (rw (sym e.0) at w)

-- THE LINES of the clean text: as many as statements, each of bytes from 32 on, one at least, and CR LF
pub clean_lines_lem : (d : List ℕ) (s : Survey) → Reads d s → Lined (length (clean_lines d s)) (clean_of d s)
clean_lines_lem d s r =
    let x = (definition_exactly d s r.end).0 r.says in
    clean_lined d (survey_says d (survey_short s x.1) x.0)
