-- A DEFINITION IS READ EXACTLY AS THE GRAMMAR DERIVES IT, and refused exactly where a beginning of a derivation stops.
use Rattle.std.specs.Prelude.{◌↔◌, ◌≡◌, List, [], ℕ, suc, length, Ok, Err}
use Rattle.std.proofs.Math.Path.{refl}
use Rattle.std.proofs.Common.{sym, ◌∙◌}
use Rattle.std.proofs.Math.Option.{Option, none, some}
use Rattle.scan.specs.rule.Text.{text, place_of}
use Rattle.scan.specs.rule.Number.{is_value}
use Rattle.scan.specs.Word.{capitals}
use Rattle.tokens.specs.declared.Fault.{Fault}
use Rattle.token_laws.specs.Opening.{Opens, one_one, sss, version, opening_exactly}
use Rattle.statements.specs.rule.Words.{SURVEY, TITLE, RECORD, SSS, END}
use Rattle.survey.specs.rule.Survey.{KeptText, Variable, Heading, Survey}
use Rattle.reading.specs.rule.Result.{Result, Is, Not, Reader, bind, repeat}
use Rattle.reading.specs.rule.Token.{either, letter}
use Rattle.reading.specs.rule.Opening as rule
use Rattle.reading.specs.rule.Statement.{notes, statement}
use Rattle.reading.specs.rule.Whole.{HeadingEntry, heading, texted, heading_entered, another_variable, front, ends, survey, survey_of}
use Rattle.bridge.specs.Lowest.{never}
use Rattle.bridge.specs.Tokens.{to_reading}
use Rattle.bridge.specs.Openings.{opening_on}
use Rattle.grammar.specs.Token.{Here, Keyword, Letter, Notes, Statement}
use Rattle.grammar.specs.Token as token
use Rattle.grammar.specs.Grammar.{Opening, Items, Title, Definition, definition}
use Rattle.grammar.specs.Grammar as grammar
use Rattle.grammar.specs.Faults.{Clean, faults_of}
use Rattle.grammar.specs.Refusal.{only, Or, Never, Noted, noted, StringStops, ItemsRead, items, TitleRead, OpeningStops}
use Rattle.grammar.specs.Refusal.{FrontStops}
use Rattle.grammar.specs.Refusal.{EndsStops, FrontRead, VariablesRead, variables, Stops, Sound, sound}
use Rattle.grammar.specs.Refusal as refusal
use Rattle.grammar_laws.specs.Views.{View, reads, halts, recast, then, word_at_lem, word_not, either_view, either_halted, then_halted}
use Rattle.grammar_laws.specs.Views.{then_halted_by}
use Rattle.grammar_laws.specs.Places.{differ, other_word}
use Rattle.grammar_laws.specs.Tokens.{run_there, run_read, here_view, here_is, here_not, word_view, word_is, word_halted}
use Rattle.grammar_laws.specs.Tokens.{string_view, string_is, string_halted, letter_view, letter_is, letter_halted}
use Rattle.grammar_laws.specs.Notes.{note_capitals, notes_view, notes_is, notes_halted, statement_view, statement_is}
use Rattle.grammar_laws.specs.Notes.{statement_halted}
use Rattle.grammar_laws.specs.Variables.{mapped, map_halted, statement_back, statement_fore}
use Rattle.grammar_laws.specs.Loops.{AllRead, all_read, variables_view, variables_is, variables_halted}
use Rattle.grammar_laws.specs.Headings.{stay, items_back, items_view, items_is, items_read_is, items_halted}

assoc : {A B C : Type 0} (r : Result A) (k : A → Reader B) (h : B → Reader C) → bind (bind r k) h ≡ bind r λ a n. bind (k a n) h
assoc (Is a n) k h = refl
assoc (Not f) k h = refl

module _ (d : List ℕ) where
  abbrev start : ℕ
  start = place_of (text d 0)

  -- ---- the opening
  opened : {m : ℕ} → Opens d (Ok m) → Opening d m
  opened (one_one {p = p} (version (sss h) s w) r e) = grammar.opening h s w r (rw e at (run_read is_value p (text d p)))

  opens : {m : ℕ} → Opening d m → Opens d (Ok m)
  opens (grammar.opening h s w r x) = let c = run_there x in rw c.0 at (one_one (version (sss h) s w) r c.1)

  opening_view : View (only (Opening d)) (OpeningStops d) (rule.opening d start)
  opening_view = by (rule.opening d start) ((opening_exactly d (to_reading (rule.opening d start))).0 (opening_on d)) where
    by : (r : Result Unit) → Opens d (to_reading r) → View (only (Opening d)) (OpeningStops d) r
    by (Is u m) o = reads (opened o)
    by (Not f) o = halts o

  opening_is : {m : ℕ} → Opening d m → rule.opening d start ≡ Is tt m
  opening_is {m} o = by (rule.opening d start) (sym (opening_on d) ∙ (opening_exactly d (Ok m)).1 (opens o)) where
    by : (r : Result Unit) → to_reading r ≡ Ok m → r ≡ Is tt m
    by (Is u k) e = let q : k ≡ m = cc in rw q
    by (Not f) e = never cc

  opening_halted : {f : Fault} → OpeningStops d f → rule.opening d start ≡ Not f
  opening_halted {f} o = by (rule.opening d start) (sym (opening_on d) ∙ (opening_exactly d (Err f)).1 o) where
    by : (r : Result Unit) → to_reading r ≡ Err f → r ≡ Not f
    by (Is u k) e = never cc
    by (Not g) e = let q : g ≡ f = cc in rw q

  -- ---- optional TITLE
  abbrev title_or : Reader (Option KeptText)
  title_or = either d TITLE (texted d) (λ m. Is none m)

  title_view : (n : ℕ) → View (TitleRead d n) (Or d TITLE n (StringStops d) Never) (title_or n)
  unfolding capitals
  title_view n =
      either_view d {w = TITLE} refl n _ (λ m. Is none m) (λ m h. mapped some (string_view d m) (λ t k s. refusal.TitleRead.given h s))
      (λ o. reads
      (refusal.untitled o))

  title_read_is : (n : ℕ) {t : Option KeptText} {m : ℕ} → TitleRead d n t m → title_or n ≡ Is t m
  unfolding capitals
  title_read_is n (refusal.TitleRead.given h s) = rw (word_at_lem d {w = TITLE} refl h, string_is d s)
  title_read_is n (refusal.untitled o) = rw (word_not d {w = TITLE} refl o)

  title_halted : (n : ℕ) {f : Fault} → Or d TITLE n (StringStops d) Never f → title_or n ≡ Not f
  unfolding capitals
  title_halted n = either_halted d {w = TITLE} refl n _ (λ m. Is none m) (λ m f z. rw (string_halted d m z)) (λ f z. absurd z)

  -- TITLE or none, and RECORD behind it
  titled_is : {A : Type 0} {n k m : ℕ} {t : Option KeptText} (K : Option KeptText → Reader A) → Title d n t k → Statement d RECORD k m
      → bind (notes d n) (λ u n. bind (title_or n) λ t n. bind (statement d RECORD n) λ u. K t) ≡ K t m
  unfolding capitals differ
  titled_is K (grammar.title (token.phrase (token.statement s h) x)) r =
      rw (
        notes_is d (noted s (other_word d {w = TITLE} refl note_capitals refl h)),
        word_at_lem d {w = TITLE} refl h,
        string_is d x,
        statement_is d {w = RECORD} refl refl r,
      )
  titled_is K grammar.untitled (token.statement s h) =
      rw (
        notes_is d (noted s (other_word d {w = RECORD} refl note_capitals refl h)),
        word_not d {w = TITLE} refl (other_word d {w = RECORD} refl refl refl h),
        statement_is d {w = RECORD} refl refl (statement_fore d s h),
      )

  -- ---- up to the letter
  titled : {c k e f g : ℕ} {t : Option KeptText} {a b : ℕ} {l : List HeadingEntry} {x : ℕ} → Opening d a → Items d [] a l b
      → Statement d SURVEY b c
      → Notes d c k → TitleRead d k t e → Statement d RECORD e f → Letter d f x g → FrontRead d (heading l t x) g
  titled o i v r (refusal.TitleRead.given h s) z w = refusal.front o i v (grammar.title (token.phrase (token.statement r h) s)) z w
  titled o i v r (refusal.untitled h) z w = refusal.front o i v grammar.untitled (statement_back d r z) w

  front_of_lem : {a m c k e f g : ℕ} {t : Option KeptText} {l : List HeadingEntry} {x : ℕ} → Opening d a → ItemsRead d [] a l m
      → Here d SURVEY m c
      → Noted d c k → TitleRead d k t e → Statement d RECORD e f → Letter d f x g → FrontRead d (heading l t x) g
  front_of_lem o (items i (noted s z) n) h (noted r y) t v w = titled o i (token.statement s h) r t v w

  notes_of : {n m : ℕ} → Noted d n m → Notes d n m
  notes_of (noted s o) = s

  pub front_view : View (FrontRead d) (FrontStops d) (front d start)
  unfolding front capitals
  front_view =
      then opening_view λ u a o.
      then (notes_view d a) λ u n s.
      then (items_view d n (stay d s)) λ l m x.
      then (here_view d {w = SURVEY} refl m) λ u c h.
      then (notes_view d c) λ u k r.
      then (title_view k) λ t e y.
      then (statement_view d {w = RECORD} refl e) λ u f z.
      mapped (heading l t) (letter_view d f) (λ b g w. front_of_lem o (items_back d (notes_of s) x) h r y z w)

  pub front_is : {h : Heading} {m : ℕ} → FrontRead d h m → front d start ≡ Is h m
  unfolding front capitals
  front_is (refusal.front {a = a} {c = c} {l = l} o i (token.statement s h) t r w) =
      rw (opening_is o)
      (sym (assoc (notes d a) (λ u. repeat (suc (length d)) (heading_entered d) []) _)
      ∙ (rw (items_is d i s h, here_is d {w = SURVEY} refl h) (titled_is (λ t n. bind (letter d n) λ b m. Is (heading l t b) m) t r ∙ rw
      (letter_is d w))))

  pub front_halted : {f : Fault} → FrontStops d f → front d start ≡ Not f
  unfolding front capitals differ
  front_halted =
      then_halted _ _ (λ f. opening_halted) (λ u m. opening_is) λ u a f.
      then_halted_by _ _ (λ f. notes_halted d a) (λ u m. notes_is d) λ u n f s.
      then_halted _ _ (λ f. items_halted d n (stay d s)) (λ l m. items_read_is d (stay d s)) λ l m f.
      then_halted _ _ (λ f. here_not d {w = SURVEY} refl) (λ u m. here_is d {w = SURVEY} refl) λ u c f.
      then_halted _ _ (λ f. notes_halted d c) (λ u m. notes_is d) λ u k f.
      then_halted _ _ (λ f. title_halted k) (λ t m. title_read_is k) λ t e f.
      then_halted _ _ (λ f. statement_halted d {w = RECORD} refl e) (λ u m. statement_is d refl refl) λ u g f z.
      map_halted (heading l t) (letter_halted d g z)

  -- ---- END RECORD, END SURVEY, END SSS, behind the first END
  data EndsRead (n m : ℕ) : Type 0 where
    ends_read : {a b c e : ℕ} → Keyword d RECORD n a → Statement d END a b → Keyword d SURVEY b c → Statement d END c e → Keyword d SSS e m
        → EndsRead n m

  ends_view : (n : ℕ) → View (only (EndsRead n)) (EndsStops d n) (ends d n)
  unfolding ends capitals
  ends_view n =
      then (word_view d {w = RECORD} refl n) λ u a x.
      then (statement_view d {w = END} refl a) λ u b y.
      then (word_view d {w = SURVEY} refl b) λ u c z.
      then (statement_view d {w = END} refl c) λ u e v.
      recast (λ u m w. ends_read x y z v w) (λ f z. z) (word_view d {w = SSS} refl e)

  ends_is : {n m : ℕ} → EndsRead n m → ends d n ≡ Is tt m
  unfolding ends capitals differ
  ends_is (ends_read x y z v w) =
      rw (
        word_is d {w = RECORD} refl x,
        statement_is d {w = END} refl refl y,
        word_is d {w = SURVEY} refl z,
        statement_is d {w = END} refl refl v,
        word_is d {w = SSS} refl w,
      )

  ends_halted : (n : ℕ) {f : Fault} → EndsStops d n f → ends d n ≡ Not f
  unfolding ends capitals differ
  ends_halted n =
      then_halted _ _ (λ f. word_halted d {w = RECORD} refl n) (λ u m. word_is d {w = RECORD} refl) λ u a f.
      then_halted _ _ (λ f. statement_halted d {w = END} refl a) (λ u m. statement_is d refl refl) λ u b f.
      then_halted _ _ (λ f. word_halted d {w = SURVEY} refl b) (λ u m. word_is d {w = SURVEY} refl) λ u c f.
      then_halted _ _ (λ f. statement_halted d {w = END} refl c) (λ u m. statement_is d refl refl) λ u e f.
      word_halted d {w = SSS} refl e

  -- ---- the whole
  abbrev survey_from : Heading → List Variable → Survey
  survey_from h l = record { heading = h; variables = l }

  whole_of : {h : Heading} {l : List Variable} {a b m : ℕ} → FrontRead d h a → VariablesRead d a l b → EndsRead b m
      → Sound (Definition d) faults_of (survey_from h l) m
  whole_of (refusal.front o i v t r w) (variables x e c) (ends_read y₁ y₂ y₃ y₄ y₅) =
      sound (definition o i v t r w x (token.end e y₁) (token.end y₂ y₃) (token.end y₄ y₅)) c

  variables_read : {n m : ℕ} {l : List Variable} → AllRead d [] n l m → VariablesRead d n l m
  variables_read (all_read x e c) = variables x e c

  pub survey_view : View (Sound (Definition d) faults_of) (Stops d) (survey_of d)
  unfolding survey_of survey
  survey_view =
      then front_view λ h a x.
      then (recast (λ l m. variables_read) (λ f z. z) (variables_view d a)) λ l b y.
      mapped (λ u. survey_from h l) (ends_view b) (λ u m z. whole_of x y z)

  variables_read_is : {n m : ℕ} {l : List Variable} → VariablesRead d n l m → repeat 513 (another_variable d) [] n ≡ Is l m
  variables_read_is (variables x e c) = variables_is d x e c

  pub survey_is : {s : Survey} {m : ℕ} → Sound (Definition d) faults_of s m → survey_of d ≡ Is s m
  unfolding survey_of survey
  survey_is (sound (definition o i v t r w x (token.end e y₁) (token.end y₂ y₃) (token.end y₄ y₅)) c) =
      rw (front_is (refusal.front o i v t r w), variables_is d x e c, ends_is (ends_read y₁ y₂ y₃ y₄ y₅))

  pub survey_halted : {f : Fault} → Stops d f → survey_of d ≡ Not f
  unfolding survey_of survey
  survey_halted =
      then_halted _ _ (λ f. front_halted) (λ h m. front_is) λ h a f.
      then_halted _ _ (λ f. variables_halted d a) (λ l m. variables_read_is) λ l b f z.
      map_halted (λ u. survey_from h l) (ends_halted b z)

  -- READ EXACTLY: a definition is read as the survey s, up to m, exactly when the grammar derives its text saying s and no fault of 5 to 8
  -- is named
  pub definition_exactly : (s : Survey) (m : ℕ) → (survey_of d ≡ Is s m) ↔ (Definition d s m × Clean (faults_of s))
  definition_exactly s m = (by survey_view, λ x. survey_is (sound x.0 x.1)) where
    taken : {t : Survey} {k : ℕ} → Sound (Definition d) faults_of t k → t ≡ s → k ≡ m → Definition d s m × Clean (faults_of s)
    taken (sound x c) p q = (rw (p, q) at x, rw p at c)

    by : {r : Result Survey} → View (Sound (Definition d) faults_of) (Stops d) r → r ≡ Is s m → Definition d s m × Clean (faults_of s)
    by (reads {a = t} {m = k} x) e = let p : t ≡ s = cc in let q : k ≡ m = cc in taken x p q
    by (halts z) e = never cc

  -- REFUSED EXACTLY: with f exactly where a beginning of a derivation stops with f
  pub refused_exactly : (f : Fault) → (survey_of d ≡ Not f) ↔ Stops d f
  refused_exactly f = (by survey_view, survey_halted) where
    by : {r : Result Survey} → View (Sound (Definition d) faults_of) (Stops d) r → r ≡ Not f → Stops d f
    by (reads x) e = never cc
    by (halts {f = g} z) e = let q : g ≡ f = cc in rw q at z

  -- a text says one survey at most with nothing at fault
  pub says_once : {s t : Survey} {m k : ℕ} → Sound (Definition d) faults_of s m → Sound (Definition d) faults_of t k → (s ≡ t) × (m ≡ k)
  says_once x y = let e = sym (survey_is x) ∙ survey_is y in (cc, cc)
