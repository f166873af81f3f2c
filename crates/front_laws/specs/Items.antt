-- The statements of the heading: each is found where it was given, whatever their order.
use Rattle.std.proofs.Math.Path.{◌≡◌, refl}
use Rattle.std.proofs.Common.{sym, ◌∙◌, not-suc-le-zero, arith}
use Rattle.std.specs.Prelude.{Bool, ◌||◌, ℕ, zero, suc, ◌+◌, ◌≤◌, ◌<◌, eqb}
use Rattle.std.proofs.Math.Bool.{true, false, cond}
use mathlib.Core.List.{List, [], ◌∷◌}
use Rattle.std.proofs.Math.Option.{Option, none, some}
use borrow.Author.Tests.{eq-eqb, ne_eqb, eqb-true, eqb-false}
use Rattle.below.specs.Below.{holds_not}
use Rattle.scan.specs.Word.{capitals}
use Rattle.statements.specs.rule.Words.{NOTE, DATE, TIME, ORIGIN, USER, STANDARD, NAMES, SURVEY}
use Rattle.survey.specs.rule.Survey.{KeptText}
use Rattle.survey.specs.rule.Width.{some_of}
use Rattle.reading.specs.rule.Whole.{HeadingEntry, entry, given, entered_text}
use Rattle.grammar.specs.Token.{Here, Keyword, Notes, Statement, String}
use Rattle.grammar.specs.Token as token
use Rattle.grammar.specs.Grammar.{Item, Items, no_more, more}
use Rattle.grammar.specs.Grammar as says
use Rattle.grammar_laws.specs.Places.{differ, other_word}
use Rattle.grammar_laws.specs.Notes.{note_capitals}
use Rattle.steps.specs.declared.Found.{Found}
use Rattle.steps.specs.Step.{string_span, statement_found}
use Rattle.steps.specs.Law.{statement_found_lem, statement_missed, keyword_past_lem, string_past}
use Rattle.page_laws.specs.Tokens.{string_end}
use Rattle.fronts.specs.Front.{item, found, item_at, item_past, item_found}

module _ (d : List ℕ) where
  -- ---- one statement
  pub record Spoken (p : ℕ) (t : KeptText) : Type 0 where
    pub from : (string_span d p).from ≡ t.place
    pub end : (string_span d p).end ≡ t.place + t.length

  spoken : {p m : ℕ} {t : KeptText} → String d p t m → Spoken p t
  spoken x = record { from = rw (string_past d x); end = rw (string_past d x) (string_end d x) }

  pub record Stands (n : ℕ) (e : HeadingEntry) (m : ℕ) : Type 0 where
    pub which : (item_at d n).which ≡ e.item
    pub past : item_past d (item_at d n) ≡ m
    pub few : e.item ≤ 4
    pub told : (t : KeptText) → e.text ≡ some t → Spoken (item_at d n).next t

  -- another word is not this one
  abbrev Misses : List ℕ → ℕ → ℕ → Type 0
  Misses v n k = statement_found d n v ≡ found false k

  misses : {n k m : ℕ} (w v : List ℕ) → capitals w ≡ true → capitals v ≡ true → differ w NOTE ≡ true → differ w v ≡ true → Notes d n k
      → Here d w k m → Misses v n k
  misses w v a b o q r h = statement_missed d {w = v} b r (other_word d {w = w} {v = NOTE} a note_capitals o h)
      (other_word d {w = w} {v = v} a b q h)

  same_text : {t u : KeptText} → ◌≡◌ {A = Option KeptText} (some t) (some u) → t ≡ u
  same_text e = cc

  told_by : {p m : ℕ} {t : KeptText} → String d p t m → (u : KeptText) → ◌≡◌ {A = Option KeptText} (some t) (some u) → Spoken p u
  told_by {p} x u e = rw (same_text e) at (spoken x)

  pub item_stands : {n m : ℕ} {e : HeadingEntry} → Item d n e m → Stands n e m
  unfolding item_at item_past capitals differ
  item_stands (says.date (token.phrase (token.statement r h) x)) =
      let a = statement_found_lem d {w = DATE} refl refl (token.statement r h) in
      record { which = rw a; past = rw (a, string_past d x); few = omega arith; told = λ u e. rw a (told_by x u e) }
  item_stands (says.time (token.phrase (token.statement r h) x)) =
      let z = misses TIME DATE refl refl refl refl r h in
      let a = statement_found_lem d {w = TIME} refl refl (token.statement r h) in
      record { which = rw (z, a); past = rw (z, a, string_past d x); few = omega arith; told = λ u e. rw (z, a) (told_by x u e) }
  item_stands (says.origin (token.phrase (token.statement r h) x)) =
      let z = misses ORIGIN DATE refl refl refl refl r h in
      let y = misses ORIGIN TIME refl refl refl refl r h in
      let a = statement_found_lem d {w = ORIGIN} refl refl (token.statement r h) in
      record { which = rw (z, y, a); past = rw (z, y, a, string_past d x); few = omega arith; told = λ u e. rw (z, y, a) (told_by x u e) }
  item_stands (says.user (token.phrase (token.statement r h) x)) =
      let z = misses USER DATE refl refl refl refl r h in
      let y = misses USER TIME refl refl refl refl r h in
      let v = misses USER ORIGIN refl refl refl refl r h in
      let a = statement_found_lem d {w = USER} refl refl (token.statement r h) in
      record {
        which = rw (z, y, v, a);
        past = rw (z, y, v, a, string_past d x);
        few = omega arith;
        told = λ u e. rw (z, y, v, a)
            (told_by x u e);
      }
  item_stands (says.standard_names (token.statement r h) k) =
      let z = misses STANDARD DATE refl refl refl refl r h in
      let y = misses STANDARD TIME refl refl refl refl r h in
      let v = misses STANDARD ORIGIN refl refl refl refl r h in
      let w = misses STANDARD USER refl refl refl refl r h in
      let a = statement_found_lem d {w = STANDARD} refl refl (token.statement r h) in
      record {
        which = rw (z, y, v, w, a);
        past = rw (z, y, v, w, a, keyword_past_lem d {w = NAMES} refl k);
        few = omega arith;
        told = λ u e. let q : ◌≡◌ {A = ℕ} 0 1 = cc in absurd (omega arith);
      }

  survey_stands : {n c : ℕ} → Statement d SURVEY n c → item_at d n ≡ item 5 n
  unfolding item_at capitals differ
  survey_stands (token.statement r h) =
      rw (
        misses SURVEY DATE refl refl refl refl r h,
        misses SURVEY TIME refl refl refl refl r h,
        misses SURVEY ORIGIN refl refl refl refl r h,
        misses SURVEY USER refl refl refl refl r h,
        misses SURVEY STANDARD refl refl refl refl r h,
      )

  found_step : {n m : ℕ} {e : HeadingEntry} (f q : ℕ) → Stands n e m → item_found (suc f) d n q
      ≡ cond (eqb e.item q) (found true (item_at d n).next) (item_found f d m q)
  unfolding item_found
  found_step {e = e} f q s = rw (s.past, s.which, ne_eqb e.item 5 (λ z. omega (arith, s.few)))

  found_none : {n c : ℕ} (f q : ℕ) → Statement d SURVEY n c → item_found (suc f) d n q ≡ cond (eqb 5 q) (found true n) (found false n)
  unfolding item_found
  found_none f q s = rw (survey_stands s)

-- ---- how many were not given yet
abbrev absent : ℕ → List HeadingEntry → ℕ
absent j l = cond (given j l) 0 1

abbrev missing : List HeadingEntry → ℕ
missing l = absent 0 l + (absent 1 l + (absent 2 l + (absent 3 l + absent 4 l)))

missing_less : (i : ℕ) (t : Option KeptText) (l : List HeadingEntry) → i ≤ 4 → given i l ≡ false → suc (missing (entry i t ∷ l)) ≤ missing l
unfolding given some_of
missing_less zero t l h g = rw g (omega arith)
missing_less (suc zero) t l h g = rw g (omega arith)
missing_less (suc (suc zero)) t l h g = rw g (omega arith)
missing_less (suc (suc (suc zero))) t l h g = rw g (omega arith)
missing_less (suc (suc (suc (suc zero)))) t l h g = rw g (omega arith)
missing_less (suc (suc (suc (suc (suc i))))) t l h g = absurd (omega arith)

-- ---- what was given stays
given_apart : (i j : ℕ) (l : List HeadingEntry) → given i l ≡ false → given j l ≡ true → eqb j i ≡ false
given_apart i j l g h = ne_eqb j i (λ e. holds_not (rw e at h) g)

here : (j : ℕ) (e : HeadingEntry) (l : List HeadingEntry) → e.item ≡ j → given j (e ∷ l) ≡ true
unfolding given some_of
here j e l a = rw (eq-eqb j e.item (sym a))

there : (j : ℕ) (e : HeadingEntry) (l : List HeadingEntry) → (e.item ≡ j → ⊥) → given j l ≡ false → given j (e ∷ l) ≡ false
unfolding given some_of
there j e l a h = rw (ne_eqb j e.item (λ z. a (sym z))) h

first : (j : ℕ) (e : HeadingEntry) (l : List HeadingEntry) → e.item ≡ j → entered_text j (e ∷ l) ≡ e.text
unfolding entered_text
first j e l a = rw (eq-eqb j e.item (sym a))

module _ (d : List ℕ) where
  later : {l k : List HeadingEntry} {n m : ℕ} (j : ℕ) → Items d l n k m → given j l ≡ true → (entered_text j k ≡ entered_text j l)
      × (given j k ≡ true)
  unfolding given some_of entered_text
  later j no_more h = (refl, h)
  later j (more {l = l} {e = e} x g y) h =
      let q = given_apart e.item j l g h in
      let r = later j y (rw (q, h) refl) in
      (r.0 ∙ rw q, r.1)

  -- not given at all
  untold : (j : ℕ) (l : List HeadingEntry) → given j l ≡ false → entered_text j l ≡ none
  unfolding given some_of entered_text
  untold j [] h = refl
  untold j (e ∷ l) h = by (eqb j e.item) h (untold j l) where
    by : (q : Bool) → (q || given j l) ≡ false → (given j l ≡ false → entered_text j l ≡ none) → cond q e.text (entered_text j l) ≡ none
    by true h ih = holds_not refl h
    by false h ih = ih h

  -- what is found tells what was given
  pub data Tells (f : Found) : Option KeptText → Type 0 where
    nothing : f.there ≡ false → Tells f none
    a_text : {t : KeptText} → f.there ≡ true → Spoken d f.next t → Tells f (some t)

  -- a text of the heading is a DATE, TIME, ORIGIN or USER
  texted : {n m : ℕ} {e : HeadingEntry} → Item d n e m → e.item ≤ 3 → (t : KeptText) × (e.text ≡ some t)
  texted (says.date {t = t} x) h = (t, refl)
  texted (says.time {t = t} x) h = (t, refl)
  texted (says.origin {t = t} x) h = (t, refl)
  texted (says.user {t = t} x) h = (t, refl)
  texted (says.standard_names s k) h = absurd (omega arith)

  less : {n m : ℕ} {e : HeadingEntry} (l : List HeadingEntry) → Stands d n e m → given e.item l ≡ false → suc (missing (e ∷ l))
      ≤ missing l
  less {e = e} l s g = missing_less e.item e.text l s.few g

  -- the place behind all of them
  pub items_end : (f : ℕ) {l k : List HeadingEntry} {n m c : ℕ} → Items d l n k m → Statement d SURVEY m c → missing l < f
      → (item_found f d n 5).next ≡ m
  items_end zero x s h = absurd (not-suc-le-zero h)
  items_end (suc f) no_more s h = rw (found_none d f 5 s)
  items_end (suc f) (more {l = l} {e = e} x g y) s h =
      let i = item_stands d x in
      let q = less l i g in
      rw (found_step d f 5 i, ne_eqb e.item 5 (λ z. omega (arith, i.few))) (items_end f y s (omega arith))

  -- STANDARD NAMES
  pub items_standard : (f : ℕ) {l k : List HeadingEntry} {n m c : ℕ} → Items d l n k m → Statement d SURVEY m c → missing l < f → given 4 l
      ≡ false
      → (item_found f d n 4).there ≡ given 4 k
  items_standard zero x s h o = absurd (not-suc-le-zero h)
  items_standard (suc f) no_more s h o = rw (found_none d f 4 s) (sym o)
  items_standard (suc f) (more {l = l} {k = k} {e = e} {n = n} {j = m} x g y) s h o =
      let i = item_stands d x in
      let q = less l i g in
      rw (found_step d f 4 i) (by (eqb e.item 4) refl (items_standard f y s (omega arith))) where
        by : (b : Bool) → eqb e.item 4 ≡ b → (given 4 (e ∷ l) ≡ false → (item_found f d m 4).there ≡ given 4 k)
            → (cond b (found true (item_at d n).next) (item_found f d m 4)).there ≡ given 4 k
        by true z ih = sym (later 4 y (here 4 e l (eqb-true e.item 4 z))).1
        by false z ih = ih (there 4 e l (eqb-false e.item 4 z) o)

  -- a text
  pub items_text : (f j : ℕ) {l k : List HeadingEntry} {n m c : ℕ} → j ≤ 3 → Items d l n k m → Statement d SURVEY m c → missing l < f
      → given j l
      ≡ false
      → Tells (item_found f d n j) (entered_text j k)
  items_text zero j b x s h o = absurd (not-suc-le-zero h)
  items_text (suc f) j {l = l} b no_more s h o = rw (found_none d f j s, ne_eqb 5 j (λ z. omega arith), untold j l o) (nothing refl)
  items_text (suc f) j b (more {l = l} {k = k} {e = e} {n = n} {j = m} x g y) s h o =
      let i = item_stands d x in
      let q = less l i g in
      rw (found_step d f j i) (by (eqb e.item j) refl (items_text f j b y s (omega arith))) where
        by : (q : Bool) → eqb e.item j ≡ q → (given j (e ∷ l) ≡ false → Tells (item_found f d m j) (entered_text j k))
            → Tells (cond q (found true (item_at d n).next) (item_found f d m j)) (entered_text j k)
        by true z ih =
            let a = eqb-true e.item j z in
            let t = texted x (rw a b) in
            rw ((later j y (here j e l a)).0, first j e l a, t.1) (a_text refl ((item_stands d x).told t.0 t.1))
        by false z ih = ih (there j e l (eqb-false e.item j z) o)
