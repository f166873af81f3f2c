-- THE PRINTED HEADING: the opening, the statements before SURVEY in their fixed order, TITLE, RECORD and its letter.
use Rattle.std.specs.Prelude.{◌≡◌, Bool, ℕ, eqb}
use Rattle.std.proofs.Math.Path.{refl}
use Rattle.std.proofs.Common.{◌∙◌}
use Rattle.std.proofs.Math.Bool.{true, false}
use mathlib.Core.List.{List, [], ◌∷◌, ◌++◌}
use Rattle.std.proofs.Math.Option.{Option, none, some}
use Rattle.ascii.specs.rule.Class.{class_of}
use Rattle.scan.specs.rule.Text.{text, place_of}
use Rattle.scan.specs.rule.Number.{is_digit, is_value}
use Rattle.token_laws.specs.Opening.{Spaces, byte, space}
use Rattle.statements.specs.rule.Words.{SSS, VERSION, ONE-ONE, DATE, TIME, ORIGIN, USER, SURVEY, TITLE, RECORD}
use Rattle.survey.specs.rule.Survey.{KeptText, Heading}
use Rattle.survey.specs.rule.Width.{some_of}
use Rattle.reading.specs.rule.Whole.{HeadingEntry, entry, given, entered_text, heading}
use Rattle.clean_text.specs.rule.Clean.{perhaps, standard_line, head_lines}
use Rattle.grammar.specs.Token.{Here, Phrase, Letter, letter, Statement}
use Rattle.grammar.specs.Grammar.{Opening, opening, Item, Items, Title, standard_names}
use Rattle.grammar.specs.Grammar as grammar
use Rattle.printed.specs.Left.{Left, step_of, step_left, Ends, ends, Yields, yields, after, taking, each}
use Rattle.printed.specs.Words.{solid, solid_is, gap_space, word_there, keyword_there, statement_there}
use Rattle.printed.specs.Runs.{stops, run_there, class_solid}
use Rattle.printed.specs.Strings.{SameText}
use Rattle.printed.specs.Lines.{ink_then, inks_then, inks_append}
use Rattle.clean_laws.specs.Said.{TextsSaid, silent, says, HeadingSaid}
use Rattle.clean_laws.specs.Same.{Both, neither, either, SameHeading}
use Rattle.clean_laws.specs.Statements.{phrase_there}

module _ (p : List ℕ) where
  -- ---- the letter
  letter_there : {b n : ℕ} {u : List ℕ} → class_of b ≡ 3 → Left p n (32 ∷ b ∷ u) → Ends p (Letter p n b) u
  letter_there {b} c l =
      after p (gap_space p (class_solid b 3 c refl refl) l) λ k g l.
      let s = step_of p l in
      ends (letter g (s.same ∙ s.there) c) s.left

  -- ---- SSS and VERSION 1.1
  start_there : {b : ℕ} {w u : List ℕ} → Left p 0 ((b ∷ w) ++ u) → Ends p (Here p (b ∷ w) (place_of (text p 0))) u
  unfolding place_of
  start_there {b} {w} {u} l =
      let s = step_of p l in
      let e : place_of (text p 0) ≡ s.place = rw (s.same ∙ s.there) in
      rw e (word_there p (b ∷ w) u (step_left p s))

  -- no space, and one
  unspaced : {b n : ℕ} {u : List ℕ} → solid b ≡ true → Left p n (b ∷ u) → Ends p (Spaces p n) (b ∷ u)
  unspaced {b} h l = let s = step_of p l in ends (byte (s.same ∙ s.there) (solid_is b h).0) (step_left p s)

  spaced : {b n : ℕ} {u : List ℕ} → solid b ≡ true → Left p n (32 ∷ b ∷ u) → Ends p (Spaces p n) (b ∷ u)
  spaced h l =
      let s = step_of p l in
      after p (unspaced h s.left) λ m x l.
      ends (space (s.same ∙ s.there) x) l

  opening_there : {u : List ℕ} → stops is_value u ≡ true → Left p 0 (SSS ++ (VERSION ++ (32 ∷ ONE-ONE ++ u))) → Ends p (Opening p) u
  unfolding solid each is_value is_digit class_of
  opening_there {u} h l =
      after p (start_there l) λ a x l.
      after p (unspaced refl l) λ b y l.
      after p (word_there p VERSION (32 ∷ ONE-ONE ++ u) l) λ c z l.
      after p (spaced refl l) λ e w l.
      after p (run_there p is_value ONE-ONE u refl h l) λ m r l.
      ends (opening x y z w r) l

-- ---- the statements given, as a list: the later first
abbrev item : ℕ → Option KeptText → List HeadingEntry → List HeadingEntry
item k none l = l
item k (some t) l = entry k (some t) ∷ l

abbrev named : Bool → List HeadingEntry → List HeadingEntry
named true l = entry 4 none ∷ l
named false l = l

item_given : (k j : ℕ) (o : Option KeptText) (l : List HeadingEntry) → eqb k j ≡ false → given k (item j o l) ≡ given k l
unfolding given some_of
item_given k j none l e = refl
item_given k j (some t) l e = rw e

item_other : (k j : ℕ) (o : Option KeptText) (l : List HeadingEntry) → eqb k j ≡ false → entered_text k (item j o l) ≡ entered_text k l
unfolding entered_text
item_other k j none l e = refl
item_other k j (some t) l e = rw e

item_this : (k : ℕ) (o : Option KeptText) (l : List HeadingEntry) → eqb k k ≡ true → entered_text k l ≡ none → entered_text k (item k o l)
    ≡ o
unfolding entered_text
item_this k none l e h = h
item_this k (some t) l e h = rw e

named_other : (k : ℕ) (q : Bool) (l : List HeadingEntry) → eqb k 4 ≡ false → entered_text k (named q l) ≡ entered_text k l
unfolding entered_text
named_other k true l e = rw e
named_other k false l e = refl

named_given : (q : Bool) (l : List HeadingEntry) → given 4 l ≡ false → given 4 (named q l) ≡ q
unfolding given some_of
named_given true l h = refl
named_given false l h = h

-- none of the statements from k on is given yet
abbrev up_to3 : Option KeptText → Option KeptText → Option KeptText → List HeadingEntry
up_to3 a b c = item 2 c (item 1 b (item 0 a []))

module _ (a b c e : Option KeptText) (q : Bool) where
  abbrev all_items : List HeadingEntry
  all_items = named q (item 3 e (up_to3 a b c))

  all_date : entered_text 0 all_items ≡ a
  unfolding entered_text
  all_date =
      named_other 0 q (item 3 e (up_to3 a b c)) refl ∙ item_other 0 3 e (up_to3 a b c) refl
      ∙ (item_other 0 2 c (item 1 b (item 0 a [])) refl ∙ item_other 0 1 b (item 0 a []) refl ∙ item_this 0 a [] refl refl)

  all_time : entered_text 1 all_items ≡ b
  unfolding entered_text
  all_time =
      named_other 1 q (item 3 e (up_to3 a b c)) refl ∙ item_other 1 3 e (up_to3 a b c) refl
      ∙ (item_other 1 2 c (item 1 b (item 0 a [])) refl ∙ item_this 1 b (item 0 a []) refl (item_other 1 0 a [] refl))

  all_origin : entered_text 2 all_items ≡ c
  unfolding entered_text
  all_origin =
      named_other 2 q (item 3 e (up_to3 a b c)) refl ∙ item_other 2 3 e (up_to3 a b c) refl
      ∙ item_this 2 c (item 1 b (item 0 a [])) refl (item_other 2 1 b (item 0 a []) refl ∙ item_other 2 0 a [] refl)

  all_user : entered_text 3 all_items ≡ e
  unfolding entered_text
  all_user =
      named_other 3 q (item 3 e (up_to3 a b c)) refl
      ∙ item_this 3 e (up_to3 a b c) refl
      (item_other 3 2 c (item 1 b (item 0 a [])) refl ∙ item_other 3 1 b (item 0 a []) refl ∙ item_other 3 0 a [] refl)

-- none of them is given before its turn
time_new : (a : Option KeptText) → given 1 (item 0 a []) ≡ false
unfolding given some_of
time_new a = item_given 1 0 a [] refl

origin_new : (a b : Option KeptText) → given 2 (item 1 b (item 0 a [])) ≡ false
unfolding given some_of
origin_new a b = item_given 2 1 b (item 0 a []) refl ∙ item_given 2 0 a [] refl

user_new : (a b c : Option KeptText) → given 3 (up_to3 a b c) ≡ false
unfolding given some_of
user_new a b c =
    item_given 3 2 c (item 1 b (item 0 a [])) refl ∙ item_given 3 1 b (item 0 a []) refl ∙ item_given 3 0 a [] refl

names_new : (a b c e : Option KeptText) → given 4 (item 3 e (up_to3 a b c)) ≡ false
unfolding given some_of
names_new a b c e =
    item_given 4 3 e (up_to3 a b c) refl ∙ item_given 4 2 c (item 1 b (item 0 a [])) refl
    ∙ (item_given 4 1 b (item 0 a []) refl ∙ item_given 4 0 a [] refl)

all_names : (a b c e : Option KeptText) (q : Bool) → given 4 (all_items a b c e q) ≡ q
all_names a b c e q = named_given q (item 3 e (up_to3 a b c)) (names_new a b c e)

module _ (d p : List ℕ) where
  -- ---- a statement that may be absent, before the others
  data ItemThere (k n : ℕ) (l : List HeadingEntry) (o : Option KeptText) (u : List ℕ) : Type 0 where
    item_there : {o' : Option KeptText} {m : ℕ} → ((j : List HeadingEntry) (i : ℕ) → Items p (item k o' l) m j i → Items p l n j i)
        → Both (SameText d p) o o' → Left p m u → ItemThere k n l o u

  itemed : {k n : ℕ} {l : List HeadingEntry} {o : Option KeptText} {u : List ℕ} {C : Type 0} → ItemThere k n l o u
      → ((o' : Option KeptText) (m : ℕ) → ((j : List HeadingEntry) (i : ℕ) → Items p (item k o' l) m j i → Items p l n j i)
      → Both (SameText d p) o o' → Left p m u → C)
      → C
  itemed (item_there {o' = o'} {m = m} f r l) g = g o' m f r l

  item_printed : (k : ℕ) {b n : ℕ} {w u : List ℕ} {o : Option KeptText} {l : List HeadingEntry} → solid b ≡ true
      → ((n m : ℕ) (t : KeptText) → Phrase p (b ∷ w) n t m → Item p n (entry k (some t)) m) → given k l ≡ false → TextsSaid d o
      → Left p n (inks_then (perhaps d (b ∷ w) o) u) → ItemThere k n l o u
  unfolding inks_then ink_then
  item_printed k h c g silent x = item_there (λ j i y. y) neither x
  item_printed k {n = n} h c g (says t) x =
      taking p (phrase_there d p h t x) λ a m z r x.
      item_there (λ j i y. Items.more (c n m a z) g y) (either r) x

  -- STANDARD NAMES
  data NamesThere (n : ℕ) (l : List HeadingEntry) (q : Bool) (u : List ℕ) : Type 0 where
    names_there : {m : ℕ} → ((j : List HeadingEntry) (i : ℕ) → Items p (named q l) m j i → Items p l n j i) → Left p m u
        → NamesThere n l q u

  namely : {n : ℕ} {l : List HeadingEntry} {q : Bool} {u : List ℕ} {C : Type 0} → NamesThere n l q u
      → ((m : ℕ) → ((j : List HeadingEntry) (i : ℕ) → Items p (named q l) m j i → Items p l n j i) → Left p m u → C) → C
  namely (names_there {m = m} f l) g = g m f l

  names_printed : (q : Bool) {n : ℕ} {l : List HeadingEntry} {u : List ℕ} → given 4 l ≡ false → Left p n (inks_then (standard_line d q) u)
      → NamesThere n l q u
  unfolding inks_then ink_then solid
  names_printed true g x =
      after p (statement_there p refl x) λ k s x.
      after p (keyword_there p refl x) λ m y x.
      names_there (λ j i z. Items.more (standard_names s y) g z) x
  names_printed false g x = names_there (λ j i y. y) x

  -- TITLE
  title_printed : {n : ℕ} {u : List ℕ} {o : Option KeptText} → TextsSaid d o → Left p n (inks_then (perhaps d TITLE o) u)
      → Yields p (Title p n) (Both (SameText d p) o) u
  unfolding inks_then ink_then solid
  title_printed silent x = yields grammar.untitled neither x
  title_printed (says t) x = taking p (phrase_there d p refl t x) λ a m z r x. yields (grammar.title z) (either r) x

  -- ---- the whole heading, as it is left
  abbrev from_survey : Heading → List ℕ → List ℕ
  from_survey h u = SURVEY ++ inks_then (perhaps d TITLE h.title) (RECORD ++ (32 ∷ h.letter ∷ u))

  abbrev from_date : Heading → List ℕ → List ℕ
  from_date h u =
      inks_then (perhaps d DATE h.date) (inks_then (perhaps d TIME h.time) (inks_then (perhaps d ORIGIN h.origin)
      (inks_then (perhaps d USER h.user) (inks_then (standard_line d h.standard) (from_survey h u)))))

  head_ink : (h : Heading) (u : List ℕ) → inks_then (head_lines d h) u ≡ SSS ++ (VERSION ++ (32 ∷ ONE-ONE ++ from_date h u))
  unfolding head_lines inks_then ink_then
  head_ink h u = simp inks_append

  -- what begins behind the version goes on with no value
  item_begins : (b : ℕ) (w : List ℕ) (o : Option KeptText) (u : List ℕ) → stops is_value (b ∷ []) ≡ true → stops is_value u ≡ true
      → stops is_value (inks_then (perhaps d (b ∷ w) o) u) ≡ true
  unfolding inks_then ink_then stops
  item_begins b w none u e f = f
  item_begins b w (some t) u e f = e

  names_begin : (q : Bool) (u : List ℕ) → stops is_value u ≡ true → stops is_value (inks_then (standard_line d q) u) ≡ true
  unfolding inks_then ink_then stops is_value is_digit class_of
  names_begin true u f = refl
  names_begin false u f = f

  date_begins : (h : Heading) (u : List ℕ) → stops is_value (from_date h u) ≡ true
  unfolding stops is_value is_digit class_of
  date_begins h u =
      item_begins 68 (65 ∷ 84 ∷ 69 ∷ []) h.date _ refl
      (item_begins 84 (73 ∷ 77 ∷ 69 ∷ []) h.time _ refl
      (item_begins 79 (82 ∷ 73 ∷ 71 ∷ 73 ∷ 78 ∷ []) h.origin _ refl
      (item_begins 85 (83 ∷ 69 ∷ 82 ∷ []) h.user _ refl (names_begin h.standard _ refl))))

  pub data FrontThere (h : Heading) (u : List ℕ) : Type 0 where
    front_there : {a b c e f g : ℕ} {l : List HeadingEntry} {t : Option KeptText} {x : ℕ} → Opening p a → Items p [] a l b
        → Statement p SURVEY b c
        → Title p c t e → Statement p RECORD e f → Letter p f x g → SameHeading d p h (heading l t x) → Left p g u → FrontThere h u

  pub front_printed : {h : Heading} {u : List ℕ} → HeadingSaid d h → Left p 0 (inks_then (head_lines d h) u) → FrontThere h u
  unfolding solid given some_of
  front_printed {h} {u} s x =
      after p (opening_there p (date_begins h u) (rw (head_ink h u) at x)) λ a o x.
      itemed (item_printed 0 refl (λ n m t z. grammar.date z) refl s.date x) λ t₀ n₁ f₀ r₀ x.
      itemed (item_printed 1 refl (λ n m t z. grammar.time z) (time_new t₀) s.time x) λ t₁ n₂ f₁ r₁ x.
      itemed (item_printed 2 refl (λ n m t z. grammar.origin z) (origin_new t₀ t₁) s.origin x) λ t₂ n₃ f₂ r₂ x.
      itemed (item_printed 3 refl (λ n m t z. grammar.user z) (user_new t₀ t₁ t₂) s.user x) λ t₃ n₄ f₃ r₃ x.
      namely (names_printed h.standard (names_new t₀ t₁ t₂ t₃) x) λ b f₄ x.
      after p (statement_there p refl x) λ c y x.
      taking p (title_printed s.title x) λ t e z r₅ x.
      after p (statement_there p refl x) λ f v x.
      after p (letter_there p s.letter x) λ g w x.
      let i = f₀ (all_items t₀ t₁ t₂ t₃ h.standard) b (f₁ _ b (f₂ _ b (f₃ _ b (f₄ _ b Items.no_more)))) in
      front_there o i y z v w (record {
        date = rw (all_date t₀ t₁ t₂ t₃ h.standard) r₀;
        time = rw (all_time t₀ t₁ t₂ t₃ h.standard) r₁;
        origin = rw (all_origin t₀ t₁ t₂ t₃ h.standard) r₂;
        user = rw (all_user t₀ t₁ t₂ t₃ h.standard) r₃;
        standard = all_names t₀ t₁ t₂ t₃ h.standard;
        title = r₅;
        letter = refl;
      }) x
