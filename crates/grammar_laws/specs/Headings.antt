-- DATE, TIME, ORIGIN, USER, STANDARD NAMES in any order, each at most once, both ways.
use Rattle.std.specs.Prelude.{◌≡◌, Bool, true, cond}
use Rattle.std.proofs.Math.Path.{refl}
use Rattle.std.proofs.Common.{sym, ◌∙◌}
use Rattle.std.proofs.Math.Bool.{false}
use mathlib.Core.List.{List, [], ◌∷◌}
use Rattle.std.proofs.Math.Option.{Option, none, some}
use Prim.Native.Nat.{ℕ, zero, suc, ◌-◌, ◌≤◌, ◌<◌}
use native.Mathlib.Omega.{arith}
use Rattle.std.proofs.Math.ListN.{length}
use Rattle.scan.specs.rule.Loop.{Next, Again, Done}
use Rattle.scan.specs.Word.{capitals}
use Rattle.tokens.specs.declared.Fault.{Fault}
use Rattle.tokens.specs.rule.Gap.{fault}
use Rattle.statements.specs.rule.Words.{DATE, TIME, ORIGIN, USER, STANDARD, NAMES, SURVEY}
use Rattle.survey.specs.rule.Survey.{KeptText}
use Rattle.reading.specs.rule.Result.{Result, Is, Not, Reader, bind, turn, repeat}
use Rattle.reading.specs.rule.Statement.{notes}
use Rattle.reading.specs.rule.Whole.{HeadingEntry, entry, given, texted, names, once, heading_entered}
use Rattle.bridge.specs.Facts.{gap_ahead, word_ahead}
use Rattle.grammar.specs.Token.{Gap, Here, Keyword, keyword, String, Notes, Phrase}
use Rattle.grammar.specs.Token as token
use Rattle.grammar.specs.Grammar.{Item, Items}
use Rattle.grammar.specs.Grammar as grammar
use Rattle.grammar.specs.Refusal.{Then, inside, behind, only, Noted, noted, NotesStops, StringStops, WordStops, Once}
use Rattle.grammar.specs.Refusal.{second}
use Rattle.grammar.specs.Refusal.{first_time, TextedStops, ItemStops, ItemsStops, NoItem, ItemsRead, items}
use Rattle.grammar.specs.Refusal as refusal
use Rattle.grammar_laws.specs.Views.{View, reads, halts, recast, word_at_lem, word_not, either_view, either_halted}
use Rattle.grammar_laws.specs.Places.{gap_there, differ, other_word}
use Rattle.grammar_laws.specs.Tokens.{word_view, word_is, word_halted, string_view, string_is, string_halted}
use Rattle.grammar_laws.specs.Notes.{note_capitals, word_less, string_rises, notes_view, notes_is, notes_halted, notes_gap}
use Rattle.grammar_laws.specs.Notes.{notes_join}
use Rattle.grammar_laws.specs.Variables.{mapped, statement_back}

module _ (d : List ℕ) where
  -- ---- notes and items lead on
  pub notes_rise : {n m : ℕ} → Notes d n m → n ≤ m
  notes_rise (token.no_more g) = gap_ahead d (gap_there d g)
  notes_rise (token.note {n = n} {m = m} (keyword {k = p} {m = k} g h) s r) =
      let a = gap_ahead d (gap_there d g) in
      let b = word_ahead d {n = p} {m = k} 78 (79 ∷ 84 ∷ 69 ∷ []) (word_at_lem d note_capitals h) in
      let c = string_rises d s in
      let e = notes_rise r in
      omega arith

  -- ---- one statement, right here, where notes end
  data Step (l : List HeadingEntry) (n : ℕ) : Next (List HeadingEntry) (List HeadingEntry) → ℕ → Type 0 where
    again : {e : HeadingEntry} {k m : ℕ} → Item d n e k → given e.item l ≡ false → Noted d k m → Step l n (Again (e ∷ l)) m
    done : NoItem d n → Step l n (Done l) n

  module _ (l : List HeadingEntry) (n : ℕ) where
    abbrev onward : ℕ → Option KeptText → Reader (Next (List HeadingEntry) (List HeadingEntry))
    onward i t k = bind (notes d k) λ u m. Is (Again (entry i t ∷ l)) m

    onward_view : (i : ℕ) (t : Option KeptText) {k : ℕ} → given i l ≡ false → Item d n (entry i t) k
        → View (Step l n) (NotesStops d k) (onward i t k)
    onward_view i t {k} g x = mapped (λ u. Again (entry i t ∷ l)) (notes_view d k) (λ u m s. again x g s)

    abbrev once_then : ℕ → Reader (Option KeptText) → Reader (Next (List HeadingEntry) (List HeadingEntry))
    once_then i p = cond (given i l) (λ m. Not (fault 2 n)) (λ m. bind (p m) λ t. onward i t)

    text_view : (i m : ℕ) → ((t : KeptText) (k : ℕ) → String d m t k → Item d n (entry i (some t)) k)
        → View (Step l n) (Once l i n (TextedStops d m)) (once_then i (texted d) m)
    text_view i m f = by (given i l) refl where
      on : given i l ≡ false → {r : Result KeptText} → View (String d m) (StringStops d m) r
          → View (Step l n) (TextedStops d m) (bind (bind r λ t m. Is (some t) m) λ t. onward i t)
      on g (reads {a = t} {m = k} s) = recast (λ x o y. y) (λ f z. behind s z) (onward_view i (some t) g (f t k s))
      on g (halts z) = halts (inside z)

      by : (q : Bool) → given i l ≡ q
          → View (Step l n) (Once l i n (TextedStops d m))
          (cond {A = Reader (Next (List HeadingEntry) (List HeadingEntry))} q (λ m. Not (fault 2 n)) (λ
          m. bind (texted d m) λ t. onward i t) m)
      by true e = halts (second e)
      by false e = recast (λ x o y. y) (λ f z. first_time e z) (on e (string_view d m))

    names_view : (m : ℕ) → ((k : ℕ) → Keyword d NAMES m k → Item d n (entry 4 none) k)
        → View (Step l n) (Once l 4 n (Then (WordStops d NAMES m) (only (Keyword d NAMES m)) λ u n. NotesStops d n)) (once_then 4 (names d)
        m)
    unfolding capitals
    names_view m f = by (given 4 l) refl where
      on : given 4 l ≡ false → {r : Result Unit} → View (only (Keyword d NAMES m)) (WordStops d NAMES m) r
          → View (Step l n) (Then (WordStops d NAMES m) (only (Keyword d NAMES m)) λ u n. NotesStops d n) (bind (bind r λ u m. Is none m) λ
          t. onward 4 t)
      on g (reads {m = k} s) = recast (λ x o y. y) (λ f z. behind s z) (onward_view 4 none g (f k s))
      on g (halts z) = halts (inside z)

      by : (q : Bool) → given 4 l ≡ q
          → View (Step l n) (Once l 4 n (Then (WordStops d NAMES m) (only (Keyword d NAMES m)) λ u n. NotesStops d n))
          (cond {A = Reader (Next (List HeadingEntry) (List HeadingEntry))} q (λ m. Not (fault 2 n)) (λ m. bind (names d m) λ t. onward 4 t)
          m)
      by true e = halts (second e)
      by false e = recast (λ x o y. y) (λ f z. first_time e z) (on e (word_view d {w = NAMES} refl m))

    -- what is tried behind a word that does not stand
    abbrev from_standard : Reader (Next (List HeadingEntry) (List HeadingEntry))
    from_standard = once d l 4 STANDARD (names d) (λ m. Is (Done l) m)

    abbrev from_user : Reader (Next (List HeadingEntry) (List HeadingEntry))
    from_user = once d l 3 USER (texted d) from_standard

    abbrev from_origin : Reader (Next (List HeadingEntry) (List HeadingEntry))
    from_origin = once d l 2 ORIGIN (texted d) from_user

    abbrev from_time : Reader (Next (List HeadingEntry) (List HeadingEntry))
    from_time = once d l 1 TIME (texted d) from_origin

    entered_view : Gap d n n → View (Step l n) (ItemStops d l n) (heading_entered d l n)
    unfolding heading_entered capitals
    entered_view g =
        either_view d {w = DATE} refl n _ from_time (λ m h. text_view 0 m (λ t k s. grammar.date (phrase h s))) λ o₁.
        either_view d {w = TIME} refl n _ from_origin (λ m h. text_view 1 m (λ t k s. grammar.time (phrase h s))) λ o₂.
        either_view d {w = ORIGIN} refl n _ from_user (λ m h. text_view 2 m (λ t k s. grammar.origin (phrase h s))) λ o₃.
        either_view d {w = USER} refl n _ from_standard (λ m h. text_view 3 m (λ t k s. grammar.user (phrase h s))) λ o₄.
        either_view d {w = STANDARD} refl n _ (λ m. Is (Done l) m)
        (λ m h. names_view m (λ k s. grammar.standard_names (token.statement (token.no_more g) h) s)) λ o₅.
        reads (done (record { no_date = o₁; no_time = o₂; no_origin = o₃; no_user = o₄; no_standard = o₅ })) where
          phrase : {w : List ℕ} {m k : ℕ} {t : KeptText} → Here d w n m → String d m t k → Phrase d w n t k
          phrase h s = token.phrase (token.statement (token.no_more g) h) s

    once_halted : (i m : ℕ) (p : Reader (Option KeptText)) {S : Fault → Type 0} → ((f : Fault) → S f
        → bind (p m) (λ t. onward i t) ≡ Not f) → {f : Fault}
        → Once l i n S f → once_then i p m ≡ Not f
    once_halted i m p s (second e) = rw e
    once_halted i m p s {f} (first_time e z) = rw e (s f z)

    text_halted : (i m : ℕ) (f : Fault) → TextedStops d m f → bind (texted d m) (λ t. onward i t) ≡ Not f
    text_halted i m f (inside z) = rw (string_halted d m z)
    text_halted i m f (behind {m = k} s z) = rw (string_is d s, notes_halted d k z)

    names_halted : (m : ℕ) (f : Fault) → Then (WordStops d NAMES m) (only (Keyword d NAMES m)) (λ u n. NotesStops d n) f
        → bind (names d m) (λ t. onward 4 t) ≡ Not f
    unfolding capitals
    names_halted m f (inside z) = rw (word_halted d {w = NAMES} refl m z)
    names_halted m f (behind {m = k} s z) = rw (word_is d {w = NAMES} refl s, notes_halted d k z)

    entered_halted : {f : Fault} → ItemStops d l n f → heading_entered d l n ≡ Not f
    unfolding heading_entered capitals
    entered_halted =
        either_halted d {w = DATE} refl n _ from_time (λ m f. once_halted 0 m (texted d) (text_halted 0 m)) λ f.
        either_halted d {w = TIME} refl n _ from_origin (λ m f. once_halted 1 m (texted d) (text_halted 1 m)) λ f.
        either_halted d {w = ORIGIN} refl n _ from_user (λ m f. once_halted 2 m (texted d) (text_halted 2 m)) λ f.
        either_halted d {w = USER} refl n _ from_standard (λ m f. once_halted 3 m (texted d) (text_halted 3 m)) λ f.
        either_halted d {w = STANDARD} refl n _ (λ m. Is (Done l) m) (λ m f. once_halted 4 m (names d) (names_halted m)) λ f z. absurd z

    entered_done : NoItem d n → heading_entered d l n ≡ Is (Done l) n
    unfolding heading_entered capitals
    entered_done o =
        rw (
          word_not d {w = DATE} refl o.no_date,
          word_not d {w = TIME} refl o.no_time,
          word_not d {w = ORIGIN} refl o.no_origin,
          word_not d {w = USER} refl o.no_user,
          word_not d {w = STANDARD} refl o.no_standard,
        )

  -- ---- an item, read where its notes end
  data Entering (l : List HeadingEntry) (n : ℕ) (e : HeadingEntry) (k : ℕ) : Type 0 where
    entering : {p : ℕ} → Noted d n p → length d - k < length d - p
        → heading_entered d l p ≡ bind (notes d k) (λ u m. Is (Again (e ∷ l)) m) → Entering l n e k

  less_text : (p : ℕ) {m k : ℕ} {t : KeptText} → length d - m < length d - p → String d m t k → length d - k < length d - p
  less_text p h s = let a = string_rises d s in omega arith

  less_word : (p : ℕ) {m k : ℕ} → length d - m < length d - p → Keyword d NAMES m k → length d - k < length d - p
  unfolding capitals
  less_word p h (keyword {k = q} {m = k} g w) =
      let a = gap_ahead d (gap_there d g) in
      let b = word_ahead d {n = q} {m = k} 78 (65 ∷ 77 ∷ 69 ∷ 83 ∷ []) (word_at_lem d {w = NAMES} refl w) in
      omega arith

  module _ (l : List HeadingEntry) where
    item_enters : {n k : ℕ} {e : HeadingEntry} → Item d n e k → given e.item l ≡ false → Entering l n e k
    unfolding heading_entered capitals differ
    item_enters (grammar.date (token.phrase (token.statement {k = p} s h) x)) g =
        let w = word_at_lem d {w = DATE} refl h in
        entering (noted s (other_word d {w = DATE} refl note_capitals refl h)) (less_text p (word_less d p 68 (65 ∷ 84 ∷ 69 ∷ []) w) x)
        (rw (w, g, string_is d x))
    item_enters (grammar.time (token.phrase (token.statement {k = p} s h) x)) g =
        let w = word_at_lem d {w = TIME} refl h in
        entering (noted s (other_word d {w = TIME} refl note_capitals refl h)) (less_text p (word_less d p 84 (73 ∷ 77 ∷ 69 ∷ []) w) x)
        (rw (word_not d {w = DATE} refl (other_word d {w = TIME} refl refl refl h), w, g, string_is d x))
    item_enters (grammar.origin (token.phrase (token.statement {k = p} s h) x)) g =
        let w = word_at_lem d {w = ORIGIN} refl h in
        entering (noted s (other_word d {w = ORIGIN} refl note_capitals refl h))
        (less_text p (word_less d p 79 (82 ∷ 73 ∷ 71 ∷ 73 ∷ 78 ∷ []) w) x)
        (rw (
          word_not d {w = DATE} refl (other_word d {w = ORIGIN} refl refl refl h),
          word_not d {w = TIME} refl (other_word d {w = ORIGIN} refl refl refl h),
          w,
          g,
          string_is d x,
        ))
    item_enters (grammar.user (token.phrase (token.statement {k = p} s h) x)) g =
        let w = word_at_lem d {w = USER} refl h in
        entering (noted s (other_word d {w = USER} refl note_capitals refl h)) (less_text p (word_less d p 85 (83 ∷ 69 ∷ 82 ∷ []) w) x)
        (rw (
          word_not d {w = DATE} refl (other_word d {w = USER} refl refl refl h),
          word_not d {w = TIME} refl (other_word d {w = USER} refl refl refl h),
          word_not d {w = ORIGIN} refl (other_word d {w = USER} refl refl refl h),
          w,
          g,
          string_is d x,
        ))
    item_enters (grammar.standard_names (token.statement {k = p} s h) x) g =
        let w = word_at_lem d {w = STANDARD} refl h in
        entering (noted s (other_word d {w = STANDARD} refl note_capitals refl h))
        (less_word p (word_less d p 83 (84 ∷ 65 ∷ 78 ∷ 68 ∷ 65 ∷ 82 ∷ 68 ∷ []) w) x)
        (rw (
          word_not d {w = DATE} refl (other_word d {w = STANDARD} refl refl refl h),
          word_not d {w = TIME} refl (other_word d {w = STANDARD} refl refl refl h),
          word_not d {w = ORIGIN} refl (other_word d {w = STANDARD} refl refl refl h),
          word_not d {w = USER} refl (other_word d {w = STANDARD} refl refl refl h),
          w,
          g,
          word_is d {w = NAMES} refl x,
        ))

  survey_no_item : {n m : ℕ} → Here d SURVEY n m → NoItem d n
  unfolding capitals differ
  survey_no_item h = record {
    no_date = other_word d {w = SURVEY} refl refl refl h;
    no_time = other_word d {w = SURVEY} refl refl refl h;
    no_origin = other_word d {w = SURVEY} refl refl refl h;
    no_user = other_word d {w = SURVEY} refl refl refl h;
    no_standard = other_word d {w = SURVEY} refl refl refl h;
  }

  -- ---- all of them
  text_back : {w : List ℕ} {t : KeptText} {n m k : ℕ} → Notes d n m → Phrase d w m t k → Phrase d w n t k
  text_back r (token.phrase s x) = token.phrase (statement_back d r s) x

  item_back : {e : HeadingEntry} {n m k : ℕ} → Notes d n m → Item d m e k → Item d n e k
  item_back r (grammar.date x) = grammar.date (text_back r x)
  item_back r (grammar.time x) = grammar.time (text_back r x)
  item_back r (grammar.origin x) = grammar.origin (text_back r x)
  item_back r (grammar.user x) = grammar.user (text_back r x)
  item_back r (grammar.standard_names s x) = grammar.standard_names (statement_back d r s) x

  pub items_back : {l k : List HeadingEntry} {n m j : ℕ} → Notes d n m → ItemsRead d l m k j → ItemsRead d l n k j
  items_back r (items grammar.Items.no_more (noted s o) z) = items grammar.Items.no_more (noted (notes_join d r s) o) z
  items_back r (items (grammar.Items.more x g y) s z) = items (grammar.Items.more (item_back r x) g y) s z

  more_items : {l k : List HeadingEntry} {e : HeadingEntry} {n j m : ℕ} → Item d n e j → given e.item l ≡ false
      → ItemsRead d (e ∷ l) j k m
      → ItemsRead d l n k m
  more_items x g (items y s z) = items (grammar.Items.more x g y) s z

  one_more : {l k : List HeadingEntry} {e : HeadingEntry} {n j i m : ℕ} → Item d n e j → given e.item l ≡ false → Noted d j i
      → ItemsRead d (e ∷ l) i k m
      → ItemsRead d l n k m
  one_more x g (noted s o) r = more_items x g (items_back s r)

  -- the place where an item was read is where its notes ended
  same_place : {n p : ℕ} → Noted d n n → Noted d n p → p ≡ n
  same_place s r = let e = sym (notes_is d r) ∙ notes_is d s in cc

  enters_here : {l : List HeadingEntry} {e : HeadingEntry} {n k : ℕ} → Noted d n n → Entering l n e k
      → (length d - k < length d - n) × (heading_entered d l n ≡ bind (notes d k) (λ u m. Is (Again (e ∷ l)) m))
  enters_here s (entering r h q) = let i = same_place s r in (rw i at h, rw i at q)

  abbrev Viewed : ℕ → Type 0
  Viewed f = (l : List HeadingEntry) (n : ℕ) → Noted d n n → length d - n < f
      → View (ItemsRead d l n) (ItemsStops d l n) (repeat f (heading_entered d) l n)

  pub stay : {n m : ℕ} → Noted d n m → Noted d m m
  stay (noted s o) = noted (token.no_more (notes_gap d s)) o

  loop_view : (f : ℕ) → Viewed f
  unfolding repeat
  loop_view zero l n s h = absurd (omega arith)
  loop_view (suc f) l n (noted s o) h = by (entered_view l n (notes_gap d s)) (loop_view f) where
    less : {e : HeadingEntry} {k m : ℕ} → Item d n e k → given e.item l ≡ false → Noted d k m → length d - m < f
    less x g (noted r z) = let a = (enters_here (noted s o) (item_enters l x g)).0 in let b = notes_rise r in omega arith

    by : {r : Result (Next (List HeadingEntry) (List HeadingEntry))} → View (Step l n) (ItemStops d l n) r → Viewed f
        → View (ItemsRead d l n) (ItemsStops d l n) (bind r (turn (repeat f (heading_entered d))))
    by (reads (again {e = e} {m = m} x g r)) ih =
        recast (λ k j. one_more x g r) (λ f. refusal.ItemsStops.later x g r) (ih (e ∷ l) m (stay r) (less x g r))
    by (reads (done z)) ih = reads (items grammar.Items.no_more (noted s o) z)
    by (halts z) ih = halts (refusal.in_item z)

  again_notes : (f k : ℕ) (l : List HeadingEntry) → bind (bind (notes d k) λ u m. Is (Again l) m) (turn (repeat f (heading_entered d)))
      ≡ bind (notes d k) (λ u. repeat f (heading_entered d) l)
  again_notes f k l = by (notes d k) where
    by : (r : Result Unit) → bind (bind r λ u m. Is (Again l) m) (turn (repeat f (heading_entered d)))
        ≡ bind r (λ u. repeat f (heading_entered d) l)
    by (Is u m) = refl
    by (Not g) = refl

  entering_is : {l : List HeadingEntry} {e : HeadingEntry} {n k : ℕ} → Entering l n e k → (f : ℕ)
      → bind (notes d n) (λ u. repeat (suc f) (heading_entered d) l) ≡ bind (notes d k) (λ u. repeat f (heading_entered d) (e ∷ l))
  unfolding repeat
  entering_is {l} {e} {k = k} (entering s h q) f = rw (notes_is d s, q) (again_notes f k (e ∷ l))

  done_is : {l : List HeadingEntry} {n m : ℕ} → Noted d n m → NoItem d m → (f : ℕ)
      → bind (notes d n) (λ u. repeat (suc f) (heading_entered d) l) ≡ Is l m
  unfolding repeat
  done_is {l} {m = m} s z f = rw (notes_is d s, entered_done l m z)

  entering_less : {l : List HeadingEntry} {e : HeadingEntry} {n k : ℕ} (f : ℕ) → Entering l n e k
      → ((p : ℕ) → Noted d n p → length d - p < suc f)
      → (p : ℕ) → Noted d k p → length d - p < f
  entering_less f (entering {p = q} s h e) l p (noted r o) = let a = l q s in let b = notes_rise r in omega arith

  loop_is : {l k : List HeadingEntry} {n j m : ℕ} → Items d l n k j → Noted d j m → NoItem d m → (f : ℕ) → ((p : ℕ) → Noted d n p
      → length d - p < f)
      → bind (notes d n) (λ u. repeat f (heading_entered d) l) ≡ Is k m
  loop_is {m = m} grammar.Items.no_more s z zero h = let a = h m s in absurd (omega arith)
  loop_is grammar.Items.no_more s z (suc f) h = done_is s z f
  loop_is {l} (grammar.Items.more x g r) s z zero h = some (item_enters l x g) h where
    some : {e : HeadingEntry} {n k : ℕ} {A : Type 0} → Entering l n e k → ((p : ℕ) → Noted d n p → length d - p < 0) → A
    some (entering {p = p} s h e) l = let a = l p s in absurd (omega arith)
  loop_is {l} (grammar.Items.more x g r) s z (suc f) h =
      let e = item_enters l x g in
      entering_is e f ∙ loop_is r s z f (entering_less f e h)

  here_is : {l : List HeadingEntry} {e : HeadingEntry} {n k m : ℕ} → Noted d n n → Entering l n e k → Noted d k m → (f : ℕ)
      → repeat (suc f) (heading_entered d) l n ≡ repeat f (heading_entered d) (e ∷ l) m
  unfolding repeat
  here_is s x r f = rw ((enters_here s x).1, notes_is d r)

  in_halted : (l : List HeadingEntry) (n : ℕ) {f : Fault} → ItemStops d l n f → (g : ℕ) → repeat (suc g) (heading_entered d) l n ≡ Not f
  unfolding repeat
  in_halted l n z g = rw (entered_halted l n z)

  rises : (n g : ℕ) {k m : ℕ} → Noted d k m → length d - k < length d - n → length d - n < suc g → length d - m < g
  rises n g (noted r o) h l = let a = notes_rise r in omega arith

  loop_halted : {l : List HeadingEntry} {n : ℕ} {f : Fault} → ItemsStops d l n f → Noted d n n → (g : ℕ) → length d - n < g
      → repeat g (heading_entered d) l n ≡ Not f
  loop_halted z s zero h = absurd (omega arith)
  loop_halted {l} {n} (refusal.in_item z) s (suc g) h = in_halted l n z g
  loop_halted {l} {n} (refusal.ItemsStops.later {m = m} x v r z) s (suc g) h =
      let e = item_enters l x v in
      here_is s e r g ∙ loop_halted z (stay r) g (rises n g r (enters_here s e).0 h)

  pub items_view : (n : ℕ) → Noted d n n → View (ItemsRead d [] n) (ItemsStops d [] n) (repeat (suc (length d)) (heading_entered d) [] n)
  items_view n s = loop_view (suc (length d)) [] n s (omega arith)

  pub items_is : {k : List HeadingEntry} {n j m c : ℕ} → Items d [] n k j → Notes d j m → Here d SURVEY m c
      → bind (notes d n) (λ u. repeat (suc (length d)) (heading_entered d) []) ≡ Is k m
  unfolding capitals differ
  items_is x s h =
      loop_is x (noted s (other_word d {w = SURVEY} refl note_capitals refl h)) (survey_no_item h) (suc (length d)) (λ p r. omega arith)

  pub items_read_is : {k : List HeadingEntry} {n m : ℕ} → Noted d n n → ItemsRead d [] n k m
      → repeat (suc (length d)) (heading_entered d) [] n ≡ Is k m
  items_read_is s (items x r z) = rw (notes_is d s) at (loop_is x r z (suc (length d)) (λ p r. omega arith))

  pub items_halted : (n : ℕ) {f : Fault} → Noted d n n → ItemsStops d [] n f → repeat (suc (length d)) (heading_entered d) [] n ≡ Not f
  items_halted n s z = loop_halted z s (suc (length d)) (omega arith)

-- ---- EACH AT MOST ONCE: no two statements of a heading are the same
pub data EachOnce : List HeadingEntry → Type 0 where
  none_given : EachOnce []
  one_more_given : {e : HeadingEntry} {l : List HeadingEntry} → given e.item l ≡ false → EachOnce l → EachOnce (e ∷ l)

pub items_once : {d : List ℕ} {l k : List HeadingEntry} {n m : ℕ} → Items d l n k m → EachOnce l → EachOnce k
items_once grammar.Items.no_more o = o
items_once (grammar.Items.more x g r) o = items_once r (one_more_given g o)
