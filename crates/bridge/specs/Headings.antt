-- The heading: "given before" by the list of what was given; and all that stands before the first variable.
use Rattle.std.specs.Prelude.{◌≡◌, Bool, List, [], ◌∷◌, map, length, Ok, Err}
use Rattle.std.proofs.Math.Path.{refl}
use Rattle.std.proofs.Common.{◌∙◌, arith}
use Rattle.std.proofs.Math.Bool.{true, false, cond}
use Rattle.std.proofs.Math.Option.{Option, none, some}
use Prim.Native.Nat.{ℕ, zero, suc, ◌-◌, ◌≤◌, ◌<◌}
use Rattle.scan.specs.rule.Loop.{Next, Again, Done}
use Rattle.scan.specs.rule.Word.{word_at}
use Rattle.scan.specs.declared.Word.{Word}
use Rattle.scan.specs.declared.Word.TheVariants as spelled
use Rattle.tokens.specs.declared.Fault.{Fault}
use Rattle.tokens.specs.rule.Gap.{fault}
use Rattle.tokens.specs.Gap.{left}
use Rattle.tokens.specs.Token.{of_choice, choice_of, word_on, past_string}
use Rattle.statements.specs.rule.Words.{DATE, TIME, ORIGIN, USER, STANDARD, NAMES}
use Rattle.statements.specs.Note.{notes_on}
use Rattle.heading.specs.declared.Heading as books
use Rattle.heading.specs.declared.Entered.{Entered}
use Rattle.heading.specs.declared.Entry as kinds
use Rattle.heading.specs.declared.Entry.TheVariants as kind
use Rattle.heading.specs.Heading.{or, last, entry_of, again, text_at, once_of, kept_of, text_entry, named, name_entry}
use Rattle.heading.specs.Heading.{entered, entries_from}
use Rattle.heading.specs.Given.{Reached}
use Rattle.heading.specs.Given as was
use Rattle.heading.proofs.Entries.{entries_text, entries_names, entries_other}
use Rattle.heading.proofs.Once.{text_first, text_second, names_first, names_second}
use Rattle.survey.specs.rule.Survey.{KeptText}
use Rattle.survey.specs.rule.Width.{some_of}
use Rattle.reading.specs.rule.Result.{Result, Is, Not, Reader, bind, turn, repeat}
use Rattle.reading.specs.rule.Token.{on_word, word, string}
use Rattle.reading.specs.rule.Statement.{notes}
use Rattle.reading.specs.rule.Whole.{HeadingEntry, entry, given, texted, names}
use Rattle.reading.specs.rule.Whole as reading
use Rattle.bridge.specs.Tokens.{to_reading, to_phrase, word_on_lem, string_on_lem}
use Rattle.bridge.specs.Notes.{notes_on_lem}

abbrev pub items : List HeadingEntry → List ℕ
items l = map (λ e. e.item) l

pub given_same : (k : ℕ) (l : List HeadingEntry) → was.given k (items l) ≡ given k l
unfolding was.given given some_of
given_same k [] = refl
given_same k (e ∷ l) = rw (given_same k l)

pub data SameEntered (d : List ℕ) : Entered → Result (List HeadingEntry) → Type 0 where
  ends : {h : books.Heading} {l : List HeadingEntry} {n : ℕ} → Reached d (items l) h → SameEntered d (entered h (Ok n)) (Is l n)
  stops : {h : books.Heading} {f : Fault} → SameEntered d (entered h (Err f)) (Not f)

module _ (d : List ℕ) where
  abbrev pub turns : ℕ → List HeadingEntry → Reader (List HeadingEntry)
  turns f = repeat f (reading.heading_entered d)

  none_refused : (f : Fault) → entry_of d (Err f) ≡ kind.Other
  unfolding entry_of choice_of
  none_refused f = refl

  pub refused : (h : books.Heading) (f : Fault) → SameEntered d (entries_from d (entered h (Err f))) (Not f)
  refused h f = rw (entries_other d h (Err f) refl (none_refused f)) stops

  module _ (f : ℕ) (n : ℕ) (h : books.Heading) (l : List HeadingEntry) (reached : Reached d (items l) h) (enough : length d - n < suc f)
      (ih : (m : ℕ) (h : books.Heading) (l : List HeadingEntry) → Reached d (items l) h → length d - m < f
      → SameEntered d (entries_from d (entered h (Ok m))) (turns f l m)) where
    -- behind a statement that was read
    onward : (g : books.Heading) (e : HeadingEntry) (r : Result Unit) → Reached d (items (e ∷ l)) g → left d (to_reading r) < left d (Ok n)
        → SameEntered d (entries_from d (entered g (to_reading r))) (bind (bind r λ a m. Is (Again (e ∷ l)) m) (turn (turns f)))
    unfolding left
    onward g e (Is a m) r less = ih m g (e ∷ l) r (omega arith)
    onward g e (Not x) r less = refused g x

    abbrev one : ℕ → Reader (Option KeptText) → Reader (Next (List HeadingEntry) (List HeadingEntry))
    one k p = cond (given k l) (λ m. Not (fault 2 n)) (λ m. bind (p m) λ t m. bind (notes d m) λ a m. Is (Again (entry k t ∷ l)) m)

    abbrev Turned : Reader (Next (List HeadingEntry) (List HeadingEntry)) → ℕ → Type 0
    Turned p m = SameEntered d (entries_from d (entered h (Ok n))) (bind (p m) (turn (turns f)))

    text_read : (k m : ℕ) → k ≤ 3 → (r : Result KeptText) → once_of d (text_at h k) (Ok n) m ≡ to_phrase r
        → left d (text_entry d h (Ok n) k m).next < left d (Ok n)
        → SameEntered d (entries_from d (text_entry d h (Ok n) k m))
        (bind (bind (bind r λ t m. Is (some t) m) λ t m. bind (notes d m) λ a m. Is (Again (entry k t ∷ l)) m) (turn (turns f)))
    unfolding text_entry kept_of past_string
    text_read k m few (Is t i) e less =
        rw e (rw (notes_on_lem d (Is i i))
        (onward _ (entry k (some t)) (notes d i) (was.text (Ok n) m reached few e) (rw (e, notes_on_lem d (Is i i)) at less)))
    text_read k m few (Not x) e less = rw e (rw (notes_on_lem d {A = ℕ} (Not x)) (refused _ x))

    text_turn : (k m : ℕ) → k ≤ 3 → entry_of d (Ok n) ≡ kind.Text k m → Turned (one k (texted d)) m
    unfolding text_entry kept_of past_string
    text_turn k m few e = let E = entries_text d h (Ok n) refl e in rw E.0 (by (given k l) refl E.1) where
      by : (q : Bool) → given k l ≡ q → left d (text_entry d h (Ok n) k m).next < left d (Ok n)
          → SameEntered d (entries_from d (text_entry d h (Ok n) k m))
          (bind (cond {A = Reader (Next (List HeadingEntry) (List HeadingEntry))} q (λ m. Not (fault 2 n))
          (λ m. bind (texted d m) λ t m. bind (notes d m) λ a m. Is (Again (entry k t ∷ l)) m) m) (turn (turns f)))
      by true q less = rw (text_second d reached k m n few (given_same k l ∙ q))
          (rw (notes_on_lem d {A = ℕ} (Not (fault 2 n))) (refused _ (fault 2 n)))
      by false q less = text_read k m few (string d m)
          (text_first d reached k m (Ok n) few (given_same k l ∙ q) ∙ string_on_lem d (Is m m)) less

    -- STANDARD NAMES
    named_is : (m : ℕ) → name_entry d h (Ok n) m ≡ entered (named h) (name_entry d h (Ok n) m).next
    unfolding name_entry
    named_is m = by h.standard where
      by : (q : Bool) → cond {A = Entered} q (entered (named h) (again (Ok n))) (entered (named h) (notes_on d (word_on d (Ok m) NAMES)))
          ≡ entered (named h) (cond {A = Entered} q (entered (named h) (again (Ok n)))
          (entered (named h) (notes_on d (word_on d (Ok m) NAMES)))).next
      by true = refl
      by false = refl

    names_read : (r : Result Unit) → left d (notes_on d (to_reading r)) < left d (Ok n)
        → SameEntered d (entries_from d (entered (named h) (notes_on d (to_reading r))))
        (bind (bind (bind r λ a m. Is none m) λ t m. bind (notes d m) λ a m. Is (Again (entry 4 t ∷ l)) m) (turn (turns f)))
    names_read (Is a i) less = rw (notes_on_lem d (Is a i))
        (onward (named h) (entry 4 none) (notes d i) (was.names reached) (rw (notes_on_lem d (Is a i)) at less))
    names_read (Not x) less = rw (notes_on_lem d {A = ℕ} (Not x)) (refused (named h) x)

    names_turn : (m : ℕ) → entry_of d (Ok n) ≡ kind.Standard m → Turned (one 4 (names d)) m
    names_turn m e = let E = entries_names d h (Ok n) refl e in rw (E.0, named_is m) (by (given 4 l) refl E.1) where
      by : (q : Bool) → given 4 l ≡ q → left d (name_entry d h (Ok n) m).next < left d (Ok n)
          → SameEntered d (entries_from d (entered (named h) (name_entry d h (Ok n) m).next))
          (bind (cond {A = Reader (Next (List HeadingEntry) (List HeadingEntry))} q (λ m. Not (fault 2 n))
          (λ m. bind (names d m) λ t m. bind (notes d m) λ a m. Is (Again (entry 4 t ∷ l)) m) m) (turn (turns f)))
      by true q less = rw (names_second d reached m n (given_same 4 l ∙ q)) (refused (named h) (fault 2 n))
      by false q less =
          let first = names_first d reached m (Ok n) (given_same 4 l ∙ q) in
          rw (first, word_on_lem d (Is m m) NAMES) (names_read (word d NAMES m) (rw (first, word_on_lem d (Is m m) NAMES) at less))

    last_step : (w : Word) → entry_of d (Ok n) ≡ last (of_choice w) → Turned (λ n. on_word (one 4 (names d)) (λ n. Is (Done l) n) n w) n
    last_step (spelled.Matched m) e = names_turn m e
    last_step spelled.Not e = rw (entries_other d h (Ok n) refl e) (ends reached)

    or_step : (k : ℕ) (w : Word) (z : kinds.Entry) (q : Reader (Next (List HeadingEntry) (List HeadingEntry))) → k ≤ 3
        → entry_of d (Ok n) ≡ or (of_choice w) k z
        → (entry_of d (Ok n) ≡ z → Turned q n) → Turned (λ n. on_word (one k (texted d)) q n w) n
    or_step k (spelled.Matched m) z q few e then = text_turn k m few e
    or_step k spelled.Not z q few e then = then e

    -- what is tried behind a word that does not stand
    abbrev from_standard : Reader (Next (List HeadingEntry) (List HeadingEntry))
    from_standard = reading.once d l 4 STANDARD (names d) (λ n. Is (Done l) n)

    abbrev from_user : Reader (Next (List HeadingEntry) (List HeadingEntry))
    from_user = reading.once d l 3 USER (texted d) from_standard

    abbrev from_origin : Reader (Next (List HeadingEntry) (List HeadingEntry))
    from_origin = reading.once d l 2 ORIGIN (texted d) from_user

    abbrev from_time : Reader (Next (List HeadingEntry) (List HeadingEntry))
    from_time = reading.once d l 1 TIME (texted d) from_origin

    step : Turned (reading.heading_entered d l) n
    unfolding reading.heading_entered entry_of choice_of
    step =
        or_step 0 (word_at d n DATE) _ from_time (omega arith) refl
        λ e. or_step 1 (word_at d n TIME) _ from_origin (omega arith) e
        λ e. or_step 2 (word_at d n ORIGIN) _ from_user (omega arith) e
        λ e. or_step 3 (word_at d n USER) _ from_standard (omega arith) e
        λ e. last_step (word_at d n STANDARD) e

  pub entries_turns : (f n : ℕ) (h : books.Heading) (l : List HeadingEntry) → Reached d (items l) h → length d - n < f
      → SameEntered d (entries_from d (entered h (Ok n))) (turns f l n)
  unfolding repeat
  entries_turns zero n h l r e = absurd (omega arith)
  entries_turns (suc f) n h l r e = step f n h l r e (entries_turns f)
