-- All that stands before the first variable, and the ENDs behind the last.
use Rattle.std.specs.Prelude.{◌≡◌, refl, List, [], ℕ, suc, length, Ok, Err}
use Rattle.std.proofs.Common.{◌∙◌, arith}
use Rattle.std.proofs.Math.Option.{Option, none, some}
use Rattle.scan.specs.rule.Text.{text, place_of}
use Rattle.scan.specs.rule.Word.{word_at}
use Rattle.scan.specs.declared.Word.{Word}
use Rattle.scan.specs.declared.Word.TheVariants as spelled
use Rattle.tokens.specs.declared.Fault.{Fault}
use Rattle.tokens.specs.declared.Quoted.{Quoted}
use Rattle.tokens.specs.Token.{of_choice, choice_of, letter_on, past_string}
use Rattle.statements.specs.rule.Words.{SURVEY, TITLE, RECORD}
use Rattle.statements.specs.Note.{notes_on}
use Rattle.statements.specs.Opening.{record_on}
use Rattle.heading.specs.declared.Heading as books
use Rattle.heading.specs.declared.Entered.{Entered}
use Rattle.heading.specs.declared.Front.{Front}
use Rattle.heading.specs.Heading.{kept_of, no_text, no_heading, entered, entries_from, entries_on, title_or, front_of, front_on}
use Rattle.heading.specs.Given.{Reached}
use Rattle.heading.specs.Given as was
use Rattle.heading.proofs.Once.{given_standard}
use Rattle.survey.specs.rule.Survey.{KeptText, Heading}
use Rattle.reading.specs.rule.Result.{Result, Is, Not, Reader, bind, repeat}
use Rattle.reading.specs.rule.Token.{on_word, here, string, letter, either}
use Rattle.reading.specs.rule.Statement.{notes, statement}
use Rattle.reading.specs.rule.Opening.{opening}
use Rattle.reading.specs.rule.Whole.{HeadingEntry, texted, heading, front}
use Rattle.reading.specs.rule.Whole as reading
use Rattle.bridge.specs.Tokens.{to_reading, to_phrase, here_on, string_on_lem, letter_on_lem}
use Rattle.bridge.specs.Notes.{notes_on_lem, statement_on_lem}
use Rattle.bridge.specs.Openings.{opening_on}
use Rattle.bridge.specs.Headings.{items, given_same, SameEntered, ends, stops, refused, entries_turns}

pub data SameFront : Front → Result Heading → Type 0 where
  fronts : {o : Front} {h : Heading} {n : ℕ} → o.next ≡ Ok n → o.heading.standard ≡ h.standard → SameFront o (Is h n)
  stopped : {o : Front} {f : Fault} → o.next ≡ Err f → SameFront o (Not f)

module _ (d : List ℕ) where
  -- an optional TITLE, RECORD and a letter
  abbrev closing : List HeadingEntry → Reader Heading
  closing l n = bind (either d TITLE (texted d) (λ n. Is none n) n) λ o n. bind (statement d RECORD n) λ a n. bind (letter d n) λ c n. Is
      (heading l o c) n

  module _ (h : books.Heading) (l : List HeadingEntry) (reached : Reached d (items l) h) where
    -- RECORD and a letter
    record_at : (q : Quoted) (o : Option KeptText) (s : Result Unit)
        → SameFront (record { heading = h; title = q; next = letter_on d (to_reading s) })
        (bind s λ a n. bind (letter d n) λ c n. Is (heading l o c) n)
    record_at q o (Is a n) = rw (letter_on_lem d (Is a n)) (by (letter d n)) where
      by : (r : Result ℕ) → SameFront (record { heading = h; title = q; next = to_reading r }) (bind r λ c n. Is (heading l o c) n)
      by (Is c m) = fronts refl (given_standard d reached ∙ given_same 4 l)
      by (Not f) = stopped refl
    record_at q o (Not f) = rw (letter_on_lem d {A = ℕ} (Not f)) (stopped refl)

    record_then : (q : Quoted) (r : Result (Option KeptText))
        → SameFront (record { heading = h; title = q; next = record_on d (to_reading r) })
        (bind r λ o n. bind (statement d RECORD n) λ a n. bind (letter d n) λ c n. Is (heading l o c) n)
    unfolding record_on
    record_then q (Is o n) = rw (statement_on_lem d (Is o n) RECORD) (record_at q o (statement d RECORD n))
    record_then q (Not f) = rw (statement_on_lem d {A = ℕ} (Not f) RECORD) (rw (letter_on_lem d {A = ℕ} (Not f)) (stopped refl))

    -- SURVEY, an optional TITLE
    title_read : (r : Result KeptText)
        → SameFront (record { heading = h; title = kept_of no_text (to_phrase r); next = record_on d (past_string (to_phrase r)) })
        (bind (bind r λ t n. Is (some t) n) λ o n. bind (statement d RECORD n) λ a n. bind (letter d n) λ c n. Is (heading l o c) n)
    unfolding past_string
    title_read (Is t n) = record_then (kept_of no_text (to_phrase (Is t n))) (Is (some t) n)
    title_read (Not f) = record_then (kept_of no_text (to_phrase (Not f))) (Not f)

    title_at : (r : Result Unit) → SameFront (title_or d h (to_reading r) (choice_of d (to_reading r) TITLE)) (bind r λ a. closing l)
    unfolding choice_of
    title_at (Is a n) = by (word_at d n TITLE) where
      by : (w : Word) → SameFront (title_or d h (Ok n) (of_choice w))
          (bind (on_word (texted d) (λ n. Is none n) n w) λ o n. bind (statement d RECORD n) λ a n. bind (letter d n) λ c n. Is
          (heading l o c) n)
      by (spelled.Matched m) = rw (string_on_lem d (Is m m)) (title_read (string d m))
      by spelled.Not = record_then no_text (Is none n)
    title_at (Not f) = record_then no_text (Not f)

    survey_at : (k : ℕ) → SameFront (front_of d h (Ok k)) (bind (here d SURVEY k) λ a n. bind (notes d n) λ a. closing l)
    unfolding front_of
    survey_at k = rw (here_on d (Is k k) SURVEY) (by (here d SURVEY k)) where
      by : (s : Result Unit) → SameFront (title_or d h (notes_on d (to_reading s)) (choice_of d (notes_on d (to_reading s)) TITLE))
          (bind s λ a n. bind (notes d n) λ a. closing l)
      by (Is a n) = rw (notes_on_lem d (Is a n)) (title_at (notes d n))
      by (Not f) = rw (notes_on_lem d {A = ℕ} (Not f)) (title_at (Not f))

  record_refused : (f : Fault) → record_on d (Err f) ≡ Err f
  unfolding record_on
  record_refused f = rw (statement_on_lem d {A = ℕ} (Not f) RECORD) (letter_on_lem d {A = ℕ} (Not f))

  refused_front : (h : books.Heading) (f : Fault) → SameFront (front_of d h (Err f)) (Not f)
  unfolding front_of choice_of
  refused_front h f = rw (here_on d {A = ℕ} (Not f) SURVEY) (rw (notes_on_lem d {A = ℕ} (Not f)) (stopped (record_refused f)))

  pub front_on_lem : SameFront (front_on d) (front d (place_of (text d 0)))
  unfolding front_on entries_on front
  front_on_lem = rw (opening_on d) (at_opening (opening d (place_of (text d 0)))) where
    at_end_lem : {e : Entered} {r : Result (List HeadingEntry)} → SameEntered d e r
        → SameFront (front_of d e.heading e.next) (bind r λ l n. bind (here d SURVEY n) λ a n. bind (notes d n) λ a. closing l)
    at_end_lem (ends {h = h} {l = l} {n = n} reached) = survey_at h l reached n
    at_end_lem (stops {h = h} {f = f}) = refused_front h f

    at_notes : (r : Result Unit)
        → SameFront (front_of d (entries_from d (entered no_heading (to_reading r))).heading
        (entries_from d (entered no_heading (to_reading r))).next)
        (bind r λ a n. bind (repeat (suc (length d)) (reading.heading_entered d) [] n) λ l n. bind (here d SURVEY n) λ a n. bind
        (notes d n) λ a. closing l)
    at_notes (Is a m) = at_end_lem (entries_turns d (suc (length d)) m no_heading [] was.none (omega arith))
    at_notes (Not f) = at_end_lem (refused d no_heading f)

    at_opening : (r : Result Unit)
        → SameFront (front_of d (entries_from d (entered no_heading (notes_on d (to_reading r)))).heading
        (entries_from d (entered no_heading (notes_on d (to_reading r)))).next)
        (bind r λ a n. bind (notes d n) λ a n. bind (repeat (suc (length d)) (reading.heading_entered d) [] n) λ l n. bind
        (here d SURVEY n) λ a n. bind (notes d n) λ a. closing l)
    at_opening (Is a n) = rw (notes_on_lem d (Is a n)) (at_notes (notes d n))
    at_opening (Not f) = rw (notes_on_lem d {A = ℕ} (Not f)) (at_notes (Not f))
