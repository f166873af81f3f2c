-- Of all that stands before the first variable: what it hands on stands, and what it refuses is met (specs/Tokens).
use Rattle.std.specs.Prelude.{List, ℕ, suc, ◌≤◌, eqb, length, Ok, Err}
use native.Mathlib.Omega.{arith}
use Rattle.tokens.specs.declared.Choice.{Choice}
use Rattle.tokens.specs.declared.Choice.TheVariants.{Taken, Left}
use Rattle.tokens.specs.declared.Quoted.{Quoted}
use Rattle.tokens.specs.Gap.{left}
use Rattle.tokens.specs.Token.{choice_of, word_here, word_on, string_on, past_string}
use Rattle.statements.specs.rule.Words.{DATE, TIME, ORIGIN, USER, STANDARD, NAMES, SURVEY, TITLE}
use Rattle.statements.specs.Opening.{opening_of}
use Rattle.statements.specs.Note.{notes_on}
use Rattle.heading.specs.declared.Heading.{Heading}
use Rattle.heading.specs.declared.Entered.{Entered}
use Rattle.heading.specs.declared.Entry.{Entry}
use Rattle.heading.specs.declared.Entry.TheVariants as entry
use Rattle.heading.specs.Heading.{or, last, entry_of, again, text_at, once_of, text_entry, name_entry, no_heading, entered, entry_step}
use Rattle.heading.specs.Heading.{entries_from, entries_on, title_or, front_of, front_on}
use Rattle.refusals.specs.Loops.{Onward, loop_keeps}
use Rattle.refusals.specs.Scanned.{either}
use Rattle.refusals.specs.Tokens.{Stands, word_here_lem, word_on_lem, ChoiceStands, choice_of_lem, PhraseStands, string_on_lem}
use Rattle.refusals.specs.Tokens.{past_string_lem}
use Rattle.refusals.specs.Statements.{notes_on_lem, opening_of_lem, record_on_lem}
use Rattle.tokens.specs.rule.Gap.{OrFault}

module _ (d : List ℕ) where
  -- ---- which statement it is
  abbrev EntryStands : Entry → Type 0
  EntryStands (entry.Text k m) = m ≤ length d
  EntryStands (entry.Standard m) = m ≤ length d
  EntryStands entry.Other = Unit

  text_or : (c : Choice) (k : ℕ) (z : Entry) → ChoiceStands d c → EntryStands z → EntryStands (or c k z)
  text_or (Taken m) k z h i = h
  text_or Left k z h i = i

  standard_or : (c : Choice) → ChoiceStands d c → EntryStands (last c)
  standard_or (Taken m) h = h
  standard_or Left h = tt

  entry_of_lem : (t : OrFault ℕ) → Stands d t → EntryStands (entry_of d t)
  unfolding entry_of
  entry_of_lem t h =
      text_or (choice_of d t DATE) 0 _ (choice_of_lem d t DATE h)
      (text_or (choice_of d t TIME) 1 _ (choice_of_lem d t TIME h)
      (text_or (choice_of d t ORIGIN) 2 _ (choice_of_lem d t ORIGIN h)
      (text_or (choice_of d t USER) 3 _ (choice_of_lem d t USER h)
      (standard_or (choice_of d t STANDARD) (choice_of_lem d t STANDARD h)))))

  -- ---- a statement
  again_stands : (t : OrFault ℕ) → Stands d t → Stands d (again t)
  unfolding again
  again_stands (Ok n) h = omega arith
  again_stands (Err f) h = h

  once_of_lem : (q : Quoted) (t : OrFault ℕ) (m : ℕ) → Stands d t → m ≤ length d → PhraseStands d (once_of d q t m)
  unfolding once_of
  once_of_lem q t m h k =
      either (PhraseStands d) (eqb q.next 0) (string_on_lem d (Ok m) k) (string_on_lem d (again t) (again_stands t h))

  text_entry_lem : (g : Heading) (t : OrFault ℕ) (k m : ℕ) → Stands d t → m ≤ length d → Stands d (text_entry d g t k m).next
  unfolding text_entry
  text_entry_lem g t k m h l =
      let p = once_of d (text_at g k) t m in
      notes_on_lem d (past_string p) (past_string_lem d p (once_of_lem (text_at g k) t m h l))

  name_entry_lem : (g : Heading) (t : OrFault ℕ) (m : ℕ) → Stands d t → m ≤ length d → Stands d (name_entry d g t m).next
  unfolding name_entry
  name_entry_lem g t m h l =
      either (λ (e : Entered). Stands d e.next) g.standard (again_stands t h)
      (notes_on_lem d (word_on d (Ok m) NAMES) (word_on_lem d (Ok m) NAMES l))

  -- ---- all of them
  abbrev EnteredStands : Entered → Type 0
  EnteredStands e = Stands d e.next

  entry_step_lem : (e : Entered) (x : Entry) → EnteredStands e → EntryStands x → Onward EnteredStands EnteredStands (entry_step d e x)
  entry_step_lem e (entry.Text k m) h l = text_entry_lem e.heading e.next k m h l
  entry_step_lem e (entry.Standard m) h l = name_entry_lem e.heading e.next m h l
  entry_step_lem e entry.Other h l = h

  entries_on_lem : (t : OrFault ℕ) → Stands d t → Stands d (entries_on d t).next
  unfolding entries_on entries_from
  entries_on_lem t h =
      loop_keeps (λ f. EnteredStands) EnteredStands (λ e. entry_step d e (entry_of d e.next)) (entered no_heading (Ok 0))
      (λ e p. omega arith) (λ f e p. entry_step_lem e (entry_of d e.next) p (entry_of_lem e.next p)) (suc (left d (notes_on d t)))
      (entered no_heading (notes_on d t)) (notes_on_lem d t h)

  -- ---- and the title and the record
  front_of_lem : (g : Heading) (t : OrFault ℕ) → Stands d t → Stands d (front_of d g t).next
  unfolding front_of
  front_of_lem g t h = by (choice_of d n TITLE) (choice_of_lem d n TITLE behind) where
    n : OrFault ℕ
    n = notes_on d (word_here d t SURVEY)

    behind : Stands d n
    behind = notes_on_lem d (word_here d t SURVEY) (word_here_lem d t SURVEY h)

    by : (c : Choice) → ChoiceStands d c → Stands d (title_or d g n c).next
    by (Taken m) k =
        let q = string_on d (Ok m) in
        record_on_lem d (past_string q) (past_string_lem d q (string_on_lem d (Ok m) k))
    by Left k = record_on_lem d n behind

  pub front_on_lem : Stands d (front_on d).next
  unfolding front_on
  front_on_lem =
      let e = entries_on d (opening_of d) in
      front_of_lem e.heading e.next (entries_on_lem (opening_of d) (opening_of_lem d))
