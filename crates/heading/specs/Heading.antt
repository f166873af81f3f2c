-- THE CODE'S BOOKS, which contracts inside the library name; crate `bridge` proves them equal to the rule of crate `reading`.
-- DATE, TIME, ORIGIN, USER and STANDARD NAMES, in any order, each at most once: a second one is 2 at its word, before its text is read.
use Rattle.std.specs.Prelude.{ℕ, suc, true, false, cond, List, eqb, Ok, Err}
use Rattle.tokens.specs.declared.Choice.{Choice}
use Rattle.tokens.specs.declared.Choice.TheVariants.{Taken, Left}
use Rattle.tokens.specs.declared.Quoted.{Quoted}
use Rattle.tokens.specs.rule.Gap.{fault, OrFault}
use Rattle.tokens.specs.Gap.{left}
use Rattle.scan.specs.rule.Loop.{Next, Again, Done, loop_of}
use Rattle.tokens.specs.Token.{choice_of, word_here, word_on, string_on, past_string}
use Rattle.statements.specs.rule.Words.{DATE, TIME, ORIGIN, USER, STANDARD, NAMES, SURVEY, TITLE}
use Rattle.statements.specs.Opening.{opening_of, record_on}
use Rattle.statements.specs.Note.{notes_on}
use Rattle.heading.specs.declared.Heading.{Heading}
use Rattle.heading.specs.declared.Entered.{Entered}
use Rattle.heading.specs.declared.Front.{Front}
use Rattle.heading.specs.declared.Entry.{Entry}
use Rattle.heading.specs.declared.Entry.TheVariants.{Text, Standard, Other}

abbrev pub or : Choice → ℕ → Entry → Entry
or (Taken m) k z = Text k m
or Left k z = z

abbrev pub last : Choice → Entry
last (Taken m) = Standard m
last Left = Other

unfoldable pub entry_of : List ℕ → OrFault ℕ → Entry
entry_of d t =
    or (choice_of d t DATE) 0
    (or (choice_of d t TIME) 1
    (or (choice_of d t ORIGIN) 2
    (or (choice_of d t USER) 3
    (last (choice_of d t STANDARD)))))

unfoldable pub again : OrFault ℕ → OrFault ℕ
again (Ok n) = Err (fault 2 n)
again (Err f) = Err f

unfoldable pub text_at : Heading → ℕ → Quoted
text_at h k = cond (eqb k 0) h.date (cond (eqb k 1) h.time (cond (eqb k 2) h.origin h.user))

unfoldable pub with_text : Heading → ℕ → Quoted → Heading
with_text h k q =
    cond (eqb k 0) (record { date = q; time = h.time; origin = h.origin; user = h.user; standard = h.standard })
    (cond (eqb k 1) (record { date = h.date; time = q; origin = h.origin; user = h.user; standard = h.standard })
    (cond (eqb k 2) (record { date = h.date; time = h.time; origin = q; user = h.user; standard = h.standard })
    (record { date = h.date; time = h.time; origin = h.origin; user = q; standard = h.standard })))

-- the string of a text that was not given before: a text that was has a place behind it
unfoldable pub once_of : List ℕ → Quoted → OrFault ℕ → ℕ → OrFault Quoted
once_of d q t m = cond (eqb q.next 0) (string_on d (Ok m)) (string_on d (again t))

unfoldable pub kept_of : Quoted → OrFault Quoted → Quoted
kept_of q (Ok x) = x
kept_of q (Err f) = q

unfoldable pub text_entry : List ℕ → Heading → OrFault ℕ → ℕ → ℕ → Entered
text_entry d h t k m =
    let p = once_of d (text_at h k) t m in
    record { heading = with_text h k (kept_of (text_at h k) p); next = notes_on d (past_string p) }

unfoldable pub named : Heading → Heading
named h = record { date = h.date; time = h.time; origin = h.origin; user = h.user; standard = true }

unfoldable pub name_entry : List ℕ → Heading → OrFault ℕ → ℕ → Entered
name_entry d h t m =
    cond h.standard (record { heading = named h; next = again t })
    (record { heading = named h; next = notes_on d (word_on d (Ok m) NAMES) })

-- ---- all of them, up to a statement that is none
abbrev pub no_text : Quoted
no_text = record { place = 0; length = 0; next = 0 }

abbrev pub no_heading : Heading
no_heading = record { date = no_text; time = no_text; origin = no_text; user = no_text; standard = false }

abbrev pub entered : Heading → OrFault ℕ → Entered
entered h t = record { heading = h; next = t }

abbrev pub entry_step : List ℕ → Entered → Entry → Next Entered Entered
entry_step d e (Text k m) = Again (text_entry d e.heading e.next k m)
entry_step d e (Standard m) = Again (name_entry d e.heading e.next m)
entry_step d e Other = Done e

unfoldable pub entries_from : List ℕ → Entered → Entered
entries_from d e = loop_of (λ e. entry_step d e (entry_of d e.next)) (entered no_heading (Ok 0)) (suc (left d e.next)) e

unfoldable pub entries_on : List ℕ → OrFault ℕ → Entered
entries_on d t = entries_from d (entered no_heading (notes_on d t))

-- ---- all that stands before the first variable: SSS VERSION 1.1, the heading, SURVEY, an optional TITLE, RECORD and a letter
abbrev pub title_or : List ℕ → Heading → OrFault ℕ → Choice → Front
title_or d h n (Taken m) =
    let q = string_on d (Ok m) in
    record { heading = h; title = kept_of no_text q; next = record_on d (past_string q) }
title_or d h n Left = record { heading = h; title = no_text; next = record_on d n }

unfoldable pub front_of : List ℕ → Heading → OrFault ℕ → Front
front_of d h t =
    let n = notes_on d (word_here d t SURVEY) in
    title_or d h n (choice_of d n TITLE)

unfoldable pub front_on : List ℕ → Front
front_on d =
    let e = entries_on d (opening_of d) in
    front_of d e.heading e.next
