use mathlib.Core.Path.{◌∙◌, sym}
use Rattle.std.proofs.Common.{rules}
use Rattle.statements.proofs.Notes.{notes_same, notes_refused}
use Rattle.statements.proofs.notes_on.Goals as goal

pub returns-in_err-n : goal.returns-in_err-n
returns-in_err-n c = search (rules, notes_refused)

pub returns-then-no_note : goal.returns-then-no_note
returns-then-no_note c =
    let p = c.pass_blanks-m in
    rw c.in_ok-n.was
    (sym (notes_same _ _ _ p.ensures.0 ∙ c.no_note.ensures c.if-no_note.true))

pub returns : goal.returns
returns c = rw c.in_ok-n.was
    (c.notes_apart.ensures ∙ sym (notes_same _ _ _ c.pass_blanks-m.ensures.0))

pub no_note-requires : goal.no_note-requires
no_note-requires c = c.pass_blanks-m.ensures.2

pub notes_apart-requires : goal.notes_apart-requires
notes_apart-requires c = c.requires
