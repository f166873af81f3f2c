-- `columns::put_single` meets its contract: what the last w bytes of the position say.
-- Assumes nothing.
use mathlib.Core.Path.{◌≡◌, ap, ◌∙◌}
use mathlib.Core.List.{[], ◌∷◌}
use Prim.Native.Nat.{◌-◌}
use Rattle.places.specs.rule.Places.{pick, run}
use Rattle.fields.specs.rule.Number.{code_of}
use Rattle.readings.proofs.Laws.{last_bytes}
use Rattle.matrix.specs.declared.Entry.{Entry}
use Rattle.matrix.specs.Put.{put_entries}
use Rattle.columns.specs.Said.{single_entry}
use Rattle.columns.proofs.put_single.Goals as goal
use Rattle.columns.proofs.put_single.Goals.{After-code_entry}

-- the entry made is that of what is said
made : (c : After-code_entry) → let a = c.args in
    c.code_entry.result ≡ single_entry (code_of (pick a.bytes.now (run (a.e - a.w) a.w)))
made c =
    let a = c.args in
    let p = c.requires.w_bound in
    c.code_entry.ensures
    ∙ ap single_entry (c.code-said.ensures ∙ ap code_of (last_bytes a.bytes.now a.e a.w p.1 p.2))

pub put_entry-requires : goal.put_entry-requires
put_entry-requires c = record {
  entry_good = rw (made c) c.requires.entry_good;
  flags_lt_values = c.requires.flags_lt_values;
}

pub returns : goal.returns
returns c =
    let a = c.args in
    c.put_entry.ensures ∙ ap (λ (e : Entry). put_entries a.out.now a.flags a.values (e ∷ []))
    (made (goal.at.returns c).After-code_entry)
