-- `columns::put_truth` meets its contract: what is read of the byte.
-- Assumes nothing.
use mathlib.Core.Path.{◌≡◌, ap, ◌∙◌}
use mathlib.Core.List.{[], ◌∷◌}
use Rattle.fields.specs.rule.Field.{truth_field}
use Rattle.matrix.specs.declared.Entry.{Entry}
use Rattle.matrix.specs.Put.{put_entries}
use Rattle.columns.specs.rule.Columns.{number_entry}
use Rattle.columns.specs.Marked.{answer_entry, answer_entry_lem}
use Rattle.columns.specs.Said.{truth_good}
use Rattle.columns.proofs.put_truth.Goals as goal
use Rattle.columns.proofs.put_truth.Goals.{After-number_entry}

made : (c : After-number_entry) → c.number_entry.result ≡ number_entry 1 (truth_field (c.args.b ∷ []))
made c =
    c.number_entry.ensures ∙ ap (answer_entry 1) (c.truth-a.ensures 0 0)
    ∙ answer_entry_lem 1 0 0 (truth_field (c.args.b ∷ []))

pub put_entry-requires : goal.put_entry-requires
put_entry-requires c = record {
  entry_good = rw (made c) (truth_good c.args.b);
  flags_lt_values = c.requires;
}

pub returns : goal.returns
returns c =
    let a = c.args in
    c.put_entry.ensures ∙ ap (λ (e : Entry). put_entries a.out.now a.flags a.values (e ∷ []))
    (made (goal.at.returns c).After-number_entry)
