-- `columns::put_quantity` meets its contract: what the last w bytes of the position say, over the power of the format.
-- Assumes nothing.
use mathlib.Core.Path.{◌≡◌, ap, ◌∙◌}
use mathlib.Core.List.{[], ◌∷◌}
use Prim.Native.Nat.{ℕ, ◌-◌, ◌^◌}
use Rattle.places.specs.rule.Places.{pick, run}
use Rattle.fields.specs.rule.Number.{quantity_of}
use Rattle.numbers.specs.Numeral.{said_of}
use Rattle.readings.proofs.Laws.{last_bytes}
use Rattle.matrix.specs.declared.Entry.{Entry}
use Rattle.matrix.specs.Put.{put_entries}
use Rattle.columns.specs.Said.{amount_entry}
use Rattle.columns.proofs.put_quantity.Goals as goal
use Rattle.columns.proofs.put_quantity.Goals.{After-amount_entry}

-- the entry made is that of what is said
made : (c : After-amount_entry) → let a = c.args in
    c.amount_entry.result ≡ amount_entry (10 ^ a.f.decimals) (quantity_of a.f (pick a.bytes.now (run (a.e - a.w) a.w)))
made c =
    let a = c.args in
    let p = c.requires.w_bound in
    c.amount_entry.ensures
    ∙ ap (λ (x : ℕ). amount_entry x (said_of c.quantity-said.result)) c.power-power.ensures
    ∙ ap (amount_entry (10 ^ a.f.decimals))
    (c.quantity-said.ensures ∙ ap (quantity_of a.f) (last_bytes a.bytes.now a.e a.w p.1 p.2))

pub put_entry-requires : goal.put_entry-requires
put_entry-requires c = record {
  entry_good = rw (made c) c.requires.entry_good;
  flags_lt_values = c.requires.flags_lt_values;
}

pub returns : goal.returns
returns c =
    let a = c.args in
    c.put_entry.ensures ∙ ap (λ (e : Entry). put_entries a.out.now a.flags a.values (e ∷ []))
    (made (goal.at.returns c).After-amount_entry)
