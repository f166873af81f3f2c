-- One variable by what the code is told of it.
use mathlib.Core.Path.{◌≡◌, sym, ap, ◌∙◌}
use mathlib.Core.Bool.{Bool}
use mathlib.Core.List.{List}
use Prim.Native.Nat.{ℕ, ◌+◌, ◌*◌, ◌≤◌, ◌<◌}
use native.Mathlib.Omega.{arith}
use lib.IntN.{ℤ}
use lib.ListN.{length}
use Rattle.cells.specs.rule.Cell.{pasted}
use Rattle.layout.specs.rule.Layout.{row_size}
use Rattle.layout.specs.declared.Columns.{Columns}
use Rattle.rows.specs.rule.Cells.{row_cells}
use Rattle.rows.specs.Cells.{SmallRow}
use Rattle.tokens.specs.declared.Fault.{Fault}
use Rattle.measures.specs.Survey.{Variable, lines_in, columns_in}
use Rattle.entries.specs.declared.Stood.{Stood}
use Rattle.entries.specs.declared.Stood.TheVariants as stood
use Rattle.entries.specs.Entry.{Entry, entry_of}
use Rattle.entries.specs.Entry.{stood_of}
use Rattle.entries.specs.Entry as entry
use Rattle.entries.specs.Good.{EntryGood}
use Rattle.entries.proofs.Goods.{entry_good}
use Rattle.laying.specs.declared.Tally.{Tally}
use Rattle.definition.specs.declared.Turn.{Turn}
use Rattle.definition.specs.declared.Turn.TheVariants as turn
use Rattle.laying.specs.Code.{tally_with}
use Rattle.definition.specs.Code.{followed, turn_after, RowStored}
use Rattle.definition.proofs.Small.{small_row}
use Rattle.tokens.specs.rule.Gap.{OrFault}

none : {A : Type 0} → ◌≡◌ {A = ℕ} 0 1 → A
none e = absurd (omega arith)

-- the variable behind its columns
pub record Told (e : Entry) (before : ℕ) (c : Columns) (last n : ℕ) : Type 0 where
  pub variable : Variable
  pub entry_is : e ≡ entry.Is variable n
  pub columns_are : c ≡ columns_in before variable
  pub last_is : last ≡ before + length (lines_in variable)

pub told : (e : Entry) (before : ℕ) (c : Columns) (last n : ℕ) (s : Stood) → s ≡ stood_of before e → s ≡ stood.Is c last n
    → Told e before c last n
unfolding stood_of
told (entry.Is v m) before c last n s i j =
    let k : stood.Is (columns_in before v) (before + length (lines_in v)) m ≡ stood.Is c last n = sym i ∙ j in
    let a : columns_in before v ≡ c = cc in
    let b : before + length (lines_in v) ≡ last = cc in
    let o : m ≡ n = cc in
    record { variable = v; entry_is = ap (entry.Is v) o; columns_are = sym a; last_is = sym b }
told (entry.Not f) before c last n s i j =
    let k : stood.Not f ≡ stood.Is c last n = sym i ∙ j in
    none cc

module _ (d : List ℕ) (t : OrFault ℕ) (met : ℕ → Bool) (y : Tally) (long : length d ≤ 1048576) (few : y.lines ≤ 4096) where
  abbrev here : Entry
  here = entry_of d t met y.rows y.lines

  module _ (c : Columns) (last n : ℕ) (k : Told here y.lines c last n) where
    good : EntryGood met y.rows y.lines k.variable
    good = entry_good d t met y.rows y.lines k.variable n long few k.entry_is

    pub small_here : SmallRow c
    small_here = rw k.columns_are (small_row y.lines k.variable good.good)

    pub left_here : y.rows < 512
    left_here = good.left

    pub turn_here : (r : Turn) (z : Tally) → z ≡ tally_with y c last → r ≡ followed d c.ident z n → r ≡ turn_after d y here
    unfolding turn_after
    turn_here r z i j = j ∙ rw (i, k.columns_are, k.last_is, k.entry_is)

    pub row_here : (room end : List ℤ) → end ≡ pasted room (row_size * y.rows) (row_cells c) → RowStored y here room end
    row_here room end i = record {
      row_stored = λ {v} {n = m} e. i
          ∙ rw k.columns_are (ap (λ (w : Variable). pasted room (row_size * y.rows) (row_cells (columns_in y.lines w))) (same v m e));
    }
      where
        same : (v : Variable) (m : ℕ) → here ≡ entry.Is v m → k.variable ≡ v
        same v m e = let q : entry.Is k.variable n ≡ entry.Is v m = sym k.entry_is ∙ e in cc

-- a refusal
refused_is : (e : Entry) (before : ℕ) (f : Fault) (s : Stood) → s ≡ stood_of before e → s ≡ stood.Not f → e ≡ entry.Not f
unfolding stood_of
refused_is (entry.Is v m) before f s i j =
    let k : stood.Is (columns_in before v) (before + length (lines_in v)) m ≡ stood.Not f = sym i ∙ j in
    none cc
refused_is (entry.Not g) before f s i j =
    let k : stood.Not g ≡ stood.Not f = sym i ∙ j in
    let o : g ≡ f = cc in
    ap entry.Not o

pub turn_not : (d : List ℕ) (y : Tally) (e : Entry) (before : ℕ) (f : Fault) (s : Stood) → s ≡ stood_of before e → s ≡ stood.Not f
    → turn.Not f ≡ turn_after d y e
unfolding turn_after
turn_not d y e before f s i j = rw (refused_is e before f s i j)

pub row_not : (y : Tally) (e : Entry) (before : ℕ) (f : Fault) (s : Stood) (room end : List ℤ) → s ≡ stood_of before e → s ≡ stood.Not f
    → RowStored y e room end
row_not y e before f s room end i j = record {
  row_stored = λ {v} {n} k. let q : entry.Not f
      ≡ entry.Is v n = sym (refused_is e before f s i j) ∙ k in none cc;
}
