-- What a variable tells, and what the code gives back of it.
use Rattle.std.specs.Prelude.{Ok, Err}
use mathlib.Core.Path.{◌≡◌, refl, ◌∙◌, ap}
use mathlib.Core.List.{List, []}
use Prim.Native.Nat.{ℕ, ◌+◌, ◌*◌}
use native.Mathlib.Omega.{arith}
use lib.IntN.{ℤ}
use Rattle.cells.specs.rule.Cell.{pasted}
use Rattle.cells.specs.Cell.{paste_none}
use Rattle.tokens.specs.declared.Fault.{Fault}
use Rattle.values.specs.declared.Block.{Block}
use Rattle.values.specs.declared.Said.{Said}
use Rattle.values.specs.declared.Listed.TheVariants as listed
use Rattle.values.specs.Line.{Given, cells_of}
use Rattle.values.specs.Line.{listed_of}
use Rattle.values.specs.Line as given
use Rattle.values.specs.Block.{empty_block}
use Rattle.variables.specs.declared.Rest.{Rest}
use Rattle.variables.specs.Rest.{Told, Is, Not, join_values, join_size, join_nothing}
use Rattle.variables.specs.Rest.{rested_of, Stored}
use Rattle.tokens.specs.rule.Gap.{OrFault}
use Rattle.tokens.specs.declared.Figures.{Figures}

pub never : {A : Type 0} → ◌≡◌ {A = ℕ} 0 1 → A
never e = absurd (omega arith)

abbrev rest : Block → ℕ → ℕ → ℕ → ℕ → ℕ → Rest
rest b last count width size n = record { block = b; last = last; subfields = count; subwidth = width; size = size; next = n }

abbrev lines_of_lem : Told → List Said
lines_of_lem (Is x) = x.lines
lines_of_lem (Not f) = []

-- ---- values
module _ (first count width : ℕ) where
  pub rested_is : (g : Given) {b : Block} {last n : ℕ} → listed.Is b last n ≡ listed_of first g → Ok (rest b last count width 0 n)
      ≡ rested_of first (join_values count width g)
  unfolding listed_of join_values rested_of
  rested_is (given.Is b l n) e = cc
  rested_is (given.Not f) e = let z : ◌≡◌ {A = ℕ} 0 1 = cc in absurd (omega arith)

  pub rested_not : (g : Given) {f : Fault} → listed.Not f ≡ listed_of first g → Err f ≡ rested_of first (join_values count width g)
  unfolding listed_of join_values rested_of
  rested_not (given.Is b l n) e = let z : ◌≡◌ {A = ℕ} 0 1 = cc in absurd (omega arith)
  rested_not (given.Not f) e = cc

  pub stored_values : (g : Given) {room end : List ℤ} → given.Stored first g room end → Stored first (join_values count width g) room end
  unfolding join_values
  stored_values (given.Is b l n) {room} {end} s = record {
    stored = λ {y} q. let j : l ≡ y.lines = ap lines_of_lem q in
        s.stored refl ∙ ap (λ (x : List Said). pasted room (4 * first) (cells_of x)) j;
  }
  stored_values (given.Not f) s = record { stored = λ {y} q. let z : ◌≡◌ {A = ℕ} 0 1 = cc in absurd (omega arith) }

-- ---- no values
pub stored_not : (first : ℕ) (f : Fault) (room end : List ℤ) → Stored first (Not f) room end
stored_not first f room end = record { stored = λ {y} q. let z : ◌≡◌ {A = ℕ} 0 1 = cc in absurd (omega arith) }

module _ (first : ℕ) where
  none : (size n : ℕ) (room : List ℤ) → Stored first
      (Is (record { block = empty_block; lines = []; subfields = 0; subwidth = 0; size = size; next = n })) room room
  unfolding cells_of
  none size n room = record {
    stored = λ {y} q. let j : [] ≡ y.lines = ap lines_of_lem q in
        paste_none room (4 * first) ∙ ap (λ (x : List Said). pasted room (4 * first) (cells_of x)) j;
  }

  pub rested_none : (size n : ℕ) → Ok (rest empty_block first 0 0 size n)
      ≡ rested_of first (Is (record { block = empty_block; lines = []; subfields = 0; subwidth = 0; size = size; next = n }))
  unfolding rested_of
  rested_none size n = let e : first ≡ first + 0 = omega arith in ap (λ (k : ℕ). Ok (rest empty_block k 0 0 size n)) e

  pub stored_size : (n : OrFault Figures) (room : List ℤ) → Stored first (join_size n) room room
  unfolding join_size
  stored_size (Ok x) room = none x.size x.next room
  stored_size (Err f) room = stored_not first f room room

  pub stored_nothing : (t : OrFault ℕ) (room : List ℤ) → Stored first (join_nothing t) room room
  unfolding join_nothing
  stored_nothing (Ok n) room = none 0 n room
  stored_nothing (Err f) room = stored_not first f room room
