-- `setbytes::bits::next_is` meets its contract.
use mathlib.Core.Path.{◌≡◌, ◌∙◌}
use mathlib.Core.Bool.{false}
use mathlib.Core.List.{List}
use Prim.Native.Nat.{ℕ, ◌≤◌, ◌<◌}
use borrow.Author.Rules.{sfits_of}
use mir.Facts.{to_z-of_z}
use lib.IntN.{ℤ, pos}
use lib.ListN.{length, get_or, drop, drop_of_length-le}
use lib.Seq.{drop-cons}
use Rattle.cells.specs.rule.Cell.{eq_z}
use Rattle.setbytes.specs.Sets.{head_is}
use Rattle.setbytes.proofs.bits.next_is.Goals as goal

some : (ms : List ℤ) (j : ℕ) (c : ℤ) → j < length ms → eq_z (get_or ms j (pos 0)) c ≡ head_is (drop j ms) c
unfolding head_is
some ms j c h = rw (drop-cons ms j (pos 0))

none : (ms : List ℤ) (j : ℕ) (c : ℤ) → length ms ≤ j → false ≡ head_is (drop j ms) c
unfolding head_is
none ms j c h = rw (drop_of_length-le ms h)

pub returns-then-j-list : goal.returns-then-j-list
returns-then-j-list c =
    c.same.ensures
    ∙ rw (to_z-of_z (sfits_of c.same-arg-1.given), to_z-of_z (sfits_of c.cell_of.type_inv), c.cell_of.ensures)
    (some _ _ _ c.if-j-list.true)

pub returns-else-j-list : goal.returns-else-j-list
returns-else-j-list c = none _ _ _ c.if-j-list.false
