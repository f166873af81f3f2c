-- `prologs::root_missed` meets its contract: nothing is left, the name's beginning, another name, or something else.
use mathlib.Core.Path.{◌≡◌, sym, ◌∙◌}
use mathlib.Core.Bool.{Bool}
use mathlib.Core.List.{List}
use Prim.Native.Nat.{ℕ, ◌-◌}
use lib.ListN.{length, take, drop, length-drop}
use lib.Seq.{take_all}
use borrow.Author.Tests.{le-leb, lt-leb}
use native.Mathlib.Omega.{arith}
use Rattle.markup.specs.rule.Bytes.{stands}
use Rattle.prologs.specs.rule.Form.{sss}
use Rattle.prologs.specs.rule.Told.{root_missed}
use Rattle.prologs.proofs.root_missed.Goals as goal

rest_is : (d : List ℕ) (p : ℕ) → take (length d - p) (drop p d) ≡ drop p d
rest_is d p = take_all (length d - p) (drop p d) (omega (arith, length-drop p d))

begins : (d : List ℕ) (p : ℕ) {b : Bool} → stands (take (length d - p) (drop p d)) sss ≡ b → stands (drop p d) sss ≡ b
begins d p e = rw (rest_is d p) at e

pub returns-then-d-at : goal.returns-then-d-at
unfolding root_missed
returns-then-d-at c =
    rw (c.end_fault.ensures, le-leb (length c.args.d.now) c.args.at (omega arith))

pub returns-then-is_there : goal.returns-then-is_there
unfolding root_missed
returns-then-is_there c =
    rw (
      c.end_fault-then-is_there.ensures,
      lt-leb (length c.args.d.now) c.args.at (omega arith),
      begins c.args.d.now c.args.at (sym c.is_there.ensures ∙ c.if-is_there.true),
    )

pub returns-then-starts_name : goal.returns-then-starts_name
unfolding root_missed
returns-then-starts_name c =
    rw (
      lt-leb (length c.args.d.now) c.args.at (omega arith),
      begins c.args.d.now c.args.at (sym c.is_there.ensures ∙ c.if-is_there.false),
      sym c.starts_name.ensures ∙ c.if-starts_name.true,
    )

pub returns : goal.returns
unfolding root_missed
returns c =
    rw (
      lt-leb (length c.args.d.now) c.args.at (omega arith),
      begins c.args.d.now c.args.at (sym c.is_there.ensures ∙ c.if-is_there.false),
      sym c.starts_name.ensures ∙ c.if-starts_name.false,
    )
