-- `setbytes::bits::put_all` meets its contract: every category is legal, and `0` there with `1` for each member is the set.
use mathlib.Core.Path.{ap, ◌∙◌}
use mathlib.Core.List.{List}
use Prim.Native.Nat.{ℕ}
use native.Mathlib.Omega.{arith}
use Rattle.sets.specs.Full.{each_defined}
use Rattle.setbytes.specs.Sets.{with_members}
use Rattle.setbytes.proofs.AllSteps.{members_put}
use Rattle.setbytes.proofs.bits.put_all.Goals as goal

pub set_members-requires : goal.set_members-requires
set_members-requires c =
    let p = c.requires.bitstring in (
      record { few = p.0.few; inside = let k = c.clear_each.auto.bytes in let i = p.0.inside in omega arith },
      p.1,
    )

pub returns : goal.returns
returns c =
    let a = c.args in
    rw (each_defined a.t.now a.rows a.row a.w c.requires.each_legal)
    (c.set_members.ensures ∙ ap (λ (r : List ℕ). with_members r a.at a.list.now)
    c.clear_each.ensures
    ∙ members_put a.at c.requires.bitstring.1 (omega arith) a.bytes.now)

pub clear_each-requires : goal.clear_each-requires
clear_each-requires c = c.requires.bitstring.0
