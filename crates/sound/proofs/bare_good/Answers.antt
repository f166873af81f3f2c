-- `sound::bare_good` meets its contract: CHARACTER, LOGICAL, and no other type.
use mathlib.Core.Path.{◌≡◌, sym, ◌∙◌}
use mathlib.Core.Bool.{true}
use native.Mathlib.Omega.{arith}
use Rattle.below.specs.rule.Below.{◌and◌}
use Rattle.below.specs.Below.{and_no}
use Rattle.layout.specs.rule.Row.{kind_of, row_of}
use Rattle.sound.specs.rule.Sound.{width_good, room_good}
use Rattle.sound.specs.Types.{type_good, bare_good, type_unknown}
use Rattle.sound.specs.Values.{values_by}
use Rattle.sound.proofs.bare_good.Goals as goal
use Rattle.sound.proofs.bare_good.Goals.{Else-not-lacks_all}

-- what the columns showed
typed : (c : Else-not-lacks_all) → type_good c.args.c ≡ true
typed c =
    bare_good c.args.c c.requires.le_kind
    (omega (arith, c.if-c-gt5.false)) ∙ sym c.lacks_all.ensures ∙ c.if-not-lacks_all.false

pub returns-then-c-gt5 : goal.returns-then-c-gt5
returns-then-c-gt5 c =
    let t = c.if-c-gt5.true in
    sym (and_no _ _ (type_unknown c.args.c (λ q. omega arith) (λ q. omega arith) (λ q. omega arith) (λ q. omega arith)
    (λ q. omega arith)))

pub returns-then-not-lacks_all : goal.returns-then-not-lacks_all
returns-then-not-lacks_all c =
    sym (and_no _ _ (bare_good c.args.c c.requires.le_kind (omega (arith, c.if-c-gt5.false))
    ∙ sym c.lacks_all.ensures ∙ c.if-not-lacks_all.true))

pub returns-then-c-eq4 : goal.returns-then-c-eq4
unfolding values_by kind_of width_good room_good row_of ◌and◌
returns-then-c-eq4 c = rw (typed (goal.at.returns-then-c-eq4 c).Else-not-lacks_all, c.width_held.ensures, c.if-c-eq4.true)

pub returns : goal.returns
unfolding values_by kind_of width_good room_good row_of ◌and◌
returns c =
    let q : c.args.c.kind ≡ 5 = omega (
      arith,
      c.requires.le_kind,
      c.if-c-gt5.false,
      c.if-c-eq4.false,
    ) in
    rw (typed (goal.at.returns c).Else-not-lacks_all, c.width_held-2.ensures, q)

pub width_held-requires : goal.width_held-requires
width_held-requires c = c.requires.sited

pub width_held-requires-2 : goal.width_held-requires-2
width_held-requires-2 c = c.requires.sited
