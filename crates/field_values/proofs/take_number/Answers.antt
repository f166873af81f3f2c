-- `field_values::take_number` meets its contract.
use mathlib.Core.Path.{◌≡◌, refl, sym, ap, ◌∙◌}
use borrow.Author.Rules.{rules, sfits_of}
use mir.Facts.{to_z-of_z}
use mir.Syntax.{w64}
use mir.Val.{to_z, of_z}
use lib.ListN.{length}
use Rattle.writes.specs.rule.Write.{lent_value}
use Rattle.field_values.specs.Steps.{number_sendable, number_stands, number_inside, none_taken, left_none, number_left_is, number_is}
use Rattle.field_values.specs.Steps.{wrote}
use Rattle.field_values.proofs.take_number.Goals as goal
use Rattle.field_values.proofs.take_number.Goals.{After-guess_number-z}

-- the number is read back from its bits as it is
back : (c : After-guess_number-z) → to_z w64 (of_z w64 c.guess_number-z.result) ≡ c.guess_number-z.result
back c = search rules

pub send_number-n-requires : goal.send_number-n-requires
send_number-n-requires c = record {
  tens = c.requires.tens;
  z_bound = (
    number_sendable c.args.k c.args.f.now
        (back (goal.at.send_number-n-requires c).After-guess_number-z ∙ c.guess_number-z.ensures),
    c.requires.fact.3,
  );
}

pub slice_bounds-room-end : goal.slice_bounds-room-end
slice_bounds-room-end c =
    number_inside c.args.k (to_z w64 (of_z w64 c.guess_number-z.result)) c.send_number-n.ensures
    c.requires.fact.3 refl

pub slice_bounds-left_of-end : goal.slice_bounds-left_of-end
slice_bounds-left_of-end c =
    let s = number_stands c.args.k
    (to_z w64 (of_z w64 c.guess_number-z.result)) c.send_number-n.ensures
    c.requires.fact.3 refl in s.0 ∙ ap length (sym s.1)

pub returns-then-not-left_of : goal.returns-then-not-left_of
returns-then-not-left_of c =
    let s = number_stands c.args.k (to_z w64 (of_z w64 c.guess_number-z.result))
    c.send_number-n.ensures c.requires.fact.3 refl in
    none_taken (left_none _ _ _ _ (number_left_is c.args.row c.args.f.now c.requires.fact.0
    c.requires.fact.1 c.requires.fact.2 (to_z-of_z {w = w64} (sfits_of c.guess_number-z.type_inv)
    ∙ c.guess_number-z.ensures) s.1 (sym c.if-not-left_of.true ∙ c.left_of.ensures)))

pub returns : goal.returns
unfolding lent_value
returns c =
    let s = number_stands c.args.k (to_z w64 (of_z w64 c.guess_number-z.result))
    c.send_number-n.ensures c.requires.fact.3 refl in
    wrote (number_is c.args.row c.args.f.now c.requires.fact.0 c.requires.fact.1 c.requires.fact.2
    (to_z-of_z {w = w64} (sfits_of c.guess_number-z.type_inv) ∙ c.guess_number-z.ensures)) (number_left_is
    c.args.row c.args.f.now c.requires.fact.0 c.requires.fact.1 c.requires.fact.2
    (to_z-of_z {w = w64} (sfits_of c.guess_number-z.type_inv) ∙ c.guess_number-z.ensures) s.1
    (sym c.if-not-left_of.false ∙ c.left_of.ensures))
    c.write_number.ensures c.is_done.ensures
