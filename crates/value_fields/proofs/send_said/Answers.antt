-- `value_fields::send_said` meets its contract: by what the bytes say.
use mathlib.Core.Path.{◌≡◌, ap, ◌∙◌}
use borrow.Author.Rules.{rules}
use lib.IntN.{ℤ, pos}
use mir.Syntax.{w64}
use mir.Val.{to_z, of_z}
use Rattle.cells.specs.rule.Cell.{eq_z}
use Rattle.fields.specs.rule.Number.{says}
use Rattle.numbers.specs.Numeral.{said_of}
use Rattle.sink.specs.Sent.{sent_as, nothing_sent}
use Rattle.value_fields.specs.rule.Values.{export_number}
use Rattle.value_fields.proofs.Legal.{said_blank, said_zero, said_number, said_wrong}
use Rattle.value_fields.proofs.send_said.Goals as goal
use Rattle.value_fields.proofs.send_said.Goals.{After-same, In-Says}

-- the number said is read back from its bits as it is
back : (c : In-Says) → to_z w64 (of_z w64 c.in-Says.z) ≡ c.in-Says.z
back c = search rules

zero_test : (c : After-same) → c.same.result ≡ eq_z c.in-Says.z (pos 0)
zero_test c = c.same.ensures ∙ ap (λ (z : ℤ). eq_z z (pos 0)) (back (goal.at.After-same c).In-Says)

pub returns-then-zero_is_missing-same : goal.returns-then-zero_is_missing-same
unfolding said_of
returns-then-zero_is_missing-same c ok g =
    let e = c.in-Says.is in
    sent_as (nothing_sent _ _ _) (rw e (said_zero _ ok _ _
    (rw (zero_test (goal.at.returns-then-zero_is_missing-same c).After-same) at c.if-zero_is_missing-same.true)))

pub send_number-requires : goal.send_number-requires
unfolding said_of
send_number-requires c =
    let p = c.requires in
    let z = c.in-Says.z in
    let e : said_of c.args.said ≡ says z = rw c.in-Says.is in record {
      tens = p.tens;
      z_bound = (rw (back (goal.at.send_number-requires c).In-Says) (p.told.0 z e), p.told.1);
    }

pub returns-in-Blank : goal.returns-in-Blank
unfolding said_of
returns-in-Blank c ok g = sent_as (nothing_sent _ _ _) (rw c.in-Blank.is (said_blank _ ok _))

pub returns-else-zero_is_missing-same : goal.returns-else-zero_is_missing-same
unfolding said_of
returns-else-zero_is_missing-same c ok g =
    let e = c.in-Says.is in
    sent_as c.send_number.ensures (ap (export_number _) (back (goal.at.returns-else-zero_is_missing-same c).In-Says)
    ∙ rw e (said_number _ ok _ _ (rw (zero_test (goal.at.returns-else-zero_is_missing-same c).After-same) at
    c.if-zero_is_missing-same.false) (rw e at g)))

pub returns-in-Wrong : goal.returns-in-Wrong
unfolding said_of
returns-in-Wrong c ok g = said_wrong 0 ok _ (rw c.in-Wrong.is at g)
