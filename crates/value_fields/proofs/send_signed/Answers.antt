-- `value_fields::send_signed` meets its contract: spaces, a number with a minus, or an amount.
use mathlib.Core.Path.{◌≡◌, sym, ap, ◌∙◌}
use native.Mathlib.Omega.{arith}
use mathlib.Core.Bool.{true, false}
use Prim.Native.Nat.{◌-◌, ◌<◌}
use lib.ListN.{length, take, drop}
use Rattle.fields.specs.rule.Number.{unspaced, amount_of, amount_form, quantity_of}
use Rattle.numbers.proofs.Laws.{rest_is, short_rest, quantity_none, quantity_plain}
use Rattle.readings.specs.Answer.{numeral_field}
use Rattle.sink.specs.Sent.{sent_as, nothing_sent}
use Rattle.bare_digits.specs.Bare.{unled_spaces}
use Rattle.value_fields.proofs.Bare.{amount_small, quantity_bare}
use Rattle.value_fields.proofs.Bare.{form_of, quantity_empty}
use Rattle.value_fields.proofs.send_signed.Goals as goal
use Rattle.value_fields.proofs.send_signed.Goals.{After-leading-p, Else-s-p-eq45}

skipped : (c : After-leading-p) → let s = c.args.s.now in unspaced s ≡ drop c.leading-p.result s
skipped c = sym (unled_spaces c.args.s.now) ∙ c.leading-p.ensures.1

-- without a minus it is an amount
below : (c : Else-s-p-eq45) → c.leading-p.result < length c.args.s.now
below c = omega (arith, c.if-s-p.false)

plain : (c : Else-s-p-eq45) → let a = c.args in let p = c.leading-p.result in
    quantity_of a.f a.s.now ≡ amount_of a.f false (take (length a.s.now - p) (drop p a.s.now))
plain c =
    let a = c.args in
    let h = below c in
    quantity_plain _ _ (skipped (goal.at.Else-s-p-eq45 c).After-leading-p) a.f (below c) c.if-s-p-eq45.false
    ∙ ap (amount_of a.f false) (sym (rest_is a.s.now c.leading-p.result (omega arith)))

form : (c : Else-s-p-eq45) → let a = c.args in let p = c.leading-p.result in
    amount_form a.f (take (length a.s.now - p) (drop p a.s.now)) ≡ true
form c = form_of c.args.f c.args.s.now _ (plain c) c.requires.told.1

pub returns-then-s-p : goal.returns-then-s-p
returns-then-s-p c ok g =
    let a = c.args in
    sent_as (nothing_sent _ _ _) (quantity_empty a.f a.s.now
    (quantity_none _ _ (skipped (goal.at.returns-then-s-p c).After-leading-p) a.f c.if-s-p.true) ok)

pub send_said-requires : goal.send_said-requires
send_said-requires c = let p = c.requires in record {
  tens = p.tens;
  told = (λ z e. p.told.0 z (sym c.quantity.ensures ∙ e), p.format_facts.0.few);
}

pub returns-then-s-p-eq45 : goal.returns-then-s-p-eq45
unfolding numeral_field
returns-then-s-p-eq45 c ok g = let e = c.quantity.ensures in rw e at (c.send_said.ensures ok (rw e g))

pub send_size-requires : goal.send_size-requires
send_size-requires c =
    let a = c.args in
    let p = c.requires in
    let h = below (goal.at.send_size-requires c).Else-s-p-eq45 in record {
      format_facts = (p.format_facts.0, short_rest a.s.now c.leading-p.result (omega arith) p.format_facts.1);
      s_value = (
        form (goal.at.send_size-requires c).Else-s-p-eq45,
        amount_small a.f a.s.now _ (plain (goal.at.send_size-requires c).Else-s-p-eq45) (form (goal.at.send_size-requires c).Else-s-p-eq45)
            p.told.0,
      );
    }

pub returns : goal.returns
returns c ok g =
    let a = c.args in
    sent_as c.send_size.ensures (quantity_bare a.f a.s.now _ (plain (goal.at.returns c).Else-s-p-eq45)
    (form (goal.at.returns c).Else-s-p-eq45) ok g)

pub quantity-requires : goal.quantity-requires
quantity-requires c = record { format_facts = c.requires.format_facts.0; s_len_bound = c.requires.format_facts.1 }
