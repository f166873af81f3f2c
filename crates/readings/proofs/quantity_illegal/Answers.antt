-- `readings::quantity_illegal` meets its contract: what the last w bytes of the position say.
use mathlib.Core.Path.{◌≡◌, ap, ◌∙◌}
use Prim.Native.Nat.{◌-◌}
use native.Mathlib.Omega.{arith}
use lib.ListN.{length-take}
use Rattle.places.specs.rule.Places.{pick, run}
use Rattle.fields.specs.rule.Number.{quantity_of}
use Rattle.numbers.specs.Numeral.{said_of}
use Rattle.readings.specs.Answer.{illegal_answer}
use Rattle.readings.proofs.Laws.{as_quantity_says, last_bytes, illegal_back}
use Rattle.readings.proofs.quantity_illegal.Goals as goal
use Rattle.readings.proofs.quantity_illegal.Goals.{After-quantity-said}

-- what the value places say
said : (c : After-quantity-said) → said_of c.quantity-said.result
    ≡ quantity_of c.args.f
    (pick c.args.bytes.now
    (run (c.args.row.finish - c.args.row.width)
    c.args.row.width))
said c = c.quantity-said.ensures ∙ ap (quantity_of c.args.f)
    (last_bytes c.args.bytes.now _ _ c.requires.number_facts.reach
    c.requires.number_facts.inside)

pub quantity-said-requires : goal.quantity-said-requires
quantity-said-requires c = let f = c.requires.number_facts.few in
    let g = c.requires.number_facts.reach in record {
      format_facts = c.requires.format_facts;
      s_len_bound = simp length-take (omega arith);
    }

pub returns : goal.returns
returns c = c.is_illegal.ensures ∙ ap illegal_answer
    (c.numeral_answer.ensures 0 0 ∙ as_quantity_says _ _ _ _ 0 0 (said (goal.at.returns c).After-quantity-said)) ∙ illegal_back 0 0 _

pub overflow_sub-a : goal.overflow_sub-a
overflow_sub-a c = let f = c.requires.number_facts.reach in omega arith

pub slice_bounds-quantity-end : goal.slice_bounds-quantity-end
slice_bounds-quantity-end c = c.requires.number_facts.inside

pub numeral_answer-requires : goal.numeral_answer-requires
numeral_answer-requires c = c.requires.number_facts.lines
