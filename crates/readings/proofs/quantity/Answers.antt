-- `readings::quantity` meets its contract: what the last w bytes of the position say.
use mathlib.Core.Path.{◌≡◌, ap, ◌∙◌}
use Prim.Native.Nat.{◌-◌}
use native.Mathlib.Omega.{arith}
use lib.ListN.{length-take}
use Rattle.places.specs.rule.Places.{pick, run}
use Rattle.fields.specs.rule.Number.{quantity_of}
use Rattle.numbers.specs.Numeral.{said_of}
use Rattle.readings.proofs.Laws.{as_quantity_says, last_bytes}
use Rattle.readings.proofs.quantity.Goals as goal
use Rattle.readings.proofs.quantity.Goals.{After-quantity}

-- what the value places say
said : (c : After-quantity) → said_of c.quantity.result
    ≡ quantity_of c.args.f
    (pick c.args.bytes.now
    (run (c.args.row.finish - c.args.row.width)
    c.args.row.width))
said c = c.quantity.ensures ∙ ap (quantity_of c.args.f)
    (last_bytes c.args.bytes.now _ _ c.requires.number_facts.reach
    c.requires.number_facts.inside)

pub quantity-requires : goal.quantity-requires
quantity-requires c = let f = c.requires.number_facts.few in
    let g = c.requires.number_facts.reach in record {
      format_facts = c.requires.format_facts;
      s_len_bound = simp length-take (omega arith);
    }

pub returns : goal.returns
returns c p n = c.numeral_answer.ensures p n ∙ as_quantity_says _ _ _ _ p n (said (goal.at.returns c).After-quantity)

pub overflow_sub-a : goal.overflow_sub-a
overflow_sub-a c = let f = c.requires.number_facts.reach in omega arith

pub slice_bounds-quantity-end : goal.slice_bounds-quantity-end
slice_bounds-quantity-end c = c.requires.number_facts.inside

pub numeral_answer-requires : goal.numeral_answer-requires
numeral_answer-requires c = c.requires.number_facts.lines
