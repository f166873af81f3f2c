-- `readings::single` meets its contract: what the last w bytes of the position say.
use mathlib.Core.Path.{◌≡◌, ap, ◌∙◌}
use Prim.Native.Nat.{◌-◌}
use native.Mathlib.Omega.{arith}
use lib.ListN.{length-take}
use Rattle.places.specs.rule.Places.{pick, run}
use Rattle.fields.specs.rule.Number.{code_of}
use Rattle.numbers.specs.Numeral.{said_of}
use Rattle.readings.proofs.Laws.{as_single_says, last_bytes}
use Rattle.readings.proofs.single.Goals as goal
use Rattle.readings.proofs.single.Goals.{After-code}

-- what the value places say
said : (c : After-code) → said_of c.code.result
    ≡ code_of (pick c.args.bytes.now
    (run (c.args.row.finish - c.args.row.width)
    c.args.row.width))
said c = c.code.ensures ∙ ap code_of (last_bytes c.args.bytes.now _ _
    c.requires.reach c.requires.inside)

pub code-requires : goal.code-requires
code-requires c = let f = c.requires.few in let g = c.requires.reach in
    simp length-take (omega arith)

pub returns : goal.returns
returns c p n = c.numeral_answer.ensures p n ∙ as_single_says _ _ _ p n (said (goal.at.returns c).After-code)

pub overflow_sub-a : goal.overflow_sub-a
overflow_sub-a c = let f = c.requires.reach in omega arith

pub slice_bounds-code-end : goal.slice_bounds-code-end
slice_bounds-code-end c = c.requires.inside

pub numeral_answer-requires : goal.numeral_answer-requires
numeral_answer-requires c = c.requires.lines
