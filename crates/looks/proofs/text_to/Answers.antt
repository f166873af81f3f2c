use native.Mathlib.Omega.{arith}
use Rattle.looks.specs.Each.{each_then}
use Rattle.looks.proofs.text_to.Goals as goal

pub returns-then-d-lt8 : goal.returns-then-d-lt8
returns-then-d-lt8 c = each_then c.text_far-i.ensures c.text_last.ensures

pub returns-then-d-i : goal.returns-then-d-i
returns-then-d-i c = each_then c.text_far-i.ensures c.text_last-then-d-i.ensures

pub returns : goal.returns
returns c = each_then c.text_far-i.ensures c.text_near.ensures

pub text_near-requires : goal.text_near-requires
text_near-requires c = omega (arith, c.if-d-i.false, c.if-d-lt8.false)
