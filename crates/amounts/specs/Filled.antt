-- THE CODE'S BOOKS: 1.1's struct, filled from what the rule says of a value.
use Rattle.std.specs.Prelude.{ℕ}
use Rattle.scan.specs.Number.{capped}
use Rattle.survey.specs.rule.Survey.{Amount}
use Rattle.tokens.specs.declared.Value.{Value}

-- the size is held at 10 ^ 15, which every limit lies below; its stretch is all of it
abbrev pub filled : ℕ → ℕ → Amount → Value
filled place next a = record {
  minus = a.minus;
  size = capped a.size;
  whole = a.whole;
  decimals = a.decimals;
  point = a.point;
  formed = a.formed;
  place = place;
  first = place;
  last = next;
  next = next;
}
