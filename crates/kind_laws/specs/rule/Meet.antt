-- TWO DEFINITIONS SAY THE SAME where their variables do, one by one: the same numbers, wherever in the file they stand; names, labels and
-- texts aside,
-- and SPECIAL, which "is always 0" in XML. A position's finish that is not given is its start.
use Rattle.std.specs.Prelude.{◌≡◌, false, List, [], ◌∷◌, map, ℕ}
use Rattle.std.proofs.Math.Option.{Option, none, some, get_or}
use Rattle.survey.specs.rule.Survey.{Figure, Amount, KeptText, Range, Line, Block, Spread, Content, single, multiple, quantity, character}
use Rattle.survey.specs.rule.Survey.{logical, Variable}
use Rattle.xml_reading.specs.rule.Role.{XmlEntry}

abbrev pub figure_said : Figure → Figure
figure_said x = record { place = 0; end = 0; digits = 0; value = x.value }

abbrev pub amount_said : Amount → Amount
amount_said a = record {
  place = 0;
  end = 0;
  minus = a.minus;
  whole = a.whole;
  point = a.point;
  decimals = a.decimals;
  size = a.size;
  formed = a.formed;
}

abbrev pub nowhere : KeptText
nowhere = record { place = 0; length = 0 }

abbrev pub range_said : Option Range → Option Range
range_said none = none
range_said (some r) = some (record { from = amount_said r.from; to = amount_said r.to })

abbrev pub line_said : Line → Line
line_said l = record { value = amount_said l.value; text = nowhere; special = false }

abbrev pub block_said : Block → Block
block_said b = record { range = range_said b.range; lines = map line_said b.lines }

abbrev pub width_said : Option Figure → Option Figure
width_said none = none
width_said (some w) = some (figure_said w)

abbrev pub spread_said : Option Spread → Option Spread
spread_said none = none
spread_said (some s) = some (record { count = figure_said s.count; width = width_said s.width })

abbrev pub content_said : Content → Content
content_said (single b) = single (block_said b)
content_said (multiple s b) = multiple (spread_said s) (block_said b)
content_said (quantity b) = quantity (block_said b)
content_said (character n) = character (figure_said n)
content_said logical = logical

-- what a variable says, apart from texts and places
unfoldable pub said_alike : Variable → Variable
said_alike v = record {
  ident = figure_said v.ident;
  name = nowhere;
  label = nowhere;
  start = figure_said v.start;
  finish = some (figure_said (get_or v.finish v.start));
  content = content_said v.content;
}

-- the entries of a definition in XML and the variables of a 1.1 definition
pub data Meet : List XmlEntry → List Variable → Type 0 where
  nil : Meet [] []
  more : {v : XmlEntry} {u : Variable} {l : List XmlEntry} {m : List Variable} → said_alike v.variable ≡ said_alike u → Meet l m
      → Meet (v ∷ l) (u ∷ m)
