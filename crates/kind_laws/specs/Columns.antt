-- The first fourteen columns of a row, and the values of its lines, are of what a variable says: not of texts, places, SPECIAL, use and
-- filter.
use Rattle.std.specs.Prelude.{◌≡◌, Bool, ℕ, zero, suc, ◌+◌, ◌*◌, max, ℤ, pos, length}
use Rattle.std.proofs.Math.Path.{refl, ap}
use Rattle.std.proofs.Common.{sym, ◌∙◌}
use mathlib.Core.List.{List, [], ◌∷◌, ◌++◌, map}
use Rattle.std.proofs.Math.Option.{Option, none, some, get_or}
use Rattle.layout.specs.rule.Row.{spread_of}
use Rattle.layout.specs.declared.Columns.{Columns}
use Rattle.layout.specs.declared.Kind.{Kind}
use Rattle.widths.specs.rule.Width.{need}
use Rattle.survey.specs.rule.Survey.{Figure, Amount, Range, Line, Block, Spread, Content, single, multiple, quantity, character, logical}
use Rattle.survey.specs.rule.Survey.{Variable}
use Rattle.survey.specs.rule.Width.{some_of, each_of, range_ends, amounts, scaled, decimals_in, bare, point_in, block_in, finish_in}
use Rattle.survey.specs.rule.Width.{room_in}
use Rattle.survey.specs.rule.Width.{parts_of, subwidth_of}
use Rattle.survey.specs.rule.Width.{kind_in, widest_amount, width_in}
use Rattle.survey.specs.rule.Table.{type_of, spread_in, ranged, from_of, to_of, variable_columns, lines_of}
use Rattle.kind_laws.specs.rule.Meet.{amount_said, range_said, line_said, block_said, spread_said, content_said, said_alike}

-- ---- the numbers of a block
some_said : (f : Amount → Bool) → ((a : Amount) → f (amount_said a) ≡ f a) → (l : List Amount) → some_of f (map amount_said l) ≡ some_of f l
unfolding some_of
some_said f h [] = refl
some_said f h (a ∷ l) = rw (h a, some_said f h l)

each_said : (f : Amount → Bool) → ((a : Amount) → f (amount_said a) ≡ f a) → (l : List Amount) → each_of f (map amount_said l) ≡ each_of f l
unfolding each_of
each_said f h [] = refl
each_said f h (a ∷ l) = rw (h a, each_said f h l)

decimals_said : (l : List Amount) → decimals_in (map amount_said l) ≡ decimals_in l
decimals_said [] = refl
decimals_said (a ∷ l) = refl

point_said : (l : List Amount) → point_in (map amount_said l) ≡ point_in l
point_said l =
    let e = some_said (λ a. a.point) (λ a. refl) l in
    let f = each_said bare (λ a. refl) l in
    rw (e, f)

widest_said : (k : Kind) (l : List Amount) → widest_amount k (map amount_said l) ≡ widest_amount k l
unfolding widest_amount
widest_said k [] = refl
widest_said k (a ∷ l) = ap (λ (n : ℕ). max (need k (scaled a)) n) (widest_said k l)

values_said : (l : List Line) → map (λ x. x.value) (map line_said l) ≡ map amount_said (map (λ x. x.value) l)
values_said [] = refl
values_said (x ∷ l) = ap (λ (r : List Amount). amount_said x.value ∷ r) (values_said l)

amounts_said : (r : Option Range) (l : List Line) → amounts (record { range = range_said r; lines = map line_said l })
    ≡ map amount_said (amounts (record { range = r; lines = l }))
unfolding amounts
amounts_said none l = values_said l
amounts_said (some r) l = ap (λ (m : List Amount). amount_said r.from ∷ amount_said r.to ∷ m) (values_said l)

count_said : (l : List Line) → length (map line_said l) ≡ length l
count_said [] = refl
count_said (x ∷ l) = rw (count_said l)

module _ (b : Block) where
  abbrev own : List Amount
  own = amounts b

  abbrev said : List Amount
  said = amounts (block_said b)

  said_is : said ≡ map amount_said own
  said_is = amounts_said b.range b.lines

  block_decimals : decimals_in said ≡ decimals_in own
  block_decimals = ap decimals_in said_is ∙ decimals_said own

  block_point : point_in said ≡ point_in own
  block_point = ap point_in said_is ∙ point_said own

  block_widest : (k : Kind) → widest_amount k said ≡ widest_amount k own
  block_widest k = ap (widest_amount k) said_is ∙ widest_said k own

range_ranged : (r : Option Range) → ranged (range_said r) ≡ ranged r
range_ranged none = refl
range_ranged (some r) = refl

range_from : (r : Option Range) → from_of (range_said r) ≡ from_of r
range_from none = refl
range_from (some r) = refl

range_to : (r : Option Range) → to_of (range_said r) ≡ to_of r
range_to none = refl
range_to (some r) = refl

parts_said : (s : Option Spread) → parts_of (spread_said s) ≡ parts_of s
parts_said none = refl
parts_said (some s) = refl

subwidth_said : (room : ℕ) (s : Option Spread) → subwidth_of room (spread_said s) ≡ subwidth_of room s
subwidth_said room none = refl
subwidth_said room (some s) = by s.width where
  by : (w : Option Figure) → subwidth_of room (spread_said (some (record { count = s.count; width = w })))
      ≡ subwidth_of room (some (record { count = s.count; width = w }))
  by none = refl
  by (some x) = refl

-- ---- the row
abbrev pub firsts : Columns → List ℤ
firsts c =
    pos c.ident ∷ pos c.kind ∷ pos c.start ∷ pos c.finish ∷ pos c.width
    ∷ pos c.decimals ∷ pos c.point ∷ pos c.subfields ∷ pos c.subwidth
    ∷ pos c.range ∷ c.from ∷ c.to ∷ pos c.before ∷ pos c.lines ∷ []

abbrev pub lasts : Columns → List ℤ
lasts c = pos c.name ∷ pos c.name_len ∷ pos c.label ∷ pos c.label_len ∷ pos c.usage ∷ pos c.filter ∷ []

-- what a row has of its content
record Shape (room : ℕ) (c e : Content) : Type 0 where
  pub kind : type_of c ≡ type_of e
  pub width : width_in room c ≡ width_in room e
  pub decimals : decimals_in (amounts (block_in c)) ≡ decimals_in (amounts (block_in e))
  pub point : point_in (amounts (block_in c)) ≡ point_in (amounts (block_in e))
  pub subfields : parts_of (spread_in c) ≡ parts_of (spread_in e)
  pub subwidth : subwidth_of room (spread_in c) ≡ subwidth_of room (spread_in e)
  pub range : ranged (block_in c).range ≡ ranged (block_in e).range
  pub from : from_of (block_in c).range ≡ from_of (block_in e).range
  pub to : to_of (block_in c).range ≡ to_of (block_in e).range
  pub lines : length (block_in c).lines ≡ length (block_in e).lines

shape_said : (room : ℕ) (c : Content) → Shape room (content_said c) c
unfolding kind_in width_in
shape_said room (single b) = record {
  kind = refl;
  width = block_widest b _;
  decimals = block_decimals b;
  point = block_point b;
  subfields = refl;
  subwidth = refl;
  range = range_ranged b.range;
  from = range_from b.range;
  to = range_to b.range;
  lines = count_said b.lines;
}
shape_said room (multiple s b) = record {
  kind = refl;
  width = rw (parts_said s, subwidth_said room s) (block_widest b _);
  decimals = block_decimals b;
  point = block_point b;
  subfields = parts_said s;
  subwidth = subwidth_said room s;
  range = range_ranged b.range;
  from = range_from b.range;
  to = range_to b.range;
  lines = count_said b.lines;
}
shape_said room (quantity b) = record {
  kind = refl;
  width = rw (block_decimals b, block_point b) (block_widest b _);
  decimals = block_decimals b;
  point = block_point b;
  subfields = refl;
  subwidth = refl;
  range = range_ranged b.range;
  from = range_from b.range;
  to = range_to b.range;
  lines = count_said b.lines;
}
shape_said room (character n) = record {
  kind = refl;
  width = refl;
  decimals = refl;
  point = refl;
  subfields = refl;
  subwidth = refl;
  range = refl;
  from = refl;
  to = refl;
  lines = refl;
}
shape_said room logical = record {
  kind = refl;
  width = refl;
  decimals = refl;
  point = refl;
  subfields = refl;
  subwidth = refl;
  range = refl;
  from = refl;
  to = refl;
  lines = refl;
}

firsts_said : (before : ℕ) (v : Variable) → firsts (variable_columns before (said_alike v)) ≡ firsts (variable_columns before v)
unfolding variable_columns said_alike
firsts_said before v =
    let s = shape_said (room_in v) v.content in
    rw (s.kind, s.width, s.decimals, s.point, s.subfields, s.subwidth) (rw (s.range, s.from, s.to, s.lines))

-- SO ROWS OF VARIABLES THAT SAY THE SAME are the same in these
module _ (v u : Variable) (same : said_alike v ≡ said_alike u) where
  pub firsts_same : (before : ℕ) → firsts (variable_columns before v) ≡ firsts (variable_columns before u)
  firsts_same before =
      sym (firsts_said before v) ∙ ap (λ (w : Variable). firsts (variable_columns before w)) same ∙ firsts_said before u

  pub finish_same : finish_in v ≡ finish_in u
  unfolding said_alike
  finish_same = ap (λ (w : Variable). finish_in w) same

  lines_said : (w : Variable) → lines_of (said_alike w) ≡ map line_said (lines_of w)
  unfolding said_alike
  lines_said w = by w.content where
    by : (c : Content) → (block_in (content_said c)).lines ≡ map line_said (block_in c).lines
    by (single b) = refl
    by (multiple s b) = refl
    by (quantity b) = refl
    by (character n) = refl
    by logical = refl

  pub lines_same : map line_said (lines_of v) ≡ map line_said (lines_of u)
  lines_same = sym (lines_said v) ∙ ap (λ (w : Variable). lines_of w) same ∙ lines_said u

  pub count_same : length (lines_of v) ≡ length (lines_of u)
  count_same = sym (count_said (lines_of v)) ∙ ap length lines_same ∙ count_said (lines_of u)
