-- THE SAME SURVEY, THE SAME ROW but for its text places and lengths: columns are of what numbers say, and an OF that is stated says what
-- was reckoned without it.
use Rattle.std.specs.Prelude.{◌≡◌, Bool, List, [], ◌∷◌, ◌++◌, map, ℕ, max, length}
use Rattle.std.proofs.Math.Path.{refl, sym, ap}
use Rattle.std.proofs.Common.{◌∙◌}
use Rattle.std.proofs.Math.Option.{Option}
use Rattle.layout.specs.rule.Row.{kind_of, row_of, spread_of}
use Rattle.layout.specs.declared.Columns.{Columns}
use Rattle.layout.specs.declared.Kind.{Kind}
use Rattle.layout.specs.declared.Kind.TheVariants.{Single, Multiple, Quantity}
use Rattle.widths.specs.rule.Width.{need}
use Rattle.survey.specs.rule.Survey.{Amount, Range, Line, Block, Spread, Content, Variable}
use Rattle.survey.specs.rule.Width.{some_of, each_of, range_ends, amounts, scaled, decimals_in, bare, point_in, block_in, room_in, parts_of}
use Rattle.survey.specs.rule.Width.{subwidth_of, kind_in, widest_amount, width_in}
use Rattle.survey.specs.rule.Table.{type_of, spread_in, ranged, from_of, to_of, variable_columns, holds}
use Rattle.printed.specs.Runs.{bare_amount}
use Rattle.clean_laws.specs.Same.{Alike, nil, more, Both, neither, either, SameAmount, SameLine, SameRange, SameBlock, SameSpread}
use Rattle.clean_laws.specs.Same.{SameContent, SameVariable}
use Rattle.clean_laws.specs.Same as same
use Rattle.clean_laws.specs.Again.{room_again}

-- ---- numbers of a block look at what a value says, not at its place
pub some_bare : (f : Amount → Bool) → ((a : Amount) → f (bare_amount a) ≡ f a) → (l : List Amount) → some_of f (map bare_amount l)
    ≡ some_of f l
unfolding some_of
some_bare f h [] = refl
some_bare f h (a ∷ l) = rw (h a, some_bare f h l)

each_bare : (f : Amount → Bool) → ((a : Amount) → f (bare_amount a) ≡ f a) → (l : List Amount) → each_of f (map bare_amount l) ≡ each_of f l
unfolding each_of
each_bare f h [] = refl
each_bare f h (a ∷ l) = rw (h a, each_bare f h l)

decimals_bare : (l : List Amount) → decimals_in (map bare_amount l) ≡ decimals_in l
unfolding bare_amount
decimals_bare [] = refl
decimals_bare (a ∷ l) = refl

point_bare : (l : List Amount) → point_in (map bare_amount l) ≡ point_in l
unfolding bare_amount
point_bare l =
    let e = some_bare (λ a. a.point) (λ a. refl) l in
    let f = each_bare bare (λ a. refl) l in
    rw (e, f)

widest_bare : (k : Kind) (l : List Amount) → widest_amount k (map bare_amount l) ≡ widest_amount k l
unfolding widest_amount bare_amount
widest_bare k [] = refl
widest_bare k (a ∷ l) = ap (λ (n : ℕ). max (need k (scaled a)) n) (widest_bare k l)

-- what is told of bare amounts alike is told of equal ones alike
pub told : {A : Type 0} (F : List Amount → A) → ((l : List Amount) → F (map bare_amount l) ≡ F l) → (l l' : List Amount)
    → map bare_amount l' ≡ map bare_amount l → F l' ≡ F l
told F h l l' e = sym (h l') ∙ ap F e ∙ h l

module _ (d p : List ℕ) where
  pub scaled_same : {a a' : Amount} → SameAmount d p a a' → scaled a' ≡ scaled a
  unfolding bare_amount
  scaled_same s = ap (λ (x : Amount). scaled x) s.says

  -- ---- a block
  ends_same : {r r' : Option Range} → Both (SameRange d p) r r' → map bare_amount (range_ends r') ≡ map bare_amount (range_ends r)
  ends_same neither = refl
  ends_same (either s) = rw (s.from.says, s.to.says)

  pub values_same : {l l' : List Line} → Alike (SameLine d p) l l'
      → map bare_amount (map (λ x. x.value) l') ≡ map bare_amount (map (λ x. x.value) l)
  values_same nil = refl
  values_same (more s r) = rw (s.value.says, values_same r)

  map_append : (l m : List Amount) → map bare_amount (l ++ m) ≡ map bare_amount l ++ map bare_amount m
  map_append [] m = refl
  map_append (a ∷ l) m = ap (λ (x : List Amount). bare_amount a ∷ x) (map_append l m)

  pub amounts_same : {b b' : Block} → SameBlock d p b b' → map bare_amount (amounts b') ≡ map bare_amount (amounts b)
  unfolding amounts
  amounts_same {b} {b'} s =
      map_append (range_ends b'.range) (map (λ x. x.value) b'.lines)
      ∙ rw (ends_same s.range, values_same s.lines) (sym (map_append (range_ends b.range) (map (λ x. x.value) b.lines)))

  pub length_same : {A : Type 0} {R : A → A → Type 0} {l l' : List A} → Alike R l l' → length l' ≡ length l
  length_same nil = refl
  length_same (more s r) = rw (length_same r)

  -- ---- by type
  parts_same : {room : ℕ} {s s' : Option Spread} → SameSpread d p room s s' → parts_of s' ≡ parts_of s
  parts_same same.undivided = refl
  parts_same (same.stated r q) = r.value
  parts_same (same.even r e f) = r.value

  width_same : {room : ℕ} {s s' : Option Spread} → SameSpread d p room s s' → subwidth_of room s' ≡ subwidth_of room s
  width_same same.undivided = refl
  width_same (same.stated r q) = q.value
  width_same (same.even r e f) = f

  -- what a row has of its content
  pub record SameShape (room : ℕ) (c c' : Content) : Type 0 where
    pub kind : type_of c' ≡ type_of c
    pub form : kind_in room c' ≡ kind_in room c
    pub width : width_in room c' ≡ width_in room c
    pub decimals : decimals_in (amounts (block_in c')) ≡ decimals_in (amounts (block_in c))
    pub point : point_in (amounts (block_in c')) ≡ point_in (amounts (block_in c))
    pub subfields : parts_of (spread_in c') ≡ parts_of (spread_in c)
    pub subwidth : subwidth_of room (spread_in c') ≡ subwidth_of room (spread_in c)
    pub range : Both (SameRange d p) (block_in c).range (block_in c').range
    pub lines : Alike (SameLine d p) (block_in c).lines (block_in c').lines

  module _ {b b' : Block} (s : SameBlock d p b b') where
    decimals_same : decimals_in (amounts b') ≡ decimals_in (amounts b)
    decimals_same = told decimals_in decimals_bare (amounts b) (amounts b') (amounts_same s)

    point_same : point_in (amounts b') ≡ point_in (amounts b)
    point_same = told point_in point_bare (amounts b) (amounts b') (amounts_same s)

    widest_same : (k : Kind) → widest_amount k (amounts b') ≡ widest_amount k (amounts b)
    widest_same k = told (widest_amount k) (widest_bare k) (amounts b) (amounts b') (amounts_same s)

  pub shape_same : {room : ℕ} {c c' : Content} → SameContent d p room c c' → SameShape room c c'
  unfolding kind_in width_in
  shape_same (same.of_single b) = record {
    kind = refl;
    form = refl;
    width = widest_same b Single;
    decimals = decimals_same b;
    point = point_same b;
    subfields = refl;
    subwidth = refl;
    range = b.range;
    lines = b.lines;
  }
  shape_same {room} (same.of_multiple {s = s} {s' = s'} r b) =
      let e : Multiple (spread_of (parts_of s') (subwidth_of room s')) ≡ Multiple (spread_of (parts_of s) (subwidth_of room s)) =
      rw (parts_same r, width_same r) in
      record {
        kind = refl;
        form = e;
        width = rw e (widest_same b _);
        decimals = decimals_same b;
        point = point_same b;
        subfields = parts_same r;
        subwidth = width_same r;
        range = b.range;
        lines = b.lines;
      }
  shape_same (same.of_quantity {b = a} {b' = a'} b) =
      let e : Quantity (record { decimals = decimals_in (amounts a'); point = point_in (amounts a') })
      ≡ Quantity (record { decimals = decimals_in (amounts a); point = point_in (amounts a) }) =
      rw (decimals_same b, point_same b) in
      record {
        kind = refl;
        form = e;
        width = rw e (widest_same b _);
        decimals = decimals_same b;
        point = point_same b;
        subfields = refl;
        subwidth = refl;
        range = b.range;
        lines = b.lines;
      }
  shape_same (same.of_character x) = record {
    kind = refl;
    form = refl;
    width = x.value;
    decimals = refl;
    point = refl;
    subfields = refl;
    subwidth = refl;
    range = neither;
    lines = nil;
  }
  shape_same same.of_logical = record {
    kind = refl;
    form = refl;
    width = refl;
    decimals = refl;
    point = refl;
    subfields = refl;
    subwidth = refl;
    range = neither;
    lines = nil;
  }

-- ---- a row without its text places and lengths
unfoldable pub untexted : Columns → Columns
untexted c = record {
  ident = c.ident;
  kind = c.kind;
  start = c.start;
  finish = c.finish;
  width = c.width;
  decimals = c.decimals;
  point = c.point;
  subfields = c.subfields;
  subwidth = c.subwidth;
  range = c.range;
  from = c.from;
  to = c.to;
  before = c.before;
  lines = c.lines;
  name = 0;
  name_len = 0;
  label = 0;
  label_len = 0;
  usage = c.usage;
  filter = c.filter;
}

module _ (d p : List ℕ) where
  ranged_same : {r r' : Option Range} → Both (SameRange d p) r r' → ranged r' ≡ ranged r
  ranged_same neither = refl
  ranged_same (either s) = refl

  from_same : {r r' : Option Range} → Both (SameRange d p) r r' → from_of r' ≡ from_of r
  from_same neither = refl
  from_same (either s) = scaled_same d p s.from

  to_same : {r r' : Option Range} → Both (SameRange d p) r r' → to_of r' ≡ to_of r
  to_same neither = refl
  to_same (either s) = scaled_same d p s.to

  module _ {v v' : Variable} (s : SameVariable d p v v') where
    pub shape : SameShape d p (room_in v) v.content v'.content
    shape = shape_same d p s.content

    pub columns_same : (before : ℕ) → untexted (variable_columns before v') ≡ untexted (variable_columns before v)
    unfolding untexted variable_columns
    columns_same before =
        rw (room_again d p s, s.ident.value, s.finish.value, s.start.value, shape.kind, shape.width)
        (rw (shape.decimals, shape.point, shape.subfields, shape.subwidth)
        (rw (ranged_same shape.range, from_same shape.range, to_same shape.range, length_same d p shape.lines)))

    row_untexted : (c : Columns) → row_of (untexted c) ≡ row_of c
    unfolding row_of kind_of untexted
    row_untexted c = refl

    pub holds_same : holds v' ≡ holds v
    unfolding holds
    holds_same =
        let e : row_of (variable_columns 0 v') ≡ row_of (variable_columns 0 v) =
        sym (row_untexted (variable_columns 0 v')) ∙ ap row_of (columns_same 0) ∙ row_untexted (variable_columns 0 v) in
        rw (e, room_again d p s, shape.form)
