-- The row of a variable: the columns that the code's books make are those of the table.
use Rattle.std.specs.Prelude.{◌≡◌, Bool, cond, eqb, length}
use Rattle.std.proofs.Math.Path.{refl}
use Rattle.std.proofs.Common.{◌∙◌, ap}
use Rattle.std.proofs.Math.Bool.{true, false}
use mathlib.Core.List.{List, [], ◌∷◌, ◌++◌, map}
use Rattle.std.proofs.Math.Option.{Option, none, some, get_or}
use Prim.Native.Nat.{ℕ, zero, suc, ◌+◌, ◌-◌, max}
use native.Mathlib.Omega.{arith}
use Rattle.below.specs.rule.Below.{max_below}
use Rattle.layout.specs.rule.Row.{spread_of, kind_of, row_of}
use Rattle.layout.specs.declared.Kind.{Kind}
use Rattle.layout.specs.declared.Kind.TheVariants as kind
use Rattle.scan.specs.Number.{capped}
use Rattle.widths.specs.rule.Width.{need}
use Rattle.sound.specs.rule.Sound.{range_width}
use Rattle.values.specs.declared.Block as books
use Rattle.values.specs.declared.Said.{Said}
use Rattle.values.specs.Value.{scaled_of}
use Rattle.values.specs.Line.{numbers, number_at}
use Rattle.variables.specs.declared.Head.{Head}
use Rattle.variables.specs.Rest.{Telling}
use Rattle.measures.specs.Width.{flag_of, plain_columns, lines_width, widest_of, width_of, widened, full_columns}
use Rattle.measures.specs.Survey.{counted_in, columns_in}
use Rattle.entries.specs.Entry.{variable}
use Rattle.survey.specs.rule.Survey.{Figure, KeptText, Range, Line, Block, Spread, Content, single, multiple, quantity, character, logical}
use Rattle.survey.specs.rule.Width.{flag, some_of, range_ends, amounts, decimals_in, point_in, parts_of}
use Rattle.survey.specs.rule.Width.{part_width, subwidth_of, kind_in, widest_amount, width_in}
use Rattle.survey.specs.rule.Table.{ranged, from_of, to_of, variable_columns}
use Rattle.reading.specs.rule.Statement.{Position}
use Rattle.reading.specs.rule.Variable.{room, variable_of}
use Rattle.bridge.specs.Statements.{even_or}
use Rattle.bridge.specs.Blocks.{quoted_as, said_as, SameLines, nothing, more, same, lines_count, Kept}
use Rattle.bridge.specs.Contents.{Parts, bits, fields, Tells, as_single, as_multiple, as_quantity, as_character, as_logical}

max_first : (n : ℕ) (f : ℕ → ℕ) → max_below (suc n) f ≡ max (f 0) (max_below n (λ i. f (suc i)))
unfolding max_below
max_first zero f = omega arith
max_first (suc n) f = rw (max_first n f) (omega arith)

-- ---- the widest number of a block
module _ (d : List ℕ) (k : Kind) where
  lines_widest : {l : List Said} {m : List Line} → SameLines d l m
      → max_below (length l) (λ i. need k (number_at l i)) ≡ widest_amount k (map (λ x. x.value) m)
  unfolding number_at numbers widest_amount max_below scaled_of
  lines_widest nothing = refl
  lines_widest (more {l = l} (same {a = a} {t = t} {s = s} {x = x} {y = y} {m = i} {k = j} {n = n} e c) r) =
      max_first (length l) (λ o. need k (number_at (said_as a x y i t j s n ∷ l) o)) ∙ rw c (rw (lines_widest r))

  block_widest : (b : books.Block) (l : List Said) (c : Block) → Kept b c → SameLines d l c.lines
      → max (cond (eqb (flag_of b.ranged) 1) (max (need k b.from) (need k b.to)) 0)
      (max_below (length l) (λ i. need k (number_at l i))) ≡ widest_amount k (amounts c)
  unfolding amounts widest_amount flag_of
  block_widest b l c kept h = rw (lines_widest h) (by c.range b.ranged kept.ranged kept.from kept.to) where
    by : (o : Option Range) (q : Bool) → flag q ≡ ranged o → b.from ≡ from_of o → b.to ≡ to_of o
        → max (cond (eqb (flag_of q) 1) (max (need k b.from) (need k b.to)) 0) (widest_amount k (map (λ x. x.value) c.lines))
        ≡ widest_amount k (range_ends o ++ map (λ x. x.value) c.lines)
    by none false i u v = omega arith
    by none true i u v = absurd (omega arith)
    by (some r) true i u v = rw (u, v) (omega arith)
    by (some r) false i u v = absurd (omega arith)

-- a head as the books have it
abbrev pub head_as : Figure → KeptText → ℕ → KeptText → ℕ → ℕ → Position → ℕ → Head
head_as n name i label j k p m = record {
  ident = n.value;
  name = quoted_as name i;
  label = quoted_as label j;
  kind = k;
  start = p.start.value;
  finish = (get_or p.finish p.start).value;
  place = p.start.place;
  next = m;
}

-- whether the numbers of a spread are as the books have them
pub data Exact (room : ℕ) : Content → Type 0 where
  exact_single : {b : Block} → Exact room (single b)
  exact_bits : {b : Block} → Exact room (multiple none b)
  exact_fields : {s : Spread} {b : Block} → capped s.count.value ≡ s.count.value
      → even_or room s.count.value s.width ≡ part_width room s.count s.width → Exact room (multiple (some s) b)
  exact_quantity : {b : Block} → Exact room (quantity b)
  exact_character : {n : Figure} → Exact room (character n)
  exact_logical : Exact room logical

module _ (d : List ℕ) (n : Figure) (name : KeptText) (i : ℕ) (label : KeptText) (j : ℕ) (p : Position) (m before : ℕ) where
  lines_left : (l : List Said) → before + length l - before ≡ length l
  lines_left l = omega arith

  flags : (q : Bool) → flag_of q ≡ flag q
  unfolding flag_of
  flags true = refl
  flags false = refl

  parts_same : {c w : ℕ} {s : Option Spread} {b : Block} → Parts (room p) c w s → Exact (room p) (multiple s b)
      → (c ≡ parts_of s) × (w ≡ subwidth_of (room p) s)
  parts_same bits exact_bits = (refl, refl)
  parts_same (fields {s = s} u v y z) (exact_fields e g) = let q = u ∙ e in (q, v ∙ ap (λ o. even_or (room p) o s.width) q ∙ g)

  pub columns_same : {k : ℕ} {x : Telling} {c : Content} → Tells d (room p) k x c → Exact (room p) c
      → columns_in before (variable (head_as n name i label j k p m) x) ≡ variable_columns before (variable_of n name label p c)
  unfolding columns_in full_columns widened plain_columns counted_in variable_columns width_of width_in kind_in kind_of row_of widest_of
      lines_width
      range_width amounts some_of
  columns_same {x = x} (as_single {b = b} kept h u v) e =
      rw (lines_left x.lines)
      (rw (block_widest d kind.Single x.block x.lines b kept h) (rw (u, v, kept.decimals, kept.point, flags x.block.ranged)
      (rw (kept.ranged, kept.from, kept.to, lines_count h))))
  columns_same {x = x} (as_multiple {s = s} {b = b} kept h t) e =
      let q = parts_same t e in
      rw (lines_left x.lines, q.0, q.1)
      (rw (block_widest d (kind.Multiple (spread_of (parts_of s) (subwidth_of (room p) s))) x.block x.lines b kept h)
      (rw (kept.decimals, kept.point, flags x.block.ranged)
      (rw (kept.ranged, kept.from, kept.to, lines_count h))))
  columns_same {x = x} (as_quantity {b = b} kept h u v) e =
      rw (lines_left x.lines, kept.decimals, kept.point)
      (rw (block_widest d (kind.Quantity (record { decimals = decimals_in (amounts b); point = point_in (amounts b) })) x.block
      x.lines b kept h) (rw (u, v, flags x.block.ranged)
      (rw (kept.ranged, kept.from, kept.to, lines_count h))))
  columns_same (as_character g) e = rw (lines_left [], g, flags false)
  columns_same as_logical e = rw (lines_left [], flags false)
