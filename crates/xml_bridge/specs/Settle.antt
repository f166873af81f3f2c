-- A VARIABLE IS MEASURED AS THE RULE HAS IT: what the code's settling answers for the structs that a variable's numbers fill is what `held`
-- says of the variable, also where a spread has numbers beyond their cap.
use Rattle.std.specs.Prelude.{◌≡◌, Bool, cond, List, [], ◌∷◌, ℕ, ◌+◌, ◌-◌, ◌*◌, ◌≤◌, ℤ, length, Ok}
use Rattle.std.proofs.Math.Path.{refl}
use Rattle.std.proofs.Common.{◌∙◌, ap, arith}
use Rattle.std.proofs.Math.Bool.{true, false, not}
use Rattle.std.proofs.Math.Option.{Option, none, some, get_or}
use Rattle.below.specs.Below.{holds_not}
use Rattle.cells.specs.rule.Cell.{pasted}
use Rattle.layout.specs.rule.Row.{kind_of, row_of}
use Rattle.layout.specs.declared.Kind.{Kind}
use Rattle.layout.specs.declared.Kind.TheVariants as kind
use Rattle.layout.specs.declared.Spread.TheVariants.{Bits, Fields}
use Rattle.scan.specs.Number.{capped}
use Rattle.sound.specs.rule.Sound.{room_good}
use Rattle.tokens.specs.rule.Gap.{fault}
use Rattle.measures.specs.Width.{number_in, Measurable}
use Rattle.measures.specs.Survey.{counted_in, holds_in}
use Rattle.entries.specs.declared.Stood.{Stood}
use Rattle.entries.specs.declared.Stood.TheVariants as stood
use Rattle.entries.specs.Entry.{held_by, GoodHead, stood_of, settled_by}
use Rattle.entries.specs.Entry as entry
use Rattle.entries.specs.Good.{GoodTelling}
use Rattle.entries.proofs.Columns.{measurable}
use Rattle.entries.proofs.Entries.{settled_is}
use Rattle.survey.specs.rule.Survey.{Figure, KeptText, Block, Spread, Content, single, multiple, quantity, character, logical, Variable}
use Rattle.survey.specs.rule.Width.{parts_of, finish_in, room_in, subwidth_of, kind_in}
use Rattle.survey.specs.rule.Table.{type_of, spread_in, variable_columns, lines_of, cells_of, holds}
use Rattle.reading.specs.rule.Result.{Result, Is, Not}
use Rattle.reading.specs.rule.Least.{◌when◌, named, lower, least, judged}
use Rattle.reading.specs.rule.Statement.{Position}
use Rattle.reading.specs.rule.Variable.{room, held}
use Rattle.bridge.specs.Statements.{even_or}
use Rattle.bridge.specs.Contents.{Parts, bits, fields}
use Rattle.bridge.specs.Columns.{exact_fields}
use Rattle.bridge.specs.Rooms.{Fate, exact, narrow, spread_fate}
use Rattle.xml_bridge.specs.Book.{head_with, telling_with, book_with, saids_count, saids_cells, columns_with}

-- what the code gives back of a variable before whose lines `before` others stand
abbrev pub stood_from : ℕ → Result Variable → Stood
stood_from before (Is v n) = stood.Is (variable_columns before v) (before + length (lines_of v)) n
stood_from before (Not f) = stood.Not f

-- subfields and their width as the code has them, for a position of `room` bytes
pub data Told (room : ℕ) : ℕ → ℕ → Content → Type 0 where
  as_single : {b : Block} → Told room 0 0 (single b)
  as_multiple : {c w : ℕ} {s : Option Spread} {b : Block} → Parts room c w s → Told room c w (multiple s b)
  as_quantity : {b : Block} → Told room 0 0 (quantity b)
  as_character : {n : Figure} → Told room 0 0 (character n)
  as_logical : Told room 0 0 logical

module _ (i j before : ℕ) where
  -- ---- numbers within their caps
  kind_same : (n : Figure) (name label : KeptText) (p : Figure) (q : Option Figure) (t : Content)
      → kind_of (variable_columns before (record { ident = n; name = name; label = label; start = p; finish = q; content = t }))
      ≡ kind_in ((get_or q p).value + 1 - p.value) t
  unfolding kind_of variable_columns kind_in
  kind_same n name label p q (single b) = refl
  kind_same n name label p q (multiple s b) = refl
  kind_same n name label p q (quantity b) = refl
  kind_same n name label p q (character z) = refl
  kind_same n name label p q logical = refl

  room_before : (k : Kind) (v : Variable) → room_good k (row_of (variable_columns before v)) ≡ room_good k (row_of (variable_columns 0 v))
  unfolding room_good row_of variable_columns
  room_before kind.Single v = refl
  room_before (kind.Multiple Bits) v = refl
  room_before (kind.Multiple (Fields a b)) v = refl
  room_before (kind.Quantity f) v = refl
  room_before kind.Character v = refl
  room_before kind.Logical v = refl

  pub holds_with : (v : Variable)
      → holds_in before (book_with i j (parts_of (spread_in v.content)) (subwidth_of (room_in v) (spread_in v.content)) v) ≡ holds v
  unfolding holds_in holds
  holds_with v =
      rw (columns_with i j before v, kind_same v.ident v.name v.label v.start v.finish v.content)
      (room_before (kind_in (room_in v) v.content) v)

  exact_held : (v : Variable) (n : ℕ)
      → stood_of before (held_by before (book_with i j (parts_of (spread_in v.content)) (subwidth_of (room_in v) (spread_in v.content)) v)
      n)
      ≡ stood_from before (held v n)
  unfolding held_by judged named least lower stood_of
  exact_held v n = rw (holds_with v) (by (holds v)) where
    by : (h : Bool) → stood_of before
        (cond h (entry.Is (book_with i j (parts_of (spread_in v.content)) (subwidth_of (room_in v) (spread_in v.content)) v) n)
        (entry.Not (fault 7 v.start.place)))
        ≡ stood_from before (judged (fault 7 v.start.place when not h ∷ []) v n)
    by true = rw (columns_with i j before v, saids_count (lines_of v))
    by false = refl

  -- ---- too narrow by far, in both
  narrow_held : (c w : ℕ) (v : Variable) (n : ℕ) → holds_in before (book_with i j c w v) ≡ false → holds v ≡ false
      → stood_of before (held_by before (book_with i j c w v) n) ≡ stood_from before (held v n)
  unfolding held_by judged named least lower stood_of
  narrow_held c w v n a b = rw (a, b)

  module _ (ident : Figure) (name label : KeptText) (p : Figure) (q : Option Figure) (low : (get_or q p).value ≤ 16384) (n : ℕ) where
    abbrev here : Position
    here = record { start = p; finish = q }

    abbrev made : Content → Variable
    made t = record { ident = ident; name = name; label = label; start = p; finish = q; content = t }

    fields_held : (c w : ℕ) (s : Spread) (b : Block)
        → c ≡ capped s.count.value → w ≡ even_or (room here) c s.width → 1 ≤ c → 1 ≤ w
        → stood_of before (held_by before (book_with i j c w (made (multiple (some s) b))) n)
        ≡ stood_from before (held (made (multiple (some s) b)) n)
    fields_held c w s b u y e f =
        by (spread_fate [] ident name i label j here 0 before low (telling_with c w (multiple (some s) b)) s b (omega arith) u y e f)
      where
        by : Fate [] ident name i label j here 0 before low (telling_with c w (multiple (some s) b)) 2 (multiple (some s) b)
            → stood_of before (held_by before (book_with i j c w (made (multiple (some s) b))) n)
            ≡ stood_from before (held (made (multiple (some s) b)) n)
        by (exact (exact_fields k g)) =
            let o : c ≡ s.count.value = u ∙ k in
            let r : w ≡ subwidth_of (room here) (some s) = y ∙ ap (λ (a : ℕ). even_or (room here) a s.width) o ∙ g in
            rw (r, o) (exact_held (made (multiple (some s) b)) n)
        by (narrow a k) = narrow_held c w (made (multiple (some s) b)) n a k

    parts_held : {c w : ℕ} {s : Option Spread} (b : Block) → Parts (room here) c w s
        → stood_of before (held_by before (book_with i j c w (made (multiple s b))) n) ≡ stood_from before (held (made (multiple s b)) n)
    parts_held b bits = exact_held (made (multiple none b)) n
    parts_held b (fields {s = s} {c = c} {w = w} u y e f) = fields_held c w s b u y e f

    told_held : {c w : ℕ} {t : Content} → Told (room here) c w t
        → stood_of before (held_by before (book_with i j c w (made t)) n) ≡ stood_from before (held (made t) n)
    told_held (as_single {b = b}) = exact_held (made (single b)) n
    told_held (as_multiple {b = b} t) = parts_held b t
    told_held (as_quantity {b = b}) = exact_held (made (quantity b)) n
    told_held (as_character {n = z}) = exact_held (made (character z)) n
    told_held as_logical = exact_held (made logical) n

  pub held_same : (v : Variable) (n : ℕ) {c w : ℕ} → finish_in v ≤ 16384 → Told (room_in v) c w v.content
      → stood_of before (held_by before (book_with i j c w v) n) ≡ stood_from before (held v n)
  held_same v n low t = told_held v.ident v.name v.label v.start v.finish low n t

  -- where its position holds it, no number is beyond its cap
  pub told_exact : (v : Variable) {c w : ℕ} → finish_in v ≤ 16384 → Told (room_in v) c w v.content → holds v ≡ true
      → (c ≡ parts_of (spread_in v.content)) × (w ≡ subwidth_of (room_in v) (spread_in v.content))
  told_exact v low t h = exact_told v.ident v.name v.label v.start v.finish low t h where
    exact_told : (ident : Figure) (name label : KeptText) (p : Figure) (q : Option Figure) → (get_or q p).value ≤ 16384
        → {c w : ℕ} {t : Content} → Told (room (record { start = p; finish = q })) c w t
        → holds (record { ident = ident; name = name; label = label; start = p; finish = q; content = t }) ≡ true
        → (c ≡ parts_of (spread_in t)) × (w ≡ subwidth_of (room (record { start = p; finish = q })) (spread_in t))
    exact_told ident name label p q l as_single e = (refl, refl)
    exact_told ident name label p q l (as_multiple bits) e = (refl, refl)
    exact_told ident name label p q l (as_multiple {b = b} (fields {s = s} {c = c} {w = w} u y g k)) e =
        by (spread_fate [] ident name i label j here 0 before l (telling_with c w (multiple (some s) b)) s b (omega arith) u y g k)
      where
        here : Position
        here = record { start = p; finish = q }

        by : Fate [] ident name i label j (record { start = p; finish = q }) 0 before l (telling_with c w (multiple (some s) b)) 2
            (multiple (some s) b)
            → (c ≡ s.count.value) × (w ≡ subwidth_of (room (record { start = p; finish = q })) (some s))
        by (exact (exact_fields m n)) =
            let o : c ≡ s.count.value = u ∙ m in
            (o, y ∙ ap (λ (a : ℕ). even_or (room (record { start = p; finish = q })) a s.width) o ∙ n)
        by (narrow m n) = holds_not e n
    exact_told ident name label p q l as_quantity e = (refl, refl)
    exact_told ident name label p q l as_character e = (refl, refl)
    exact_told ident name label p q l as_logical e = (refl, refl)

-- ---- with its lines in the room
module _ (i j before c w : ℕ) (v : Variable) (told : Told (room_in v) c w v.content) (g : GoodHead (head_with i j v))
    (s : GoodTelling (type_of v.content) before (telling_with c w v.content)) (room : List ℤ) (long : length room ≡ 16384) where
  stands : 4 * (before + length (telling_with c w v.content).lines) ≤ length room
  stands = omega (arith, s.lines.few, long)

  pub measure_here : Measurable (pasted room (4 * before) (cells_of (lines_of v))) (head_with i j v)
      (counted_in before (telling_with c w v.content)) before
  measure_here = rw (← saids_cells (lines_of v)) (measurable (head_with i j v) (telling_with c w v.content) before g s room stands)

  pub settled_same : (n : ℕ)
      → settled_by (number_in (pasted room (4 * before) (cells_of (lines_of v))) before) (head_with i j v)
      (counted_in before (telling_with c w v.content)) before (Ok n)
      ≡ stood_from before (held v n)
  settled_same n =
      rw (← saids_cells (lines_of v)) (settled_is (head_with i j v) (telling_with c w v.content) before g s room stands (Ok n))
      ∙ held_same i j before v n g.low told
