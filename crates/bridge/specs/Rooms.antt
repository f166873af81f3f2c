-- Whether a position holds its width: the code's books answer the same, also where a spread has numbers beyond their cap.
use Rattle.std.specs.Prelude.{◌≡◌, ◌⊎◌, Bool, true, false, cond, ◌&&◌, List, ℕ, ◌+◌, ◌*◌, ◌/◌, ◌≤◌, ◌<◌, leb, ltb}
use Rattle.std.proofs.Math.Path.{refl}
use Rattle.std.proofs.Common.{◌∙◌, inl, inr, mul-le-mul, arith, ne_eqb, ltb-true}
use Rattle.std.proofs.Math.Option.{Option, none, some, get_or}
use Rattle.std.proofs.Math.Nat.{div-eq_of_lt}
use Rattle.std.proofs.lemmas.Bool.{lt-leb}
use Rattle.layout.specs.rule.Row.{spread_of, kind_of, row_of}
use Rattle.layout.specs.declared.Row.{Row}
use Rattle.layout.specs.declared.Kind.{Kind}
use Rattle.layout.specs.declared.Kind.TheVariants as kind
use Rattle.layout.specs.declared.Spread.TheVariants.{Bits, Fields}
use Rattle.scan.specs.Number.{capped}
use Rattle.sound.specs.rule.Sound.{room_good}
use Rattle.variables.specs.Rest.{Telling}
use Rattle.measures.specs.Width.{plain_columns, widened, full_columns}
use Rattle.measures.specs.Survey.{counted_in, columns_in, holds_in}
use Rattle.entries.specs.Entry.{variable}
use Rattle.survey.specs.rule.Survey.{Figure, KeptText, Block, Spread, Content, single, multiple, quantity, character, logical, Variable}
use Rattle.survey.specs.rule.Width.{part_width, kind_in}
use Rattle.survey.specs.rule.Table.{variable_columns, holds}
use Rattle.reading.specs.rule.Statement.{Position}
use Rattle.reading.specs.rule.Variable.{room, variable_of}
use Rattle.bridge.specs.Statements.{even_or}
use Rattle.bridge.specs.Contents.{Parts, fields, Tells, as_single, as_multiple, as_quantity, as_character, as_logical}
use Rattle.bridge.specs.Columns.{head_as, Exact, exact_single, exact_bits, exact_fields, exact_quantity, exact_character}
use Rattle.bridge.specs.Columns.{exact_logical, columns_same}

-- at or below the cap, or above it
big_or : (v : ℕ) → (capped v ≡ v) ⊎ ((capped v ≡ 1000000000000000) × (1000000000000000 ≤ v))
big_or v = by (ltb 1000000000000000 v) refl where
  by : (q : Bool) → ltb 1000000000000000 v ≡ q
      → (cond q 1000000000000000 v ≡ v) ⊎ ((cond q 1000000000000000 v ≡ 1000000000000000) × (1000000000000000 ≤ v))
  by true e = let h = ltb-true 1000000000000000 v e in inr (refl, omega arith)
  by false e = inl refl

large_product : (a b : ℕ) → 1000000000000000 ≤ a → 1 ≤ b → 1000000000000000 ≤ a * b
large_product a b h k = let g : 1000000000000000 * 1 ≤ a * b = mul-le-mul h k in omega arith

large_other : (a b : ℕ) → 1 ≤ a → 1000000000000000 ≤ b → 1000000000000000 ≤ a * b
large_other a b h k = let g : 1 * 1000000000000000 ≤ a * b = mul-le-mul h k in omega arith

none_held : (q r : Bool) → r ≡ false → (q && r) ≡ false
none_held true r e = e
none_held false r e = refl

narrow_room : (r : Row) (a b : ℕ) → r.finish ≤ 16384 → 1000000000000000 ≤ a * b → room_good (kind.Multiple (Fields a b)) r ≡ false
unfolding room_good
narrow_room r a b l h = none_held (leb r.width b) (leb (r.start + a * b) (r.finish + 1))
    (lt-leb (r.start + a * b) (r.finish + 1) (omega arith))

module _ (d : List ℕ) (n : Figure) (name : KeptText) (i : ℕ) (label : KeptText) (j : ℕ) (p : Position) (m before : ℕ)
    (low : (get_or p.finish p.start).value ≤ 16384) where
  abbrev made : Content → Variable
  made c = variable_of n name label p c

  kind_same : (c : Content) → kind_of (variable_columns before (made c)) ≡ kind_in (room p) c
  unfolding kind_of variable_columns kind_in
  kind_same (single b) = refl
  kind_same (multiple s b) = refl
  kind_same (quantity b) = refl
  kind_same (character z) = refl
  kind_same logical = refl

  room_before : (k : Kind) (c : Content) → room_good k (row_of (variable_columns before (made c)))
      ≡ room_good k (row_of (variable_columns 0 (made c)))
  unfolding room_good row_of variable_columns
  room_before kind.Single c = refl
  room_before (kind.Multiple Bits) c = refl
  room_before (kind.Multiple (Fields a b)) c = refl
  room_before (kind.Quantity f) c = refl
  room_before kind.Character c = refl
  room_before kind.Logical c = refl

  pub holds_same : {k : ℕ} {x : Telling} {c : Content} → Tells d (room p) k x c → Exact (room p) c
      → holds_in before (variable (head_as n name i label j k p m) x) ≡ holds (made c)
  unfolding holds_in holds
  holds_same {c = c} t e = rw (columns_same d n name i label j p m before t e, kind_same c) (room_before (kind_in (room p) c) c)

  -- ---- too many bytes for any position
  kind_books : (x : Telling) → 1 ≤ x.subfields
      → kind_of (columns_in before (variable (head_as n name i label j 2 p m) x)) ≡ kind.Multiple (Fields x.subfields x.subwidth)
  unfolding columns_in full_columns widened plain_columns counted_in kind_of spread_of
  kind_books x s = rw (ne_eqb x.subfields 0 (λ z. omega arith))

  low_books : (x : Telling) → (row_of (columns_in before (variable (head_as n name i label j 2 p m) x))).finish ≤ 16384
  unfolding columns_in full_columns widened plain_columns counted_in row_of
  low_books x = low

  narrow_books : (x : Telling) → 1 ≤ x.subfields → 1000000000000000 ≤ x.subfields * x.subwidth
      → holds_in before (variable (head_as n name i label j 2 p m) x) ≡ false
  unfolding holds_in
  narrow_books x s h = rw (kind_books x s)
      (narrow_room (row_of (columns_in before (variable (head_as n name i label j 2 p m) x))) x.subfields x.subwidth (low_books x) h)

  kind_made : (s : Spread) (b : Block) → 1 ≤ s.count.value
      → kind_in (room p) (multiple (some s) b) ≡ kind.Multiple (Fields s.count.value (part_width (room p) s.count s.width))
  unfolding kind_in spread_of
  kind_made s b h = rw (ne_eqb s.count.value 0 (λ z. omega arith))

  low_made : (c : Content) → (row_of (variable_columns 0 (made c))).finish ≤ 16384
  unfolding variable_columns row_of
  low_made c = low

  narrow_made : (s : Spread) (b : Block) → 1 ≤ s.count.value
      → 1000000000000000 ≤ s.count.value * part_width (room p) s.count s.width → holds (made (multiple (some s) b)) ≡ false
  unfolding holds
  narrow_made s b h k =
      rw (kind_made s b h) (narrow_room (row_of (variable_columns 0 (made (multiple (some s) b)))) s.count.value
      (part_width (room p) s.count s.width) (low_made (multiple (some s) b)) k)

  -- ---- a spread is as the books have it, or too wide in both
  pub data Fate (x : Telling) (k : ℕ) (c : Content) : Type 0 where
    exact : Exact (room p) c → Fate x k c
    narrow : holds_in before (variable (head_as n name i label j k p m) x) ≡ false → holds (made c) ≡ false → Fate x k c

  known_parts : {c w : ℕ} {s : Spread} → Parts (room p) c w (some s)
      → (c ≡ capped s.count.value) × (w ≡ even_or (room p) c s.width) × (1 ≤ c) × (1 ≤ w)
  known_parts (fields u v g h) = (u, v, g, h)

  below_capped : (v : ℕ) → 1 ≤ capped v → 1 ≤ v
  below_capped v h = by (big_or v) where
    by : (capped v ≡ v) ⊎ ((capped v ≡ 1000000000000000) × (1000000000000000 ≤ v)) → 1 ≤ v
    by (inl e) = rw (← e) h
    by (inr e) = omega (arith, e.1)

  pub spread_fate : (x : Telling) (s : Spread) (b : Block) → room p < 1000000000000000 → x.subfields ≡ capped s.count.value
      → x.subwidth ≡ even_or (room p) x.subfields s.width
      → 1 ≤ x.subfields → 1 ≤ x.subwidth → Fate x 2 (multiple (some s) b)
  spread_fate x s b small u v g h = by s.width refl (big_or s.count.value) where
    by : (o : Option Figure) → s.width ≡ o
        → (capped s.count.value ≡ s.count.value) ⊎
        ((capped s.count.value ≡ 1000000000000000) × (1000000000000000 ≤ s.count.value))
        → Fate x 2 (multiple (some s) b)
    by none e (inl c) = exact (exact_fields {s = s} c (rw e))
    by none e (inr c) =
        let f : x.subfields ≡ 1000000000000000 = u ∙ c.0 in
        let w : x.subwidth ≡ room p / 1000000000000000 = v ∙ rw (e, f) in
        let z : room p / 1000000000000000 ≡ 0 = div-eq_of_lt small in
        absurd (omega arith)
    by (some w) e (inl c) = width (big_or w.value) where
      width : (capped w.value ≡ w.value) ⊎ ((capped w.value ≡ 1000000000000000) × (1000000000000000 ≤ w.value))
          → Fate x 2 (multiple (some s) b)
      width (inl q) = exact (exact_fields {s = s} c (rw e q))
      width (inr q) =
          let f : x.subwidth ≡ 1000000000000000 = v ∙ rw e q.0 in
          let some_count : 1 ≤ s.count.value = below_capped s.count.value (rw u at g) in
          narrow (narrow_books x g (large_other x.subfields x.subwidth g (omega arith)))
          (narrow_made s b some_count (rw e (large_other s.count.value w.value some_count q.1)))
    by (some w) e (inr c) =
        let f : x.subfields ≡ 1000000000000000 = u ∙ c.0 in
        let l : x.subwidth ≡ capped w.value = v ∙ rw e in
        let some_width : 1 ≤ w.value = below_capped w.value (rw l at h) in
        let k = c.1 in
        narrow (narrow_books x g (large_product x.subfields x.subwidth (omega arith) h))
        (narrow_made s b (omega arith) (rw e (large_product s.count.value w.value k some_width)))

  pub fate : {k : ℕ} {x : Telling} {c : Content} → room p < 1000000000000000 → Tells d (room p) k x c → Fate x k c
  fate small (as_single kept h u v) = exact exact_single
  fate {x = x} small (as_multiple {s = none} kept h t) = exact exact_bits
  fate {x = x} small (as_multiple {s = some s} {b = b} kept h t) = let q =
      known_parts t in spread_fate x s b small q.0 q.1 q.2 q.3
  fate small (as_quantity kept h u v) = exact exact_quantity
  fate small (as_character g) = exact exact_character
  fate small as_logical = exact exact_logical
