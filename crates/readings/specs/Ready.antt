-- What a row must give to be read from a record of so many bytes: all of it comes from a well-formed table and a record no shorter
-- than L.
use Rattle.std.specs.Prelude.{◌≡◌, false, List, ℕ, ◌-◌, ◌*◌, ◌≤◌, ◌<◌, ltb, ℤ, length, get_or}
use Rattle.std.proofs.Common.{subst, le-mul_of_pos_right, arith}
use Rattle.layout.specs.declared.Format.{Format}
use Rattle.layout.specs.declared.Spread.TheVariants.{Bits, Fields}
use Rattle.layout.specs.declared.Kind.{Kind}
use Rattle.layout.specs.declared.Kind.TheVariants.{Single, Multiple, Quantity, Character}
use Rattle.numbers.specs.rule.Format.{FormatFacts}
use Rattle.sets.specs.Sets.{BitsFacts, FieldsFacts}
use Rattle.layout.specs.declared.Row.{Row}
use Rattle.fields.specs.Facts.{LineFacts, WidthFacts, SpreadFacts, QuantityFacts, KindFacts, RowFacts}

pub record RowReady (t : List ℤ) (v : ℕ) (r : Row) (size : ℕ) : Type 0 where
  pub lines : LineFacts t v r
  pub kind : KindFacts r.kind r
  pub from_one : 1 ≤ r.start
  pub ordered : r.start ≤ r.finish
  pub inside : r.finish ≤ size
  pub low : r.finish ≤ 16384

-- a number in the last w bytes of its position, of which there are at most `most`
pub record NumberFacts (most : ℕ) (t : List ℤ) (v : ℕ) (r : Row) (size : ℕ) : Type 0 where
  pub lines : LineFacts t v r
  pub few : r.width ≤ most
  pub reach : r.width ≤ r.finish
  pub inside : r.finish ≤ size

-- no byte is below 32
abbrev pub Plain : List ℕ → Type 0
Plain s = (j : ℕ) → j < length s → ltb (get_or s j 0) 32 ≡ false

-- ---- laws
pub ready_of : {t : List ℤ} {v len : ℕ} {r : Row} → RowFacts t v len r → (size : ℕ) → len ≤ size → RowReady t v r size
ready_of f size h = record {
  lines = f.lines;
  kind = f.kind;
  from_one = f.position.from_one;
  ordered = f.position.ordered;
  inside = let a = f.position.inside in omega arith;
  low = let a = f.position.inside in let b = f.position.low in omega arith;
}

-- what each kind gives
module _ {t : List ℤ} {v : ℕ} {r : Row} {size : ℕ} (a : RowReady t v r size) where
  number_facts : {m : ℕ} → WidthFacts m r → m ≤ 17 → NumberFacts 17 t v r size
  number_facts w h = let x = w.few in let y = w.room in let z = a.from_one in
      record { lines = a.lines; few = omega arith; reach = omega arith; inside = a.inside }

  pub single_ready : r.kind ≡ Single → NumberFacts 17 t v r size
  single_ready e = let w : WidthFacts 4 r = subst (λ (k : Kind). KindFacts k r) e a.kind in number_facts w (omega arith)

  pub quantity_ready : {f : Format} → r.kind ≡ Quantity f → NumberFacts 17 t v r size × FormatFacts f
  quantity_ready {f} e =
      let q : QuantityFacts f r = subst (λ (k : Kind). KindFacts k r) e a.kind in
      (number_facts q.width (omega arith), record { few = q.decimals; plain = q.plain })

  pub bits_ready : r.kind ≡ Multiple Bits → BitsFacts t v r size
  bits_ready e =
      let w : WidthFacts 9999 r = subst (λ (k : Kind). KindFacts k r) e a.kind in
      let y = w.room in let z = a.inside in
      record { lines = a.lines; from_one = a.from_one; few = w.few; inside = omega arith }

  pub spread_ready : {n b : ℕ} → r.kind ≡ Multiple (Fields n b) → FieldsFacts t v r n b size
  spread_ready {n} {b} e =
      let w : SpreadFacts n b r = subst (λ (k : Kind). KindFacts k r) e a.kind in
      let y = w.room in let z = a.inside in let o = a.from_one in let l = a.low in let h = w.holds in let s = w.some in
      let m : n ≤ n * b = le-mul_of_pos_right n (omega arith) in
      record { lines = a.lines; from_one = o; few = w.few; holds = h; fields = omega arith; inside = omega arith }

  pub text_ready : r.kind ≡ Character → (r.width ≤ 4096) × (r.start - 1 < size) × (r.width ≤ size - (r.start - 1))
  text_ready e =
      let w : WidthFacts 4096 r = subst (λ (k : Kind). KindFacts k r) e a.kind in
      let x = w.some in let y = w.room in let z = a.inside in let o = a.from_one in
      (w.few, omega arith, omega arith)
