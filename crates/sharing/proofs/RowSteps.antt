-- A row's places by its kind, and their room in the stamps.
use mathlib.Core.Path.{◌≡◌, refl, sym, subst, ◌∙◌}
use mathlib.Core.Bool.{Bool, true, false}
use mathlib.Core.List.{List}
use Prim.Native.Nat.{ℕ, zero, suc, ◌+◌, ◌-◌, ◌*◌, ◌≤◌}
use native.Mathlib.Omega.{arith}
use lib.IntN.{ℤ}
use lib.ListN.{get_or, replicate}
use Rattle.layout.specs.declared.Row.{Row}
use Rattle.layout.specs.declared.Format.{Format}
use Rattle.layout.specs.declared.Kind.{Kind}
use Rattle.layout.specs.declared.Kind.TheVariants.{Single, Multiple, Quantity, Character, Logical}
use Rattle.layout.specs.declared.Spread.TheVariants.{Bits, Fields}
use Rattle.places.specs.rule.Places.{run}
use Rattle.fields.specs.rule.Row.{categories, bit_places, spread_places, places_by, places_of}
use Rattle.fields.specs.Facts.{WidthFacts, SpreadFacts, QuantityFacts, KindFacts, RowFacts}
use Rattle.sharing.specs.Claims.{Claimed}
use Rattle.sharing.specs.Pairs.{Stamped, apart_before, claim_says}

-- the room of one run of places
pub record Room (r : Row) (size : ℕ) : Type 0 where
  pub reach : r.width ≤ r.finish
  pub right : r.finish - r.width + r.width ≤ size
  pub left : r.start - 1 + r.width ≤ size
  pub from_one : 1 ≤ r.start

module _ {t : List ℤ} {v len : ℕ} {r : Row} (size : ℕ) (f : RowFacts t v len r) (h : len ≤ size) where
  room : {m : ℕ} → WidthFacts m r → Room r size
  room w =
      let a = w.room in let p = f.position.from_one in let q = f.position.inside in let o = f.position.ordered in
      record { reach = omega arith; right = omega arith; left = omega arith; from_one = p }

  pub single_room : r.kind ≡ Single → Room r size
  single_room e = let w : WidthFacts 4 r = subst (λ (k : Kind). KindFacts k r) e f.kind in room w

  pub quantity_room : {g : Format} → r.kind ≡ Quantity g → Room r size
  quantity_room {g} e = let w : QuantityFacts g r = subst (λ (k : Kind). KindFacts k r) e f.kind in room w.width

  pub text_room : r.kind ≡ Character → Room r size
  text_room e = let w : WidthFacts 4096 r = subst (λ (k : Kind). KindFacts k r) e f.kind in room w

  pub truth_room : (1 ≤ r.finish) × (r.finish - 1 + 1 ≤ size)
  truth_room = let p = f.position.from_one in let q = f.position.inside in let o = f.position.ordered in (omega arith, omega arith)

  pub spread_room : {n b : ℕ} → r.kind ≡ Multiple (Fields n b) → (r.width ≤ b) × (r.start - 1 + n * b ≤ size)
  spread_room {n} {b} e =
      let w : SpreadFacts n b r = subst (λ (k : Kind). KindFacts k r) e f.kind in
      let a = w.room in let p = f.position.from_one in let q = f.position.inside in
      (w.holds, omega arith)

module _ (t : List ℤ) (v : ℕ) (r : Row) {own : ℕ} {s s' : List ℕ} {b : Bool} where
  pub as_single : r.kind ≡ Single → Claimed own (run (r.finish - r.width) r.width) s s' b → Claimed own (places_of t v r) s s' b
  unfolding places_by
  as_single e c = rw e c

  pub as_quantity : {g : Format} → r.kind ≡ Quantity g → Claimed own (run (r.finish - r.width) r.width) s s' b
      → Claimed own (places_of t v r) s s' b
  unfolding places_by
  as_quantity e c = rw e c

  pub as_text : r.kind ≡ Character → Claimed own (run (r.start - 1) r.width) s s' b → Claimed own (places_of t v r) s s' b
  unfolding places_by
  as_text e c = rw e c

  pub as_truth : r.kind ≡ Logical → Claimed own (run (r.finish - 1) 1) s s' b → Claimed own (places_of t v r) s s' b
  unfolding places_by
  as_truth e c = rw e c

  pub as_bits : r.kind ≡ Multiple Bits → Claimed own (bit_places (r.start - 1) (categories t v r)) s s' b
      → Claimed own (places_of t v r) s s' b
  unfolding places_by
  as_bits e c = subst (λ (k : Kind). Claimed own (places_by k t v r) s s' b) (sym e) c

  pub as_spread : {n w : ℕ} → r.kind ≡ Multiple (Fields n w) → Claimed own (spread_places (r.start - 1) w r.width n) s s' b
      → Claimed own (places_of t v r) s s' b
  unfolding places_by
  as_spread e c = rw e c

-- a claim that is refused
pub turn_stop : (P : ℕ → List ℕ) {k : ℕ} {s s' : List ℕ} {b : Bool} → Stamped P k s → Claimed (k + 1) (P k) s s' b → b ≡ false
    → apart_before P k ≡ false
turn_stop P st c e = sym (claim_says P st) ∙ sym c.says ∙ e

pub turn_done : (P : ℕ → List ℕ) {k : ℕ} {s s' : List ℕ} {b : Bool} → Stamped P k s → Claimed (k + 1) (P k) s s' b → b ≡ true
    → apart_before P k ≡ true
turn_done P st c e = sym (claim_says P st) ∙ sym c.says ∙ e

pub is_true : {own : ℕ} {ps s s' : List ℕ} {b : Bool} → b ≡ true → Claimed own ps s s' b → Claimed own ps s s' true
is_true e c = rw e at c

-- new stamps are 0, and past their end too
pub zeros : (n q : ℕ) → get_or {A = ℕ} (replicate n 0) q 0 ≡ 0
zeros zero q = refl
zeros (suc n) zero = refl
zeros (suc n) (suc q) = zeros n q
