-- What stands behind the position of a variable is good, by type.
use Rattle.std.specs.Prelude.{Ok, Err}
use mathlib.Core.Path.{◌≡◌, refl}
use mathlib.Core.Logic.{◌⊎◌, inl, inr}
use mathlib.Core.Bool.{Bool, true, false, cond}
use mathlib.Core.List.{List, []}
use Prim.Native.Nat.{ℕ, ◌≤◌}
use native.Mathlib.Omega.{arith}
use borrow.Author.Tests.{eqb-true, eqb-false}
use lib.Dec.{eqb}
use lib.ListN.{length}
use Rattle.tokens.specs.declared.Choice.{Choice}
use Rattle.tokens.specs.declared.Choice.TheVariants.{Taken, Left}
use Rattle.tokens.specs.Token.{choice_of}
use Rattle.statements.specs.rule.Words.{SPREAD}
use Rattle.statements.specs.Note.{notes_on}
use Rattle.statements.specs.Spread.{spread_rest}
use Rattle.statements.specs.Size.{size_on}
use Rattle.values.specs.declared.Block.{Block}
use Rattle.values.specs.declared.Said.{Said}
use Rattle.values.specs.Line.{Given}
use Rattle.values.specs.Line as given
use Rattle.values.specs.Block.{empty_block, values_on}
use Rattle.values.specs.Good.{GoodBlock, GoodLines, GoodValues, EachGood}
use Rattle.values.specs.Good as good
use Rattle.variables.specs.Rest.{Telling, Told, join_values, values_rest, join_size, join_nothing, spread_or, optional, spread_then}
use Rattle.variables.specs.Rest.{rest_of}
use Rattle.variables.specs.Rest as told
use Rattle.entries.specs.Good.{GoodTelling}
use Rattle.entries.proofs.Heads.{none}
use Rattle.entries.proofs.Spreads.{spread_good, size_good}
use Rattle.tokens.specs.rule.Gap.{OrFault}
use Rattle.tokens.specs.declared.Figures.{Figures}
use Rattle.statements.specs.declared.Subfields.{Subfields}

-- nothing said is good
empty_block_lem : (q : Bool) → GoodBlock q empty_block
empty_block_lem q = record {
  few_decimals = omega arith;
  point_code = omega arith;
  pointed = inl refl;
  shared = λ e. absurd (omega arith);
  category = λ e. (refl, refl);
  unranged = λ e. (refl, refl);
  ordered = λ e. none cc;
  from_limited = λ e. none cc;
  to_limited = λ e. none cc;
  from_near = λ e. none cc;
  to_near = λ e. none cc;
}

empty_lines : (q : Bool) (first : ℕ) → first ≤ 4096 → GoodLines q first []
empty_lines q first h = record {
  few = omega arith;
  limited = λ i l. absurd (omega arith);
  differ = λ i j l m. absurd (omega arith);
  each = good.none;
}

module _ (d : List ℕ) (first : ℕ) (long : length d ≤ 1048576) (few : first ≤ 4096)
    (values-good : (q : Bool) (t : OrFault ℕ) (b : Block) (l : List Said) (n : ℕ) → values_on d q first t ≡ given.Is b l n
    → GoodValues q first b l) where
  -- VALUES, with so many subfields of such a width
  values_told : (kind : ℕ) (t : OrFault ℕ) (count width : ℕ) (x : Telling) → kind ≤ 3
      → ((count ≡ 0) × (width ≡ 0)) ⊎ ((kind ≡ 2) × (1 ≤ count) × (1 ≤ width))
      → values_rest d (eqb kind 3) first t count width ≡ told.Is x → GoodTelling kind first x
  unfolding values_rest join_values
  values_told kind t count width x k s = by (values_on d (eqb kind 3) first t) refl where
    by : (g : Given) → values_on d (eqb kind 3) first t ≡ g → join_values count width g ≡ told.Is x → GoodTelling kind first x
    by (given.Not f) i e = none cc
    by (given.Is b l n) i e =
        let j : record { block = b; lines = l; subfields = count; subwidth = width; size = 0; next = n } ≡ x = cc in
        let v = values-good (eqb kind 3) t b l n i in
        rw (← j) (record {
          block = v.block;
          lines = v.lines;
          near = v.near;
          something = λ h. v.something;
          nothing = λ h. absurd (omega arith);
          subfields = s;
          size = omega arith;
          sized = λ h. absurd (omega arith);
        })

  spread_told : (t : OrFault ℕ) (w : ℕ) (x : Telling) → 1 ≤ w → spread_then d first t w ≡ told.Is x → GoodTelling 2 first x
  unfolding spread_then
  spread_told t w x h = by (choice_of d (notes_on d t) SPREAD) where
    spread : (m : ℕ) (s : OrFault Subfields) → spread_rest d (Ok m) w ≡ s → spread_or d first s ≡ told.Is x → GoodTelling 2 first x
    spread m (Err f) i e = none cc
    spread m (Ok s) i e =
        let g = spread_good d (Ok m) w s h i in
        values_told 2 (Ok s.next) s.count s.width x (omega arith) (inr (refl, g.some, g.wide)) e

    by : (k : Choice) → optional d first (notes_on d t) w k ≡ told.Is x → GoodTelling 2 first x
    by (Taken m) e = spread m (spread_rest d (Ok m) w) refl e
    by Left e = values_told 2 (notes_on d t) 0 0 x (omega arith) (inl (refl, refl)) e

  size_told : (t : OrFault ℕ) (x : Telling) → join_size (size_on d t) ≡ told.Is x → GoodTelling 4 first x
  unfolding join_size
  size_told t x = by (size_on d t) refl where
    by : (n : OrFault Figures) → size_on d t ≡ n → join_size n ≡ told.Is x → GoodTelling 4 first x
    by (Err f) i e = none cc
    by (Ok y) i e =
        let j : record { block = empty_block; lines = []; subfields = 0; subwidth = 0; size = y.size; next = y.next } ≡ x = cc in
        let s = size_good d t y i in
        rw (← j) (record {
          block = empty_block_lem (eqb 4 3);
          lines = empty_lines (eqb 4 3) first few;
          near = λ i l. absurd (omega arith);
          something = λ h. absurd (omega arith);
          nothing = λ h. (refl, refl);
          subfields = inl (refl, refl);
          size = s.1;
          sized = λ h. s.0;
        })

  nothing_told : (kind : ℕ) (t : OrFault ℕ) (x : Telling) → kind ≡ 5 → join_nothing t ≡ told.Is x → GoodTelling kind first x
  unfolding join_nothing
  nothing_told kind (Err f) x k e = none cc
  nothing_told kind (Ok n) x k e =
      let j : record { block = empty_block; lines = []; subfields = 0; subwidth = 0; size = 0; next = n } ≡ x = cc in
      rw (← j) (record {
        block = empty_block_lem (eqb kind 3);
        lines = empty_lines (eqb kind 3) first few;
        near = λ i l. absurd (omega arith);
        something = λ h. absurd (omega arith);
        nothing = λ h. (refl, refl);
        subfields = inl (refl, refl);
        size = omega arith;
        sized = λ h. absurd (omega arith);
      })

  pub rest_good : (kind : ℕ) (t : OrFault ℕ) (w : ℕ) (x : Telling) → 1 ≤ kind → kind ≤ 5 → 1 ≤ w → rest_of d first kind t w ≡ told.Is x
      → GoodTelling kind first x
  unfolding rest_of
  rest_good kind t w x k m h = by (eqb kind 1) (eqb kind 2) (eqb kind 3) (eqb kind 4) refl refl refl refl where
    values : (n : ℕ) → kind ≡ n → n ≤ 3 → values_rest d (eqb n 3) first t 0 0 ≡ told.Is x → GoodTelling kind first x
    values n e l i = rw e (values_told n t 0 0 x l (inl (refl, refl)) i)

    by : (p q r s : Bool) → eqb kind 1 ≡ p → eqb kind 2 ≡ q → eqb kind 3 ≡ r → eqb kind 4 ≡ s
        → cond p (values_rest d false first t 0 0)
        (cond q (spread_then d first t w) (cond r (values_rest d true first t 0 0) (cond s (join_size (size_on d t)) (join_nothing t))))
        ≡ told.Is x
        → GoodTelling kind first x
    by true q r s e f g i j = values 1 (eqb-true kind 1 e) (omega arith) j
    by false true r s e f g i j = rw (eqb-true kind 2 f) (spread_told t w x h j)
    by false false true s e f g i j = values 3 (eqb-true kind 3 g) (omega arith) j
    by false false false true e f g i j = rw (eqb-true kind 4 i) (size_told t x j)
    by false false false false e f g i j =
        let a = eqb-false kind 1 e in
        let b = eqb-false kind 2 f in
        let c = eqb-false kind 3 g in
        let o = eqb-false kind 4 i in
        nothing_told kind t x (omega arith) j
