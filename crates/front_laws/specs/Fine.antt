-- What the writer asks of a variable holds of all that are read: their places and parts by the faults that they don't have, their number
-- and
-- lines by the test that reading makes.
use Rattle.std.specs.Prelude.{◌≡◌, refl, ◌⊎◌, Bool, true, false, not, List, [], ◌∷◌, ◌++◌, ℕ, ◌%◌, ◌≤◌, ◌<◌}
use Rattle.std.specs.Prelude.{length}
use Rattle.std.proofs.Common.{inl, inr, mod-eq_of_lt, arith, ltb-false, eqb-true}
use Rattle.std.proofs.Math.Option.{none, some, get_or}
use Rattle.std.proofs.lemmas.Bool.{eqb-false}
use Rattle.below.specs.Below.{lt_or_le}
use Rattle.tokens.specs.declared.Fault.{Fault}
use Rattle.survey.specs.rule.Survey.{Figure, Spread, Block, Content, multiple, Variable}
use Rattle.survey.specs.rule.Width.{room_in}
use Rattle.survey.specs.rule.Table.{lines_of, lines_all}
use Rattle.reading.specs.rule.Least.{Charge, ◌when◌, named}
use Rattle.reading.specs.rule.Statement.{position_charges, spread_charges}
use Rattle.reading.specs.rule.Variable.{ident_charges}
use Rattle.bridge.specs.Lowest.{never}
use Rattle.grammar.specs.Faults.{Clean, block_faults, content_faults, width_faults, variable_faults, variables_faults}
use Rattle.grammar_laws.specs.Views.{clean_left, clean_right}
use Rattle.page_laws.specs.Variables.{Fine, AllFine, no_more, and_more}

-- a charge whose list is clean does not hold, nor does any behind it
clear : (f : Fault) (q : Bool) (l : List Charge) → Clean (f when q ∷ l) → (q ≡ false) × Clean l
unfolding named
clear f true l e = never cc
clear f false l e = (refl, e)

-- ---- POSITION
pub record Low (a b : ℕ) : Type 0 where
  pub order : a ≤ b
  pub high : b ≤ 16384
  pub some : 1 ≤ a

position_low : (a b : Figure) → Clean (position_charges a b) → Low a.value b.value
unfolding position_charges
position_low a b c =
    let p = clear _ _ _ c in
    let q = clear _ _ _ p.1 in
    let r = clear _ _ _ q.1 in
    let s = clear _ _ _ r.1 in
    let z = eqb-false a.value 0 p.0 in
    record { order = ltb-false b.value a.value q.0; high = ltb-false 16384 b.value s.0; some = omega (arith, z) }

-- ---- SPREAD without OF
not_false : (q : Bool) → not q ≡ false → q ≡ true
not_false true e = refl
not_false false e = never cc

parts_some : (room : ℕ) (x : Figure) → Clean (spread_charges room x none) → 1 ≤ room → room ≤ 16384 → (1 ≤ x.value) × (x.value ≤ 16384)
unfolding spread_charges
parts_some room x c h g =
    let p = clear _ _ _ c in
    let q = clear _ _ _ p.1 in
    let z = eqb-false x.value 0 p.0 in
    let m = eqb-true (room % x.value) 0 (not_false _ q.0) in
    (omega (arith, z), small m (lt_or_le room x.value))
  where
    small : room % x.value ≡ 0 → (room < x.value) ⊎ (x.value ≤ room) → x.value ≤ 16384
    small m (inl l) = let e = mod-eq_of_lt l in absurd (omega (arith, e, m))
    small m (inr l) = omega arith

-- ---- a variable
content_parts : (room before : ℕ) (c : Content) → Clean (content_faults room before c) → 1 ≤ room → room ≤ 16384 → (s : Spread) (b : Block)
    → c ≡ multiple (some s) b → s.width ≡ none → (1 ≤ s.count.value) × (s.count.value ≤ 16384)
content_parts room before c f h g s b e w =
    let k : Clean (content_faults room before (multiple (some s) b)) = rw e at f in
    let n : Clean (spread_charges room s.count s.width) = clean_left (spread_charges room s.count s.width)
    (block_faults false before b) k in
    parts_some room s.count (rw w at n) h g

fine : (earlier : List Variable) (v : Variable) → Clean (variable_faults earlier v) → length (lines_of v) ≤ 4096 → Fine v
fine earlier v c few =
    let ident = ident_charges earlier v.ident in
    let place = position_charges v.start (get_or v.finish v.start) in
    let rest = content_faults (room_in v) (lines_all earlier) v.content in
    let a = clean_right ident (place ++ (rest ++ width_faults v)) c in
    let p = position_low v.start (get_or v.finish v.start) (clean_left place (rest ++ width_faults v) a) in
    let r = clean_left rest (width_faults v) (clean_right place (rest ++ width_faults v) a) in
    record {
      finish = p.high;
      start = p.order;
      lines = few;
      parts = content_parts (room_in v) (lines_all earlier) v.content r (omega (arith, p.order, p.high, p.some))
          (omega (arith, p.order, p.high, p.some));
    }

pub all_fine : (d : List ℕ) (earlier l : List Variable) → Clean (variables_faults earlier l) → lines_all l ≤ 4096 → AllFine d l
unfolding variables_faults lines_all
all_fine d earlier [] c h = no_more
all_fine d earlier (v ∷ l) c h =
    and_more (fine earlier v (clean_left (variable_faults earlier v) (variables_faults (earlier ++ v ∷ []) l) c) (omega arith))
    (all_fine d (earlier ++ v ∷ []) l (clean_right (variable_faults earlier v) (variables_faults (earlier ++ v ∷ []) l) c) (omega arith))
