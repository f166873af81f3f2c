-- A line built: which rows have each of their categories, and what a field leaves that was built where it stands, or not.
use Rattle.std.specs.Prelude.{◌≡◌, refl, Bool, true, false, List, ℕ, ◌+◌, ◌-◌, ◌≤◌, ◌<◌, eqb, ℤ, length, get_or, set}
use Rattle.std.proofs.Common.{sym, ap, ◌∙◌, arith, eqb-true, lt-ltb, get_or-set_same, get_or-set_other}
use Rattle.std.proofs.lemmas.Bool.{eqb-false}
use Rattle.layout.specs.rule.Row.{row_at}
use Rattle.layout.specs.declared.Row.{Row}
use Rattle.fields.specs.Facts.{RowFacts}
use Rattle.fields.specs.rule.Field.{Value, holds}
use Rattle.fields.specs.rule.Row.{written_of}
use Rattle.sets.specs.Full.{EachLegal}
use Rattle.field_values.specs.rule.Read.{value_from}
use Rattle.csv_fields.specs.Page.{part, Stands}
use Rattle.field_judges.specs.Judged.{standing_value}
use Rattle.field_builds.specs.Built.{BuiltAt}
use Rattle.import_lines.specs.Undoubled.{undoubled}
use Rattle.import_lines.specs.Walk.{walk_of, step_by, step, raw_of, raw_bare}
use Rattle.import_lines.specs.Judge.{FieldJudged}

-- ---- rows that are marked have each category up to their width: the first n
pub record FullBelow (t : List ℤ) (v : ℕ) (full : List ℕ) (n : ℕ) : Type 0 where
  pub each : (j : ℕ) → j < n → get_or full j 0 ≡ 1 → EachLegal t v (row_at t j) (row_at t j).width

-- and all
pub record FullRows (t : List ℤ) (v : ℕ) (full : List ℕ) : Type 0 where
  pub long : v ≤ length full
  pub each : (j : ℕ) → j < v → get_or full j 0 ≡ 1 → EachLegal t v (row_at t j) (row_at t j).width

pub full_none : (t : List ℤ) (v : ℕ) (full : List ℕ) → FullBelow t v full 0
full_none t v full = record { each = λ j h. absurd (omega arith) }

pub full_more : {t : List ℤ} {v : ℕ} {full : List ℕ} {n : ℕ} (b : ℕ) {r : Row} → FullBelow t v full n → n < length full → r ≡ row_at t n
    → (b ≡ 1 → EachLegal t v r r.width) → FullBelow t v (set full n b) (n + 1)
full_more {t} {v} {full} {n} b {r} g h q e = record { each = λ j l w. go j l w (eqb j n) refl }
  where
    row : b ≡ 1 → EachLegal t v (row_at t n) (row_at t n).width
    row y = rw q at (e y)

    go : (j : ℕ) → j < n + 1 → get_or (set full n b) j 0 ≡ 1 → (x : Bool) → eqb j n ≡ x → EachLegal t v (row_at t j) (row_at t j).width
    go j l w true x =
        let s : j ≡ n = eqb-true j n x in
        rw s (row (sym (get_or-set_same full n b 0 h) ∙ ap (λ (i : ℕ). get_or (set full n b) i 0) (sym s) ∙ w))
    go j l w false x = let s = eqb-false j n x in g.each j (omega arith) (sym (get_or-set_other full n j b 0 s) ∙ w)

pub full_rows : {t : List ℤ} {v : ℕ} {full : List ℕ} {n : ℕ} → FullBelow t v full n → v ≤ n → v ≤ length full → FullRows t v full
full_rows g h l = record { long = l; each = λ j k w. g.each j (omega arith) w }

-- ---- a field that was built where it stands, or the record is kept
pub record FieldBuilt (t : List ℤ) (v : ℕ) (d : List ℕ) (at j bad : ℕ) (old new : List ℕ) (r : ℕ) : Type 0 where
  pub judged : (r ≡ 0 → ⊥) → FieldJudged t v d at j bad (r - 1)
  pub leaves : (z : r ≡ 0 → ⊥) → new ≡ written_of t v (row_at t j) (judged z).standing.value old
  pub kept : r ≡ 0 → new ≡ old

pub field_none : (t : List ℤ) (v : ℕ) (d : List ℕ) (at j bad : ℕ) (old : List ℕ) → FieldBuilt t v d at j bad old old 0
field_none t v d at j bad old = record { judged = λ z. absurd (z refl); leaves = λ z. absurd (z refl); kept = λ z. refl }

pub field_some : {t : List ℤ} {v : ℕ} {d : List ℕ} {at j bad : ℕ} {old new : List ℕ} {e : ℕ} {r : Row} → bad ≡ 0 → j < v → r ≡ row_at t j
    → BuiltAt t v r d at old new e → FieldBuilt t v d at j bad old new e
field_some {t} {v} {d} {at} {j} {bad} {old} {new} {e} b l q k =
    let m = as_row q k in
    record {
      judged = λ z. record { first = b; some = l; standing = (m.built z).standing };
      leaves = λ z. (m.built z).leaves;
      kept = m.kept;
    }
  where
    as_row : {r : Row} → r ≡ row_at t j → BuiltAt t v r d at old new e → BuiltAt t v (row_at t j) d at old new e
    as_row w x = rw w at x

-- and where it was not, by the other road
pub record SlowBuilt (t : List ℤ) (v j : ℕ) (f : List ℕ) (bad end : ℕ) (old new : List ℕ) (r : ℕ) : Type 0 where
  pub slow : end ≡ 0 → walk_of r new ≡ step t v j f bad old
  pub good : (end ≡ 0 → ⊥) → r ≡ 0
  pub kept : (end ≡ 0 → ⊥) → new ≡ old

pub slow_none : (t : List ℤ) (v j : ℕ) (f : List ℕ) (bad : ℕ) {end : ℕ} (old : List ℕ) → (end ≡ 0 → ⊥) → SlowBuilt t v j f bad end old old 0
slow_none t v j f bad old n = record { slow = λ z. absurd (n z); good = λ z. refl; kept = λ z. refl }

pub slow_some : {t : List ℤ} {v j : ℕ} {f : List ℕ} {bad end : ℕ} {old new : List ℕ} {r : ℕ} → end ≡ 0 → walk_of r new
    ≡ step t v j f bad old
    → SlowBuilt t v j f bad end old new r
slow_some e k = record { slow = λ z. k; good = λ z. absurd (z e); kept = λ z. absurd (z e) }

-- both: the step of the field
step_held : (t : List ℤ) (v j : ℕ) (f : List ℕ) (bad : ℕ) (s : List ℕ) {x : Value} → bad ≡ 0 → j < v → value_from t v (row_at t j) f
    ≡ holds x
    → walk_of 0 (written_of t v (row_at t j) x s) ≡ step t v j f bad s
unfolding step step_by
step_held t v j f bad s e h k = rw (e, lt-ltb j v h, k)

pub field_stepped : {t : List ℤ} {v len : ℕ} {d : List ℕ} {at j bad end p q : ℕ} {b : Bool} {f : List ℕ} {old mid new : List ℕ} {r : ℕ}
    → ((j < v) → RowFacts t v len (row_at t j)) → FieldBuilt t v d at j bad old mid end → Stands d p q b f
    → ((end ≡ 0 → ⊥) → (p ≡ at) × (q ≡ end - 1) × (b ≡ true))
    → SlowBuilt t v j (undoubled false (part d p q)) bad end mid new r
    → walk_of r new ≡ step t v j (undoubled false (part d p q)) bad old
field_stepped {t} {v} {len} {d} {at} {j} {bad} {end} {p} {q} {b} {f} {old} {mid} {new} {r} g k s c w = go (eqb end 0) refl
  where
    here : (end ≡ 0 → ⊥) → walk_of r new ≡ step t v j (undoubled false (part d p q)) bad old
    here z =
        let m = k.judged z in
        let y = c z in
        let e : part d at (end - 1) ≡ undoubled false (part d p q) =
        sym (ap (λ (x : ℕ). part d x q) y.0 ∙ ap (λ (x : ℕ). part d at x) y.1) ∙ raw_bare (raw_of s) y.2 in
        let held = standing_value m.standing (g m.some) in
        ap (λ (x : ℕ). walk_of x new) (w.good z) ∙ ap (walk_of 0) (w.kept z ∙ k.leaves z)
        ∙ step_held t v j (undoubled false (part d p q)) bad old m.first m.some (ap (value_from t v (row_at t j)) (sym e) ∙ held)

    go : (x : Bool) → eqb end 0 ≡ x → walk_of r new ≡ step t v j (undoubled false (part d p q)) bad old
    go true x = let z = eqb-true end 0 x in w.slow z ∙ ap (step t v j (undoubled false (part d p q)) bad) (k.kept z)
    go false x = here (eqb-false end 0 x)
