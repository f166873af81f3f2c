-- A line judged: what its fields say of it, whatever record they would leave.
use Rattle.std.specs.Prelude.{◌≡◌, Bool, cond, List, ℕ, ◌+◌, ◌≤◌, ◌<◌, eqb, ltb, ℤ, length, drop}
use Rattle.std.proofs.Math.Path.{refl}
use Rattle.std.proofs.Common.{sym, ap, ◌∙◌}
use Rattle.std.proofs.Math.Bool.{true, false}
use borrow.Author.Tests.{lt-ltb}
use Rattle.layout.specs.rule.Row.{row_at}
use Rattle.layout.specs.declared.Row.{Row}
use Rattle.fields.specs.Facts.{RowFacts}
use Rattle.fields.specs.rule.Field.{Value, Field, holds, illegal, spaces}
use Rattle.field_values.specs.rule.Read.{value_from}
use Rattle.csv_fields.specs.rule.Page.{fresh, page, broken, page_lines}
use Rattle.csv_fields.specs.Page.{part, Stands}
use Rattle.field_judges.specs.Judged.{Standing, standing_value}
use Rattle.import_lines.specs.Undoubled.{undoubled}
use Rattle.import_lines.specs.Walk.{Walk, walk_of, step_by, step, Walking, raw_of, raw_bare, GoodLine, FaultyLine}
use Rattle.import_lines.specs.Walk.{LineTaken, Whole, end_of}
use Rattle.import_lines.specs.Walk.{whole_taken}
use Rattle.sound.specs.rule.Rows.{rows_of, length_of}
use Rattle.import_lines.specs.declared.LineEnd.{LineEnd}
use Rattle.import_lines.specs.declared.LineEnd.TheVariants.{Good, Refused, Torn}

-- field j stands from one place to another, a value of its row, and none before it was no value
pub record FieldJudged (t : List ℤ) (v : ℕ) (d : List ℕ) (at j bad to : ℕ) : Type 0 where
  pub first : bad ≡ 0
  pub some : j < v
  pub standing : Standing t v (row_at t j) d at to

pub standing_row : {t : List ℤ} {v : ℕ} {r r' : Row} {d : List ℕ} {at to : ℕ} → r ≡ r' → Standing t v r d at to → Standing t v r' d at to
standing_row e k = rw e at k

-- the first column that is no value with field j, whatever the record before it
abbrev pub Judges : List ℤ → ℕ → ℕ → List ℕ → ℕ → ℕ → Type 0
Judges t v j f bad r = (s : List ℕ) → walk_of r (step t v j f bad s).bytes ≡ step t v j f bad s

module _ (t : List ℤ) (v j : ℕ) (f : List ℕ) (bad : ℕ) where
  same_bad : (s u : List ℕ) → (step t v j f bad s).bad ≡ (step t v j f bad u).bad
  unfolding step step_by
  same_bad s u = go (eqb bad 0) (ltb j v) (value_from t v (row_at t j) f)
    where
      go : (p q : Bool) (x : Field) → (cond p (cond q (step_by t v j x s) (walk_of 0 s)) (walk_of bad s)).bad
          ≡ (cond p (cond q (step_by t v j x u) (walk_of 0 u)) (walk_of bad u)).bad
      go true true (holds x) = refl
      go true true illegal = refl
      go true false x = refl
      go false q x = refl

  -- what was seen of one record holds of every other
  pub judges_any : {r : ℕ} (s : List ℕ) {u : List ℕ} → walk_of r u ≡ step t v j f bad s → Judges t v j f bad r
  judges_any {r} s e w = ap (λ (b : ℕ). walk_of b (step t v j f bad w).bytes) (ap (λ (x : Walk). x.bad) e ∙ same_bad s w)

  pub judges_held : {x : Value} → bad ≡ 0 → j < v → value_from t v (row_at t j) f ≡ holds x → Judges t v j f bad 0
  unfolding step step_by
  judges_held e h k s = rw (e, lt-ltb j v h, k)

-- a field that was judged where it stands
pub field_judges : {t : List ℤ} {v len : ℕ} {d : List ℕ} {at j bad to : ℕ} → RowFacts t v len (row_at t j) → FieldJudged t v d at j bad to
    → Judges t v j (part d at to) bad 0
field_judges {t} {v} {len} {d} {at} {j} {bad} {to} g k =
    judges_held t v j (part d at to) bad k.first k.some (standing_value k.standing g)

judges_as : (t : List ℤ) (v j bad r : ℕ) (f g : List ℕ) → f ≡ g → Judges t v j f bad r → Judges t v j g bad r
judges_as t v j bad r f g e h = rw e at h

-- and that was cut there
pub field_met : {t : List ℤ} {v len : ℕ} {d : List ℕ} {at j bad to p q : ℕ} {b : Bool} {f : List ℕ} → RowFacts t v len (row_at t j)
    → FieldJudged t v d at j bad to → Stands d p q b f → (p ≡ at) × (q ≡ to) × (b ≡ true)
    → Judges t v j (undoubled false (part d p q)) bad 0
field_met {t} {v} {len} {d} {at} {j} {bad} {to} {p} {q} g k s w =
    let e : part d at to ≡ part d p q = sym (ap (λ (x : ℕ). part d x q) w.0 ∙ ap (λ (x : ℕ). part d at x) w.1) in
    judges_as t v j bad 0 (part d at to) (undoubled false (part d p q)) (e ∙ raw_bare (raw_of s) w.2) (field_judges g k)

-- in a line that is judged: some record was made of the fields before a place
pub record WalkingOn (t : List ℤ) (v : ℕ) (d : List ℕ) (from at j bad : ℕ) (blank : List ℕ) : Type 0 where
  pub bytes : List ℕ
  pub walking : Walking t v d from at j bad blank bytes

pub record SomeLine (t : List ℤ) (d : List ℕ) (from next : ℕ) : Type 0 where
  pub bytes : List ℕ
  pub good : GoodLine t d from bytes next

-- THE END OF A LINE that is judged
abbrev pub LineJudged : List ℤ → List ℕ → ℕ → LineEnd → Type 0
LineJudged t d from (Good next) = SomeLine t d from next
LineJudged t d from (Refused k c) = FaultyLine t d from k c
LineJudged t d from (Torn c) = page_lines (page fresh (drop from d)) ≡ broken c

taken_judged : (t : List ℤ) (d : List ℕ) (from : ℕ) (s : List ℕ) (r : LineEnd) → LineTaken t d from s r → LineJudged t d from r
taken_judged t d from s (Good next) k = record { bytes = s; good = k }
taken_judged t d from s (Refused n c) k = k
taken_judged t d from s (Torn c) k = k

pub whole_judged : {t : List ℤ} {rows len : ℕ} {d : List ℕ} {from at j bad : ℕ} {s : List ℕ} → rows ≡ rows_of t → len ≡ length_of t
    → (w : Walking t rows d from at j bad (spaces len) s) {next b : ℕ} {u : List ℕ} → Whole w next b u → from < next → next ≤ length d
    → LineJudged t d from (end_of rows (j + 1) b next)
whole_judged {t} {rows} {len} {d} {from} {at} {j} p q w {next} {b} {u} k h l =
    taken_judged t d from u (end_of rows (j + 1) b next) (whole_taken p q w k h l)
