-- EXACT REFUSALS of an import, one outcome, and what the output then holds.
-- Assumes nothing.
use Rattle.std.specs.Prelude.{◌≡◌, Bool, cond, ℕ, ◌+◌, ◌≤◌, min, ℤ, length, take, drop}
use Rattle.std.proofs.Math.Path.{refl, ap}
use Rattle.std.proofs.Common.{sym, ◌∙◌, arith}
use Rattle.std.proofs.Math.Bool.{true, false}
use mathlib.Core.List.{List, [], ◌∷◌, ◌++◌}
use borrow.Author.Tests.{leb-true, leb-false, le-leb, lt-leb, eqb-true, eqb-false, eq-eqb, ne_eqb}
use Rattle.std.proofs.Math.Dec.{eqb, leb}
use Rattle.std.proofs.Math.Seq.{take-append_seam, drop-append_seam}
use Rattle.layout.specs.rule.Row.{row_at}
use Rattle.fields.specs.rule.Field.{Field, holds, illegal, spaces}
use Rattle.fields.specs.rule.Row.{written_of}
use Rattle.sound.specs.rule.Sound.{well_formed}
use Rattle.sound.specs.rule.Rows.{rows_of, length_of}
use Rattle.sound.specs.Rows.{row_facts}
use Rattle.sharing.specs.rule.Sharing.{shares_none}
use Rattle.kinds.specs.rule.Against.{yields}
use Rattle.below.specs.Below.{holds_not}
use Rattle.csv_fields.specs.rule.Page.{fresh, page, Lines, done, broken, line, page_lines}
use Rattle.field_values.specs.rule.Read.{value_from}
use Rattle.field_values.specs.Exactly.{value_exactly, value_none}
use Rattle.import_rule.specs.rule.Line.{LineSays, builds, faulty, on_field, record_from, line_says}
use Rattle.import_rule.specs.rule.Text.{TextSays, accepts, refuses, and_record, after_line, lines_say, same_bytes, differ_at, names_then}
use Rattle.import_rule.specs.rule.Text.{names_say}
use Rattle.import_rule.specs.rule.Text.{text_says, file_bytes, data_of}
use Rattle.imports.specs.rule.Import.{ImportVerdict, refused, written, roomed, import_says, import_verdict, import_after, Imported}
use Rattle.import_laws.specs.rule.Exactly.{LineWritten, all_written, one_written, no_value, LineOutcome, other_count, its_fields}
use Rattle.import_laws.specs.rule.Exactly.{LinesOutcome, no_line, malformed, refused_line, built_line, later_line}
use Rattle.import_laws.specs.rule.Exactly.{FirstOther, more_fields, more_names, here, later, TextOutcome, no_names, torn_names}
use Rattle.import_laws.specs.rule.Exactly.{other_names, same_names}
use Rattle.import_laws.specs.Round.{same_same, none_differ}
use Rattle.import_laws.specs.Accepted.{same_is, differ_none}
use Rattle.import_laws.specs.rule.Exactly.{ImportOutcome, bad_table_lem, other_table, shared_place, refused_text, short_room, all_built}

-- ---- one outcome: answer and output
pub import_one : {def : List ℕ} {t : List ℤ} {s out o₁ o₂ : List ℕ} {v₁ v₂ : ImportVerdict}
    → Imported def t s out o₁ v₁ → Imported def t s out o₂ v₂ → (v₁ ≡ v₂) × (o₁ ≡ o₂)
import_one a b = (a.says ∙ sym b.says, a.leaves ∙ sym b.leaves)

-- ---- a line
module _ (t : List ℤ) (g : well_formed t ≡ true) where
  fields_named : (fs : List (List ℕ)) (i : ℕ) (s : List ℕ) → i + length fs ≤ rows_of t
      → LineWritten t i fs s (record_from t (rows_of t) i fs s)
  unfolding record_from on_field
  fields_named [] i s h = all_written
  fields_named (f ∷ fs) i s h = go (value_from t (rows_of t) (row_at t i) f) refl (λ u. fields_named fs (i + 1) u (omega arith))
    where
      go : (y : Field) → value_from t (rows_of t) (row_at t i) f ≡ y
          → ((u : List ℕ) → LineWritten t (i + 1) fs u (record_from t (rows_of t) (i + 1) fs u))
          → LineWritten t i (f ∷ fs) s (on_field y (λ x. record_from t (rows_of t) (i + 1) fs (written_of t (rows_of t) (row_at t i) x s))
          (i + 1))
      go (holds x) e k = one_written x ((value_exactly (row_facts t g i (omega arith)) f x).0 e)
          (k (written_of t (rows_of t) (row_at t i) x s))
      go illegal e k = no_value ((value_none (row_facts t g i (omega arith)) f).0 e)

  fields_only : {i : ℕ} {fs : List (List ℕ)} {s : List ℕ} {u : LineSays} → i + length fs ≤ rows_of t → LineWritten t i fs s u
      → record_from t (rows_of t) i fs s ≡ u
  unfolding record_from on_field
  fields_only h all_written = refl
  fields_only {i} h (one_written {f = f} x v k) = rw ((value_exactly (row_facts t g i (omega arith)) f x).1 v) (fields_only (omega arith) k)
  fields_only {i} h (no_value {f = f} n) = rw ((value_none (row_facts t g i (omega arith)) f).1 n)

  -- each answer only where what it says is so
  pub line_named : (fs : List (List ℕ)) → LineOutcome t fs (line_says t fs)
  unfolding line_says
  line_named fs = go (eqb (length fs) (rows_of t)) refl
    where
      go : (b : Bool) → eqb (length fs) (rows_of t) ≡ b
          → LineOutcome t fs (cond b (record_from t (rows_of t) 0 fs (spaces (length_of t))) (faulty 63 (min (length fs) (rows_of t) + 1)))
      go true e = let n = eqb-true (length fs) (rows_of t) e in its_fields n (fields_named fs 0 (spaces (length_of t)) (omega (arith, n)))
      go false e = other_count (eqb-false (length fs) (rows_of t) e)

  -- and wherever it is
  pub line_only : {fs : List (List ℕ)} {u : LineSays} → LineOutcome t fs u → line_says t fs ≡ u
  unfolding line_says
  line_only {fs} (other_count n) = rw (ne_eqb (length fs) (rows_of t) n)
  line_only {fs} (its_fields n k) = rw (eq-eqb (length fs) (rows_of t) n) (fields_only (omega (arith, n)) k)

  -- ---- the lines
  pub lines_named : (n : ℕ) (ls : Lines) → LinesOutcome t n ls (lines_say t n ls)
  unfolding lines_say after_line and_record
  lines_named n done = no_line
  lines_named n (broken c) = malformed
  lines_named n (line fs ls) = go (line_says t fs) (line_named fs) (lines_say t (n + 1) ls) (lines_named (n + 1) ls)
    where
      go : (x : LineSays) → LineOutcome t fs x → (y : TextSays) → LinesOutcome t (n + 1) ls y
          → LinesOutcome t n (line fs ls) (after_line n x y)
      go (builds r) a (accepts rs) b = built_line a b
      go (builds r) a (refuses k m c) b = later_line a b
      go (faulty k c) a y b = refused_line a

  pub lines_only : {n : ℕ} {ls : Lines} {x : TextSays} → LinesOutcome t n ls x → lines_say t n ls ≡ x
  unfolding lines_say after_line and_record
  lines_only no_line = refl
  lines_only malformed = refl
  lines_only (refused_line a) = rw (line_only a)
  lines_only (built_line a b) = rw (line_only a, lines_only b)
  lines_only (later_line a b) = rw (line_only a, lines_only b)

-- ---- the name line
same_of : (a : List ℕ) (b : List ℕ) → a ≡ b → same_bytes a b ≡ true
same_of a b e = rw (← e) (same_same a)

other_of : (a b : List ℕ) → (a ≡ b → ⊥) → same_bytes a b ≡ false
other_of a b n = go (same_bytes a b) refl
  where
    go : (q : Bool) → same_bytes a b ≡ q → q ≡ false
    go true e = absurd (n (same_is a b e))
    go false e = refl

first_some : {c k : ℕ} {ms fs : List (List ℕ)} → FirstOther c ms fs k → 1 ≤ c → 1 ≤ k
first_some more_fields h = h
first_some more_names h = h
first_some (here n) h = h
first_some (later e x) h = first_some x (omega arith)

first_only : {c k : ℕ} {ms fs : List (List ℕ)} → FirstOther c ms fs k → differ_at c ms fs ≡ k
unfolding differ_at
first_only more_fields = refl
first_only more_names = refl
first_only (here {m = m} {f = f} n) = rw (other_of m f n)
first_only (later {m = m} {f = f} e x) = rw (same_of m f e) (first_only x)

first_named : (c : ℕ) (ms fs : List (List ℕ)) → (differ_at c ms fs ≡ 0 → ⊥) → FirstOther c ms fs (differ_at c ms fs)
unfolding differ_at
first_named c [] [] n = absurd (n refl)
first_named c [] (f ∷ fs) n = more_fields
first_named c (m ∷ ms) [] n = more_names
first_named c (m ∷ ms) (f ∷ fs) n = go (same_bytes m f) refl n (λ w. first_named (c + 1) ms fs w)
  where
    go : (q : Bool) → same_bytes m f ≡ q → (cond q (differ_at (c + 1) ms fs) c ≡ 0 → ⊥)
        → ((differ_at (c + 1) ms fs ≡ 0 → ⊥) → FirstOther (c + 1) ms fs (differ_at (c + 1) ms fs))
        → FirstOther c (m ∷ ms) (f ∷ fs) (cond q (differ_at (c + 1) ms fs) c)
    go true e w k = later (same_is m f e) (k w)
    go false e w k = here (λ x. holds_not (same_of m f x) e)

module _ (t : List ℤ) (g : well_formed t ≡ true) (names : List (List ℕ)) where
  pub text_named : (s : List ℕ) → TextOutcome t names (page_lines (page fresh s)) (text_says t names s)
  unfolding text_says names_say names_then
  text_named s = go (page_lines (page fresh s))
    where
      by : (fs : List (List ℕ)) (ls : Lines) (b : Bool) → eqb (differ_at 1 names fs) 0 ≡ b
          → TextOutcome t names (line fs ls) (cond b (lines_say t 2 ls) (refuses 62 1 (differ_at 1 names fs)))
      by fs ls true e = same_names (differ_none 1 names fs (omega arith) (eqb-true (differ_at 1 names fs) 0 e)) (lines_named t g 2 ls)
      by fs ls false e = other_names (first_named 1 names fs (eqb-false (differ_at 1 names fs) 0 e))

      go : (x : Lines) → TextOutcome t names x (names_say t names x)
      go done = no_names
      go (broken c) = torn_names
      go (line fs ls) = by fs ls (eqb (differ_at 1 names fs) 0) refl

  outcome_only : {l : Lines} {x : TextSays} → TextOutcome t names l x → names_say t names l ≡ x
  unfolding names_say names_then
  outcome_only no_names = refl
  outcome_only torn_names = refl
  outcome_only (other_names {c = c} {fs = fs} o) = rw (first_only o, ne_eqb c 0 (λ e. omega (arith, e, first_some o (omega arith))))
  outcome_only (same_names {fs = fs} e o) = rw (e, none_differ 1 fs) (lines_only t g o)

  pub text_only : (s : List ℕ) {x : TextSays} → TextOutcome t names (page_lines (page fresh s)) x → text_says t names s ≡ x
  unfolding text_says
  text_only s o = outcome_only o

-- ---- the call
module _ (def : List ℕ) (t : List ℤ) (s : List ℕ) (room : ℕ) where
  pub import_named : ImportOutcome def t s room (import_verdict def t s room)
  unfolding import_verdict roomed
  import_named = go (well_formed t) (yields def t) (shares_none t (rows_of t)) refl refl refl
    where
      by : well_formed t ≡ true → yields def t ≡ true → shares_none t (rows_of t) ≡ true → (x : TextSays) → import_says def t s ≡ x
          → ImportOutcome def t s room (roomed x room)
      by p q r (refuses k n c) e = refused_text p q r e
      by p q r (accepts rs) e = fit (leb (length (file_bytes rs)) room) refl
        where
          fit : (z : Bool) → leb (length (file_bytes rs)) room ≡ z
              → ImportOutcome def t s room (cond z (written (length rs) (length (file_bytes rs))) (refused 60 0 0))
          fit true w = all_built p q r e (leb-true (length (file_bytes rs)) room w)
          fit false w = short_room p q r e (leb-false (length (file_bytes rs)) room w)

      go : (x y z : Bool) → well_formed t ≡ x → yields def t ≡ y → shares_none t (rows_of t) ≡ z
          → ImportOutcome def t s room (cond x (cond y (cond z (roomed (import_says def t s) room) (refused 90 0 0)) (refused 40 0 0))
          (refused 20 0 0))
      go false y z p q r = bad_table_lem p
      go true false z p q r = other_table p q
      go true true false p q r = shared_place p q r
      go true true true p q r = by p q r (import_says def t s) refl

  pub import_only : {v : ImportVerdict} → ImportOutcome def t s room v → import_verdict def t s room ≡ v
  unfolding import_verdict roomed
  import_only (bad_table_lem p) = rw p
  import_only (other_table p q) = rw (p, q)
  import_only (shared_place p q r) = rw (p, q, r)
  import_only (refused_text p q r e) = rw (p, q, r, e)
  import_only (short_room {rs = rs} p q r e l) = rw (p, q, r, e, lt-leb (length (file_bytes rs)) room l)
  import_only (all_built {rs = rs} p q r e l) = rw (p, q, r, e, le-leb (length (file_bytes rs)) room l)

-- ---- THE OUTPUT: kept whole by a refusal; else the data, and behind them what stood there
pub import_kept : {def : List ℕ} {t : List ℤ} {s out out' : List ℕ} {k n c : ℕ} → Imported def t s out out' (refused k n c) → out' ≡ out
unfolding import_after
import_kept {def} {t} {s} {out} a = a.leaves ∙ ap (λ v. import_after v (data_of (import_says def t s)) out) (sym a.says)

module _ {def : List ℕ} {t : List ℤ} {s out out' : List ℕ} {n m : ℕ} (a : Imported def t s out out' (written n m)) where
  abbrev built : List ℕ
  built = data_of (import_says def t s)

  whole : out' ≡ built ++ drop (length built) out
  unfolding import_after
  whole = a.leaves ∙ ap (λ w. import_after w built out) (sym a.says)

  pub import_stands : take (length built) out' ≡ built
  import_stands = ap (take (length built)) whole ∙ take-append_seam built (drop (length built) out)

  pub import_behind : drop (length built) out' ≡ drop (length built) out
  import_behind = ap (drop (length built)) whole ∙ drop-append_seam built (drop (length built) out)
