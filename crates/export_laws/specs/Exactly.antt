-- EXACT REFUSALS of an export, one outcome, and what the output then holds.
-- Assumes nothing.
use Rattle.std.specs.Prelude.{◌≡◌, Bool, cond, List, [], ◌∷◌, ◌++◌, ℕ, ℤ, length, take, drop}
use Rattle.std.proofs.Math.Path.{refl, ap}
use Rattle.std.proofs.Common.{sym, ◌∙◌, arith}
use Rattle.std.proofs.Math.Bool.{true, false}
use borrow.Author.Tests.{leb-true, leb-false, le-leb, lt-leb}
use Rattle.std.proofs.Math.Dec.{leb}
use Rattle.sound.specs.rule.Sound.{well_formed}
use Rattle.files.specs.rule.File.{FileVerdict, file_verdict}
use Rattle.kinds.specs.rule.Against.{yields}
use Rattle.exports.specs.rule.Text.{export_text, ExportVerdict, refused, written, fitted, export_after}
use Rattle.exports.specs.rule.Export.{export_verdict, Exported}
use Rattle.export_laws.specs.rule.Exactly.{ExportOutcome, bad_table_lem, other_table, short_room, all_written}

-- ---- one outcome: answer and output
pub export_one : {def : List ℕ} {t : List ℤ} {d out o₁ o₂ : List ℕ} {v₁ v₂ : ExportVerdict}
    → Exported def t d out o₁ v₁ → Exported def t d out o₂ v₂ → (v₁ ≡ v₂) × (o₁ ≡ o₂)
export_one a b = (a.says ∙ sym b.says, a.leaves ∙ sym b.leaves)

module _ (def : List ℕ) (t : List ℤ) (d : List ℕ) (room : ℕ) where
  abbrev size : ℕ
  size = length (export_text def t d)

  -- ---- each answer only where what it says is so
  pub export_named : ExportOutcome def t d room (export_verdict def t d room)
  unfolding export_verdict fitted
  export_named = go (well_formed t) (yields def t) (leb size room) refl refl refl
    where
      go : (x y z : Bool) → well_formed t ≡ x → yields def t ≡ y → leb size room ≡ z
          → ExportOutcome def t d room (cond x (cond y (cond z (written (file_verdict t d) size) (refused 60)) (refused 40)) (refused 20))
      go false y z p q r = bad_table_lem p
      go true false z p q r = other_table p q
      go true true false p q r = short_room p q (leb-false size room r)
      go true true true p q r = all_written p q (leb-true size room r)

  -- ---- and wherever it is
  pub export_only : {v : ExportVerdict} → ExportOutcome def t d room v → export_verdict def t d room ≡ v
  unfolding export_verdict fitted
  export_only (bad_table_lem p) = rw p
  export_only (other_table p q) = rw (p, q)
  export_only (short_room p q l) = rw (p, q, lt-leb size room l)
  export_only (all_written p q l) = rw (p, q, le-leb size room l)

-- ---- THE FAULT IS judge_file's: what an export that wrote says of the data is what judging them says
pub export_judged : {def : List ℕ} {t : List ℤ} {d out out' : List ℕ} {v : FileVerdict} {n : ℕ} → Exported def t d out out' (written v n)
    → v ≡ file_verdict t d
export_judged {def} {t} {d} {out} {v = v} {n = n} a = go (export_named def t d (length out)) a.says
  where
    go : {w : ExportVerdict} → ExportOutcome def t d (length out) w → written v n ≡ w → v ≡ file_verdict t d
    go (bad_table_lem p) e = let z : ◌≡◌ {A = ℕ} 0 1 = cc in absurd (omega arith)
    go (other_table p q) e = let z : ◌≡◌ {A = ℕ} 0 1 = cc in absurd (omega arith)
    go (short_room p q l) e = let z : ◌≡◌ {A = ℕ} 0 1 = cc in absurd (omega arith)
    go (all_written p q l) e = cc

take_front : (s u : List ℕ) → take (length s) (s ++ u) ≡ s
take_front [] u = refl
take_front (b ∷ s) u = ap (λ (l : List ℕ). b ∷ l) (take_front s u)

drop_front : (s u : List ℕ) → drop (length s) (s ++ u) ≡ u
drop_front [] u = refl
drop_front (b ∷ s) u = drop_front s u

-- ---- THE OUTPUT: kept whole by a refusal; else the text, and behind it what stood there
pub export_kept : {def : List ℕ} {t : List ℤ} {d out out' : List ℕ} {k : ℕ} → Exported def t d out out' (refused k) → out' ≡ out
unfolding export_after
export_kept {def} {t} {d} {out} a = a.leaves ∙ ap (λ v. export_after v (export_text def t d) out) (sym a.says)

module _ {def : List ℕ} {t : List ℤ} {d out out' : List ℕ} {v : FileVerdict} {n : ℕ} (a : Exported def t d out out' (written v n)) where
  whole : out' ≡ export_text def t d ++ drop (length (export_text def t d)) out
  unfolding export_after
  whole = a.leaves ∙ ap (λ w. export_after w (export_text def t d) out) (sym a.says)

  pub export_stands : take (length (export_text def t d)) out' ≡ export_text def t d
  export_stands = ap (take (length (export_text def t d))) whole ∙ take_front (export_text def t d) _

  pub export_behind : drop (length (export_text def t d)) out' ≡ drop (length (export_text def t d)) out
  export_behind = ap (drop (length (export_text def t d))) whole ∙ drop_front (export_text def t d) _
