-- The quick road: what it leaves, and numbers that stand as export writes them, read in one walk.
use Rattle.std.specs.Prelude.{◌≡◌, refl, Bool, true, false, List, [], ℕ, ◌-◌, ℤ, length, take}
use Rattle.std.proofs.Math.Path.{sym}
use Rattle.std.proofs.Common.{◌∙◌, arith, take_all}
use Rattle.below.specs.Below.{holds_not}
use Rattle.layout.specs.declared.Row.{Row}
use Rattle.layout.specs.declared.Kind.{Kind}
use Rattle.layout.specs.declared.Kind.TheVariants.{Multiple}
use Rattle.layout.specs.declared.Spread.{Spread}
use Rattle.fields.specs.rule.Field.{Field, holds, illegal}
use Rattle.writes.specs.Write.{Ready, WrittenBy, takes_numbers}
use Rattle.writes.specs.rule.Write.{lent_value}
use Rattle.writes.specs.declared.Value as given
use Rattle.writes.specs.declared.Value.TheVariants.{Number, Set}
use Rattle.writes.specs.declared.Wrote.{Wrote}
use Rattle.value_fields.specs.rule.Values.{export_number}
use Rattle.widths.specs.rule.Width.{decimals_of}
use Rattle.number_fields.specs.Reads.{reads_part, NumberAt}
use Rattle.field_values.specs.rule.Value.{whole}
use Rattle.field_values.specs.rule.Read.{value_from, number_guess}
use Rattle.field_values.specs.Left.{is_left}
use Rattle.field_values.specs.Guess.{number_left}
use Rattle.field_values.specs.Coded.{Coded, coded_guess, coded_left}
use Rattle.field_values.specs.Steps.{is_held, took_by, Took, is_done, wrote, number_is, number_left_is, set_is, set_left_is}

-- the value is written, or the record is kept
pub record Quick (t : List ℤ) (v : ℕ) (r : Row) (f old new : List ℕ) (b : Bool) : Type 0 where
  pub taken : b ≡ true → Took t v r f old new true
  pub kept : b ≡ false → new ≡ old

pub quick_none : (t : List ℤ) (v : ℕ) (r : Row) (f old : List ℕ) → Quick t v r f old old false
quick_none t v r f old = record { taken = λ e. holds_not e refl; kept = λ e. refl }

pub quick_took : {t : List ℤ} {v : ℕ} {r : Row} {f old new : List ℕ} {b : Bool} → Took t v r f old new b → Quick t v r f old new b
unfolding is_held took_by
quick_took {t} {v} {r} {f} {old} {new} {b} k =
    record { taken = λ e. rw e at k; kept = λ e. k.leaves ∙ none (value_from t v r f) (sym e ∙ k.says) }
  where
    none : (x : Field) → false ≡ is_held x → took_by t v r x old ≡ old
    none (holds x) h = holds_not refl (sym h)
    none illegal h = refl

-- the record was kept before
pub took_old : {t : List ℤ} {v : ℕ} {r : Row} {f old old' new : List ℕ} {b : Bool} → old ≡ old' → Took t v r f old new b
    → Took t v r f old' new b
took_old e k = rw e at k

-- ---- the kind of a row, once it is known
pub ready_as : {k k' : Kind} {t : List ℤ} {v n : ℕ} {r : Row} → k ≡ k' → Ready k t v n r → Ready k' t v n r
ready_as e h = rw e at h

pub written_as : {k k' : Kind} {t : List ℤ} {v : ℕ} {r : Row} {value : given.Value} {list : List ℤ} {text : List ℕ} {old new : List ℕ}
    {a : Wrote} → k ≡ k' → WrittenBy k' t v r value list text old new a → WrittenBy k t v r value list text old new a
written_as e w = rw e w

-- ---- a number that a whole field is
pub number_whole : {k : ℕ} {f : List ℕ} {z : ℤ} {to : ℕ} → NumberAt k f 0 z to → (length f ≡ 0 → ⊥) → to ≡ length f → export_number k z ≡ f
number_whole {k} {f} {z} {to} n some e =
    reads_part (n.reads (λ w. some (sym e ∙ w))) ∙ take_all (to - 0) f (omega arith)

-- ---- what was read and written
module _ {t : List ℤ} {v : ℕ} {r : Row} {f old new : List ℕ} (some : length f ≡ 0 → ⊥) where
  pub number_quick : {k : ℕ} {z : ℤ} {to : ℕ} {a : Wrote} {b : Bool} → takes_numbers r.kind ≡ true → k ≡ decimals_of r.kind
      → NumberAt k f 0 z to → to ≡ length f → WrittenBy r.kind t v r (Number z) [] [] old new a → b ≡ is_done a
      → Quick t v r f old new b
  unfolding lent_value
  number_quick {k} {z} takes is n e w d =
      let text = number_whole n some e in
      let g : z ≡ number_guess k f = sym (number_left k z f n.few (whole text)).guess in
      quick_took (wrote (number_is r f some takes is g)
      (number_left_is r f some takes is g (sym text) (sym (is_left k f f (whole refl)))) w d)

  pub set_quick : {s : Spread} {list : List ℤ} {n : ℕ} {text : List ℕ} {a : Wrote} {b : Bool} → r.kind ≡ Multiple s → Coded f list n
      → (n ≡ 0 → ⊥) → WrittenBy r.kind t v r Set (take n list) text old new a → b ≡ is_done a → Quick t v r f old new b
  unfolding lent_value
  set_quick kind c z w d =
      quick_took (wrote (set_is r f some kind (coded_guess c z))
      (set_left_is r f some kind (coded_guess c z) (sym (c.text z)) (coded_left c z))
      w d)
