-- Theorems of specs/Few.antt, kept here: a wrong definition is refused by them.
use Rattle.std.specs.Prelude.{◌≡◌, Bool, cond, List, ℕ, ◌≤◌, ℤ}
use Rattle.std.proofs.Math.Path.{refl}
use Rattle.std.proofs.Math.Bool.{true, false}
use Rattle.below.specs.Below.{holds_not}
use Rattle.fields.specs.rule.Field.{holds, illegal, members, all_entries, spread_set, spread_field}
use Rattle.sets.specs.rule.Sets.{is_illegal}
use Rattle.few_codes.specs.Few.{is_among, HeldAll, above, members_are, some_held}
use Rattle.commas.specs.rule.Csv.{field_bytes}
use Rattle.commas.specs.Csv.{field_plain}
use Rattle.value_fields.specs.rule.Values.{set_text, export_value, export_field}
use Rattle.value_fields.proofs.Plain.{set_plain}

-- a code is held: those that are, rising
module _ (w n : ℕ) (s m : List ℕ) (few : w ≤ 4) (all : HeldAll w n s m) where
  pub held_text : (ok : ℤ → Bool) (r : ℕ) → 1 ≤ r → is_among r m ≡ true → is_illegal (spread_field ok w n s) ≡ false
      → set_text (above m 0) ≡ field_bytes (export_field 0 (spread_field ok w n s))
  unfolding spread_field is_illegal export_field export_value
  held_text ok r h e good = rw (some_held w n s m few all r h e, ← members_are w n s m few all)
      (go (all_entries ok w n s) (rw (some_held w n s m few all r h e) at good))
    where
      go : (q : Bool) → is_illegal (cond q (holds (members (spread_set w n s))) illegal) ≡ false
          → set_text (spread_set w n s) ≡ field_bytes (export_field 0 (cond q (holds (members (spread_set w n s))) illegal))
      go true g = field_plain (set_text (spread_set w n s)) (set_plain (spread_set w n s))
      go false g = holds_not refl g
