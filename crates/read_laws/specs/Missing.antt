-- "All value places spaces: missing, for every type".
use Rattle.std.specs.Prelude.{◌≡◌, List, ℕ, ℤ}
use Rattle.layout.specs.declared.Spread.TheVariants.{Bits, Fields}
use Rattle.layout.specs.declared.Kind.{Kind}
use Rattle.layout.specs.declared.Kind.TheVariants.{Single, Multiple, Quantity, Character, Logical}
use Rattle.layout.specs.declared.Row.{Row}
use Rattle.fields.specs.rule.Number.{code_of, code_after, quantity_of, quantity_after}
use Rattle.fields.specs.rule.Field.{missing, holds, single_says, quantity_says, bits_field, spread_field, text_field, truth_field}
use Rattle.fields.specs.rule.Row.{field_by}
use Rattle.read_laws.specs.rule.Forms.{Spaces}
use Rattle.read_laws.specs.Forms.{spaces_all, all_gap}

-- ---- spaces read as missing, for every kind
pub spaces_missing : (k : Kind) (t : List ℤ) (v : ℕ) (r : Row) (s : List ℕ) → Spaces s → field_by k t v r s ≡ holds missing
unfolding field_by single_says quantity_says code_of code_after quantity_of quantity_after bits_field spread_field text_field truth_field
spaces_missing Single t v r s a = rw (all_gap a)
spaces_missing (Multiple Bits) t v r s a = rw (spaces_all a)
spaces_missing (Multiple (Fields n b)) t v r s a = rw (spaces_all a)
spaces_missing (Quantity f) t v r s a = rw (all_gap a)
spaces_missing Character t v r s a = rw (spaces_all a)
spaces_missing Logical t v r s a = rw (spaces_all a)
