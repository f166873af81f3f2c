-- What the code tells at a look of attributes as they usually stand.
use Rattle.std.specs.Prelude.{◌≡◌, Bool, true, List, ℕ, ◌+◌, ◌≤◌, ◌<◌, eqb, length, drop, get_or}
use Rattle.markup.specs.rule.Bytes.{of_kind, starts_name, stands}
use Rattle.markup.specs.rule.Grammar.{Each}
use Rattle.markup.specs.declared.Skip.TheVariants.{Past}
use Rattle.attributes.specs.rule.Attribute.{quoted_of, attribute_of}
use Rattle.attributes.specs.declared.Attribute.TheVariants.{One, Shut}
use Rattle.tags.specs.rule.Tag.{is_named, stretch_fits}
use Rattle.tags.specs.declared.Held.{Held}

-- at p one space, the name w, = and a double quote stand
pub record Usual (d : List ℕ) (p : ℕ) (w : List ℕ) : Type 0 where
  pub within : p + length w + 3 < length d
  pub space : get_or d p 0 ≡ 32
  pub starts : starts_name (get_or d (p + 1) 0) ≡ true
  pub there : stands w (drop (p + 1) d) ≡ true
  pub name : Each (of_kind 1) w
  pub equals : get_or d (p + 1 + length w) 0 ≡ 61
  pub quote : get_or d (p + 2 + length w) 0 ≡ 34

-- from p on a value goes up to the double quote at k
pub record Valued (d : List ℕ) (p k : ℕ) : Type 0 where
  pub ends : (bad : Bool) (opened : ℕ) → quoted_of bad opened 34 d p ≡ Past k
  pub on : p ≤ k
  pub within : k < length d

-- at p the attribute w stands, with a value of that form up to the quote at k
pub record Given (d : List ℕ) (p : ℕ) (w : List ℕ) (form k : ℕ) : Type 0 where
  pub reads : (bad : Bool) (opened : ℕ) → attribute_of bad d opened p ≡ One (p + 1) (p + 1 + length w) (p + length w + 3) k (k + 1)
  pub named : is_named d (p + 1) (p + 1 + length w) w ≡ true
  pub fits : stretch_fits form d (p + length w + 3) k ≡ true
  pub within : k < length d
  pub inside : p + length w + 3 ≤ k

-- at p a tag ends: by one byte, or by two, where it is empty
pub record EndAt (d : List ℕ) (p n : ℕ) : Type 0 where
  pub ends : (bad : Bool) (opened : ℕ) → attribute_of bad d opened p ≡ Shut (eqb n 2) p (p + n)
  pub within : p + n ≤ length d

-- what is held of the first two attributes
abbrev pub holding : ℕ → ℕ → ℕ → ℕ → ℕ → Held
holding a ae b be n = record { a = a; ae = ae; b = b; be = be; c = 0; ce = 0; third = 0; unknown = 0; next = n }
