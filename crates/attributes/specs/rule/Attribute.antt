-- The next attribute of a tag: white space, name, =, quoted value; or the tag's end. 62 is >, 47 /, 61 =, 34 and 39 quotes, 60 <, 38 &.
use Rattle.std.specs.Prelude.{Option, Some, None}
use Rattle.std.specs.Prelude.{◌≡◌, Bool, true, false, cond, ◌||◌, List, [], ◌∷◌, ◌++◌, ℕ, suc, ◌+◌, ◌-◌, leb, eqb, length, drop, get_or}
use Rattle.scan.specs.rule.Loop.{loop_of}
use Rattle.markup.specs.rule.Bytes.{of_kind, run_of, starts_name, end_fault}
use Rattle.markup.specs.rule.Reference.{reference_of}
use Rattle.markup.specs.rule.Gap.{next_move}
use Rattle.markup.specs.rule.Grammar.{Ref}
use Rattle.markup.specs.declared.Skip.{Skip}
use Rattle.markup.specs.declared.Skip.TheVariants.{Past, Broken}
use Rattle.markup.specs.declared.Move.{Move}
use Rattle.markup.specs.declared.Move.TheVariants.{Go, Stop}
use Rattle.attributes.specs.declared.Attribute.{Attribute}
use Rattle.attributes.specs.declared.Attribute.TheVariants.{One, Shut, Faulty}

-- a reference at p: past it, or 50 at its &
abbrev pub on_value_char : ℕ → Option (ℕ × ℕ) → Move
on_value_char p (Some (c, n)) = Go n
on_value_char p None = Stop (Broken p)

-- one step of a value: the quote that ends it, <, a reference, or any other byte
unfoldable pub value_move : Bool → ℕ → ℕ → List ℕ → ℕ → Move
value_move bad opened quote d p =
    cond (leb (length d) p) (Stop (Broken (end_fault bad p opened)))
    (cond (eqb (get_or d p 0) quote) (Stop (Past p))
    (cond (eqb (get_or d p 0) 60) (Stop (Broken p))
    (cond (eqb (get_or d p 0) 38) (on_value_char p (reference_of p (drop (p + 1) d))) (Go (p + 1)))))

-- the place of the quote that ends a value
unfoldable pub quoted_of : Bool → ℕ → ℕ → List ℕ → ℕ → Skip
quoted_of bad opened quote d p = loop_of (λ p. next_move (value_move bad opened quote d p)) (Past 0) (suc (length d - p)) p

abbrev pub run_at : ℕ → List ℕ → ℕ → ℕ
run_at kind d p = run_of (of_kind kind) p (drop p d)

abbrev pub on_quoted : ℕ → ℕ → ℕ → Skip → Attribute
on_quoted n e v (Past k) = One n e v k (k + 1)
on_quoted n e v (Broken p) = Faulty p

-- a name from n to e; at v a quote is due
unfoldable pub valued_of : Bool → List ℕ → ℕ → ℕ → ℕ → ℕ → Attribute
valued_of bad d opened n e v =
    cond (leb (length d) v) (Faulty (end_fault bad v opened))
    (cond (eqb (get_or d v 0) 34 || eqb (get_or d v 0) 39) (on_quoted n e (v + 1) (quoted_of bad opened (get_or d v 0) d (v + 1)))
    (Faulty v))

-- at m = is due
unfoldable pub equals_of : Bool → List ℕ → ℕ → ℕ → ℕ → ℕ → Attribute
equals_of bad d opened n e m =
    cond (leb (length d) m) (Faulty (end_fault bad m opened))
    (cond (eqb (get_or d m 0) 61) (valued_of bad d opened n e (run_at 0 d (m + 1))) (Faulty m))

unfoldable pub named_of : Bool → List ℕ → ℕ → ℕ → Attribute
named_of bad d opened n = equals_of bad d opened n (run_at 1 d n) (run_at 0 d (run_at 1 d n))

-- / that > has to follow: cut by the file's end it is the tag's fault, by a bad character its own
unfoldable pub slash_of : Bool → List ℕ → ℕ → ℕ → Attribute
slash_of bad d opened n =
    cond (leb (length d) (n + 1)) (Faulty (end_fault bad n opened)) (cond (eqb (get_or d (n + 1) 0) 62) (Shut true n (n + 2)) (Faulty n))

-- white space lies from `at` to n
unfoldable pub behind_of : Bool → List ℕ → ℕ → ℕ → ℕ → Attribute
behind_of bad d opened at n =
    cond (leb (length d) n) (Faulty (end_fault bad n opened))
    (cond (eqb (get_or d n 0) 62) (Shut false n (n + 1))
    (cond (eqb (get_or d n 0) 47) (slash_of bad d opened n)
    (cond (eqb n at) (Faulty n)
    (cond (starts_name (get_or d n 0)) (named_of bad d opened n) (Faulty n)))))

unfoldable pub attribute_of : Bool → List ℕ → ℕ → ℕ → Attribute
attribute_of bad d opened at = behind_of bad d opened at (run_at 0 d at)

-- ---- a value's bytes as XML has them: references, and bytes other than its quote, < and &
pub data AttributeValue (quote : ℕ) : List ℕ → Type 0 where
  empty : AttributeValue quote []
  plain : {b : ℕ} {s : List ℕ} → (b ≡ quote → ⊥) → (b ≡ 60 → ⊥) → (b ≡ 38 → ⊥) → AttributeValue quote s → AttributeValue quote (b ∷ s)
  refer : {c : ℕ} {u s : List ℕ} → Ref u c → AttributeValue quote s → AttributeValue quote (38 ∷ u ++ s)
