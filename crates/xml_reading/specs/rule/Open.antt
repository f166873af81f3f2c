-- "Where something is due and something else stands: 50 if XML itself is broken there; 51 if a start tag or an attribute stands there that
-- is
-- not the one due; 2 if anything else does (an end tag, text, a tag's end, a value of wrong form)." "A start tag that may not stand there
-- ..
-- is read for its form only (50 first)." "An end tag where something is due is read whole first; of another name: 50 at its `<`."
-- d is the file up to its first character that is not legal; `bad` says that there is one.
use Rattle.std.specs.Prelude.{Bool, cond, not, List, [], ◌∷◌, ℕ, ◌+◌, eqb}
use Rattle.markup.specs.declared.Skip.{Skip}
use Rattle.markup.specs.declared.Skip.TheVariants as skip
use Rattle.tags.specs.rule.Tag.{is_named}
use Rattle.tags.specs.declared.Held.{Held}
use Rattle.tags.specs.declared.Tag.{Tag}
use Rattle.tags.specs.declared.Tag.TheVariants as tag
use Rattle.pairs.specs.rule.Stand.{stand_of, shut_of, bare_of}
use Rattle.pairs.specs.rule.Pair.{pair_of}
use Rattle.pairs.specs.declared.Stand.{Stand}
use Rattle.pairs.specs.declared.Stand.TheVariants as stand
use Rattle.pairs.specs.declared.Pair.{Pair}
use Rattle.pairs.specs.declared.Pair.TheVariants as pair
use Rattle.tokens.specs.rule.Gap.{fault}
use Rattle.reading.specs.rule.Result.{Result, Is, Not, Reader, bind}
use Rattle.reading.specs.rule.Least.{Charge, ◌when◌, judged}

-- what stands inside an element where a tag is due: a start tag whose < stands at p, read up to the end of its name; or the end tag of the
-- element around, whose < stands at p, read whole
pub data Open : Type 0 where
  start : ℕ → Open
  shut : ℕ → Open

abbrev pub on_shut : ℕ → Skip → Result Open
on_shut p (skip.Past n) = Is (shut p) n
on_shut p (skip.Broken q) = Not (fault 50 q)

-- 51 at p, where 0 says that there is none
abbrev pub unknown_at : ℕ → Charge
unknown_at p = fault 51 p when not (eqb p 0)

module _ (bad : Bool) (d : List ℕ) where
  abbrev pub opened : List ℕ → Stand → Result Open
  opened w (stand.Start p e) = Is (start p) e
  opened w (stand.Close p e) = on_shut p (shut_of bad d p e w)
  opened w (stand.Foreign p) = Not (fault 51 p)
  opened w (stand.Text p) = Not (fault 2 p)
  opened w (stand.Broken p) = Not (fault 50 p)

  -- inside an element w
  unfoldable pub within_element : List ℕ → Reader Open
  within_element w n = opened w (stand_of bad d n)

  abbrev pub on_bare : {A : Type 0} → ℕ → Tag → Result A
  on_bare p (tag.Read h empty q n) = Not (fault 51 p)
  on_bare p (tag.Fault k q) = Not (fault k q)

  -- the start tag may not stand there
  abbrev pub misplaced : {A : Type 0} → ℕ → Reader A
  misplaced p e = on_bare p (bare_of bad d p e)

  -- the start tag of an element w, and k behind its name; or else q
  abbrev pub either_element : {A : Type 0} → List ℕ → Open → (ℕ → Reader A) → Reader A → Reader A
  either_element w (start p) k q n = cond (is_named d (p + 1) n w) (k p n) (q n)
  either_element w (shut p) k q n = q n

  -- something else was due
  abbrev pub refuse : {A : Type 0} → Open → Reader A
  refuse (start p) n = misplaced p n
  refuse (shut p) n = Not (fault 2 p)

  abbrev pub due : {A : Type 0} → List ℕ → Open → (ℕ → Reader A) → Reader A
  due w o k = either_element w o k (refuse o)

  -- the end tag of the element around
  abbrev pub over : Open → Reader Unit
  over (start p) n = misplaced p n
  over (shut p) n = Is tt n

  -- a start tag that was read: its attributes, whether it is `/>`, the place of its end; and then k from behind it
  abbrev pub on_tag : {A : Type 0} → Tag → (Held → Bool → ℕ → Reader A) → Result A
  on_tag (tag.Read h empty p n) k = k h empty p n
  on_tag (tag.Fault number p) k = Not (fault number p)

  -- what follows the start tag of an element w that holds nothing: what cuts it is 51
  abbrev pub on_pair : Pair → Result (List Charge)
  on_pair (pair.Past n) = Is [] n
  on_pair (pair.Cut p) = Is (unknown_at p ∷ []) p
  on_pair (pair.Fault number p) = Not (fault number p)

  unfoldable pub nothing : List ℕ → Bool → Reader (List Charge)
  nothing w empty n = cond empty (Is [] n) (on_pair (pair_of bad d n w))

  -- a start tag alone, that is a statement: its charges; then 2 at its `/>`, since something was due inside
  abbrev pub entered : {A : Type 0} → List Charge → A → Bool → ℕ → Reader A
  entered l a empty p n = bind (judged l a n) (λ a m. cond empty (Not (fault 2 p)) (Is a m))

  abbrev pub enter : List Charge → Bool → ℕ → Reader Unit
  enter l empty p = entered l tt empty p
