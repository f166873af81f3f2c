-- What is answered where a tag is due, for whatever reader goes on behind it.
use mathlib.Core.Path.{◌≡◌, refl}
use mathlib.Core.Bool.{Bool, true, false, cond}
use mathlib.Core.List.{List}
use Prim.Native.Nat.{ℕ, ◌+◌}
use Rattle.tags.specs.rule.Tag.{is_named}
use Rattle.tags.specs.declared.Tag.{Tag}
use Rattle.tags.specs.declared.Tag.TheVariants as tag
use Rattle.pairs.specs.rule.Stand.{bare_of}
use Rattle.reading.specs.rule.Result.{Result, Is, Not, Reader, bind, give}
use Rattle.xml_reading.specs.rule.Open as rule
use Rattle.elements.specs.declared.Open.{Open}
use Rattle.elements.specs.declared.Open.TheVariants as opened
use Rattle.elements.specs.Code.{open_of, read_of, blamed, starts_of, due_of, due_read}

-- a map and its way back
pub read_open : (r : Result rule.Open) → read_of (open_of r) ≡ r
read_open (Is (rule.start p) e) = refl
read_open (Is (rule.shut p) n) = refl
read_open (Not f) = refl

pub read_due : (r : Result ℕ) → due_read (due_of r) ≡ r
read_due (Is p e) = refl
read_due (Not f) = refl

module _ (bad : Bool) (d : List ℕ) where
  -- a start tag that may not stand there is refused, whatever was due
  pub missed : {A : Type 0} (p e : ℕ) → rule.misplaced bad d {A = A} p e ≡ Not (blamed {A = Unit} (rule.misplaced bad d p e))
  missed {A} p e = by (bare_of bad d p e) where
    by : (t : Tag) → rule.on_bare bad d {A = A} p t ≡ Not (blamed {A = Unit} (rule.on_bare bad d p t))
    by (tag.Read h em q n) = refl
    by (tag.Fault k q) = refl

  -- DUE: the reader k behind the tag that is due goes on from what `tag_due` answers
  pub due_then : {A : Type 0} (w : List ℕ) (o : Open) (k : ℕ → Reader A)
      → bind (read_of o) (λ x. rule.due bad d w x k) ≡ bind (due_read (due_of (bind (read_of o) λ x. rule.due bad d w x give))) k
  due_then {A} w (opened.Start p e) k = by (is_named d (p + 1) e w) where
    by : (q : Bool) → cond q (k p e) (rule.misplaced bad d {A = A} p e)
        ≡ bind (due_read (due_of (cond q (give p e) (rule.misplaced bad d p e)))) k
    by true = refl
    by false = rw (missed {A = A} p e, missed {A = ℕ} p e)
  due_then w (opened.Shut p n) k = refl
  due_then w (opened.Not f) k = refl

  -- EITHER: and where another thing may stand, by `is_start`
  pub either_then : {A : Type 0} (w : List ℕ) (o : Open) (k : ℕ → Reader A) (q : rule.Open → Reader A)
      → bind (read_of o) (λ x. rule.either_element bad d w x k (q x))
      ≡ cond (starts_of d o w) (bind (read_of o) λ x. rule.either_element bad d w x k (q x)) (bind (read_of o) q)
  either_then w (opened.Start p e) k q = by (is_named d (p + 1) e w) where
    by : (b : Bool) → cond b (k p e) (q (rule.start p) e) ≡ cond b (cond b (k p e) (q (rule.start p) e)) (q (rule.start p) e)
    by true = refl
    by false = refl
  either_then w (opened.Shut p n) k q = refl
  either_then w (opened.Not f) k q = refl
