-- WHICH VALUES A ROW TAKES, in the paper's words, both ways: "missing fits every type ..; a number fits SINGLE and QUANTITY, every other
-- kind its own type. .. A number must be legal, a set strictly rising with legal members, a text 1 to w bytes of 32 to 255 with no space
-- at its end." With `named` and `only` of crate `laws` these are refusals 26, 27 and 28 exactly when.
use Rattle.std.specs.Prelude.{◌≡◌, Bool, true, List, [], ◌∷◌, ℕ, ◌-◌, ◌≤◌, ◌<◌, ℤ, length, get_or}
use Rattle.std.specs.Int.Signed.{lt_z}
use Rattle.layout.specs.declared.Kind.{Kind}
use Rattle.layout.specs.declared.Kind.TheVariants.{Single, Multiple, Quantity, Character, Logical}
use Rattle.layout.specs.declared.Spread.{Spread}
use Rattle.layout.specs.declared.Spread.TheVariants.{Fields}
use Rattle.layout.specs.declared.Format.{Format}
use Rattle.layout.specs.declared.Row.{Row}
use Rattle.fields.specs.rule.Legal.{legal}
use Rattle.fields.specs.rule.Field.{Value, missing, number, members, text, truth}
use Rattle.fields.specs.rule.Row.{Fit, fits, other_type, not_legal, too_many}

-- ---- the words
-- strictly rising: each is below the next
pub data Rising : List ℤ → Type 0 where
  none : Rising []
  one : {m : ℤ} → Rising (m ∷ [])
  next : {a b : ℤ} {ms : List ℤ} → lt_z a b ≡ true → Rising (b ∷ ms) → Rising (a ∷ b ∷ ms)

pub data AllLegal (ok : ℤ → Bool) : List ℤ → Type 0 where
  none : AllLegal ok []
  more : {m : ℤ} {ms : List ℤ} → ok m ≡ true → AllLegal ok ms → AllLegal ok (m ∷ ms)

pub record TextFit (w : ℕ) (s : List ℕ) : Type 0 where
  pub some : 1 ≤ length s
  pub fits_width : length s ≤ w
  pub plain : (p : ℕ) → p < length s → 32 ≤ get_or s p 0
  pub no_space : get_or s (length s - 1) 0 ≡ 32 → ⊥

-- what a value is, and what a row takes beside missing: 1 a number, 2 a set, 3 a text, 4 a truth
unfoldable pub sort : Value → ℕ
sort missing = 0
sort (number z) = 1
sort (members ms) = 2
sort (text s) = 3
sort (truth b) = 4

unfoldable pub takes : Kind → ℕ
takes Single = 1
takes (Quantity f) = 1
takes (Multiple s) = 2
takes Character = 3
takes Logical = 4

module _ (t : List ℤ) (v : ℕ) (r : Row) where
  pub data Legal : Kind → Value → Type 0 where
    a_code : {z : ℤ} → legal t v r z ≡ true → Legal Single (number z)
    a_quantity : {f : Format} {z : ℤ} → legal t v r z ≡ true → Legal (Quantity f) (number z)
    a_set : {s : Spread} {ms : List ℤ} → Rising ms → AllLegal (legal t v r) ms → Legal (Multiple s) (members ms)
    a_text : {x : List ℕ} → TextFit r.width x → Legal Character (text x)
    a_truth : {b : Bool} → Legal Logical (truth b)

-- "more members than subfields"
pub data Many : Kind → Value → Type 0 where
  many : {n b : ℕ} {ms : List ℤ} → n < length ms → Many (Multiple (Fields n b)) (members ms)

module _ (t : List ℤ) (v : ℕ) (r : Row) where
  pub data Fitting : Kind → Value → Fit → Type 0 where
    always : {k : Kind} → Fitting k missing fits
    fitting : {k : Kind} {x : Value} → Legal t v r k x → (Many k x → ⊥) → Fitting k x fits
    of_another : {k : Kind} {x : Value} → (sort x ≡ 0 → ⊥) → (takes k ≡ sort x → ⊥) → Fitting k x other_type
    not_legal_lem : {k : Kind} {x : Value} → takes k ≡ sort x → (Legal t v r k x → ⊥) → Fitting k x not_legal
    too_many_lem : {k : Kind} {x : Value} → Legal t v r k x → Many k x → Fitting k x too_many
