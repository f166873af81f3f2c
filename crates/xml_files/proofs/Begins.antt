-- A start tag where a variable is due: its own, or another, which is refused; what then reads on.
use mathlib.Core.Path.{◌≡◌, refl, ◌∙◌, sym, ap}
use mathlib.Core.Bool.{Bool, true, false, cond}
use mathlib.Core.List.{List}
use Prim.Native.Nat.{ℕ, ◌+◌, ◌≤◌}
use lib.IntN.{ℤ}
use Rattle.tags.specs.rule.Tag.{is_named}
use Rattle.tokens.specs.declared.Fault.{Fault}
use Rattle.reading.specs.rule.Result.{Result, Is, Not, Reader, bind}
use Rattle.bridge.specs.Lowest.{never}
use Rattle.xml_reading.specs.rule.Word.{VARIABLE}
use Rattle.xml_reading.specs.rule.Open.{start, misplaced, due}
use Rattle.xml_reading.specs.rule.Role.{XmlEntry}
use Rattle.xml_reading.specs.rule.Variable.{Manner, variable}
use Rattle.laying.specs.declared.Tally.{Tally}
use Rattle.elements.specs.Code.{blamed}
use Rattle.elements.proofs.Dues.{missed}
use Rattle.sheets.specs.declared.Entered.{Entered}
use Rattle.sheets.specs.declared.Entered.TheVariants as entered
use Rattle.sheets.specs.Code.{Before, entered_of, Joined}
use Rattle.xml_files.specs.Code.{begun_at}

-- what is read behind the tag that is due, and something behind that
pub due_bind : {A B : Type 0} (bad : Bool) (d w : List ℕ) (p e : ℕ) (k : ℕ → Reader A) (g : A → Reader B)
    → due bad d w (start p) (λ q n. bind (k q n) g) e ≡ bind (due bad d w (start p) k e) g
due_bind {A} {B} bad d w p e k g = by (is_named d (p + 1) e w) where
  by : (q : Bool) → cond q (bind (k p e) g) (misplaced bad d {A = B} p e) ≡ bind (cond q (k p e) (misplaced bad d {A = A} p e)) g
  by true = refl
  by false = rw (missed bad d {A = A} p e, missed bad d {A = B} p e)

module _ (bad : Bool) (d : List ℕ) (m : Manner) (p e : ℕ) (l : List XmlEntry) where
  begun_named : is_named d (p + 1) e VARIABLE ≡ true → begun_at bad d m p e l ≡ variable bad d m l p e
  begun_named q = rw q

  begun_other : is_named d (p + 1) e VARIABLE ≡ false → begun_at bad d m p e l ≡ Not (blamed {A = Unit} (misplaced bad d p e))
  begun_other q = rw q (missed bad d {A = XmlEntry} p e)

module _ (bad : Bool) (d : List ℕ) (m : Manner) (p e : ℕ) (seen : List ℕ) (y : Tally) (rows rows' lines lines' : List ℤ) where
  pub joined_named : (q : Bool) (r : Entered) → q ≡ is_named d (p + 1) e VARIABLE → q ≡ true
      → Joined d seen y rows rows' lines lines' (λ l. variable bad d m l p e) r
      → Joined d seen y rows rows' lines lines' (begun_at bad d m p e) r
  joined_named q r i t j = record {
    is = λ l b. j.is l b ∙ ap (entered_of y) (sym (begun_named bad d m p e l (sym i ∙ t)));
    row = λ l b v n o. j.row l b v n (sym (begun_named bad d m p e l (sym i ∙ t)) ∙ o);
    line = λ l b v n o. j.line l b v n (sym (begun_named bad d m p e l (sym i ∙ t)) ∙ o);
  }

  pub joined_other : (q : Bool) (f : Fault) → q ≡ is_named d (p + 1) e VARIABLE → q ≡ false → f ≡ blamed {A = Unit} (misplaced bad d p e)
      → Joined d seen y rows rows' lines lines' (begun_at bad d m p e) (entered.Not f)
  joined_other q f i t g = record {
    is = λ l b. ap entered.Not g ∙ ap (entered_of y) (sym (begun_other bad d m p e l (sym i ∙ t)));
    row = λ l b v n o. let z = sym (begun_other bad d m p e l (sym i ∙ t)) ∙ o in never cc;
    line = λ l b v n o. let z = sym (begun_other bad d m p e l (sym i ∙ t)) ∙ o in never cc;
  }
