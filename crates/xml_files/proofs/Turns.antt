-- One turn by what was found where a variable is due, or the record may end.
use mathlib.Core.Path.{◌≡◌, refl, ◌∙◌, sym, ap}
use mathlib.Core.Bool.{Bool}
use mathlib.Core.List.{List, [], ◌∷◌, ◌++◌}
use Prim.Native.Nat.{ℕ, zero, suc, ◌+◌, ◌*◌, ◌≤◌}
use native.Mathlib.Omega.{arith}
use lib.IntN.{ℤ}
use lib.ListN.{length}
use Rattle.scan.specs.rule.Loop.{Next, Again, Done}
use Rattle.tokens.specs.declared.Fault.{Fault}
use Rattle.tokens.specs.rule.Gap.{fault}
use Rattle.survey.specs.rule.Table.{lines_of}
use Rattle.reading.specs.rule.Result.{Result, Is, Not, Reader, bind}
use Rattle.bridge.specs.Lowest.{never}
use Rattle.xml_reading.specs.rule.Word.{VARIABLE, RECORD}
use Rattle.xml_reading.specs.rule.Open.{start, shut, within_element, due}
use Rattle.xml_reading.specs.rule.Open as rule
use Rattle.xml_reading.specs.rule.Role.{XmlEntry}
use Rattle.xml_reading.specs.rule.Variable.{Manner, variable}
use Rattle.xml_reading.specs.rule.Sheet.{on_open, another_element}
use Rattle.xml_reading.specs.rule.Whole.{columns_for}
use Rattle.laying.specs.declared.Tally.{Tally}
use Rattle.laying.specs.Code.{tally_with}
use Rattle.elements.specs.declared.Open.{Open}
use Rattle.elements.specs.declared.Open.TheVariants as opened
use Rattle.elements.specs.Code.{open_of, Within}
use Rattle.sheets.specs.declared.Entered.{Entered}
use Rattle.sheets.specs.declared.Entered.TheVariants as entered
use Rattle.xml_files.specs.declared.Turn.{Turn}
use Rattle.xml_files.specs.declared.Turn.TheVariants as turns
use Rattle.sheets.specs.Code.{tally_of, Before, entered_of, Joined}
use Rattle.xml_files.specs.Code.{begun_at, Fails, Added, Over, OneMore, Turned}
use Rattle.xml_files.proofs.Begins.{due_bind}

open_start : (x : Result rule.Open) {p e : ℕ} → open_of x ≡ opened.Start p e → x ≡ Is (start p) e
open_start (Is (start q) n) {p} {e} f = let a : q ≡ p = cc in let b : n ≡ e = cc in rw (a, b)
open_start (Is (shut q) n) f = never cc
open_start (Not g) f = never cc

open_shut : (x : Result rule.Open) {p e : ℕ} → open_of x ≡ opened.Shut p e → x ≡ Is (shut p) e
open_shut (Is (shut q) n) {p} {e} f = let a : q ≡ p = cc in let b : n ≡ e = cc in rw (a, b)
open_shut (Is (start q) n) f = never cc
open_shut (Not g) f = never cc

open_not : (x : Result rule.Open) {f : Fault} → open_of x ≡ opened.Not f → x ≡ Not f
open_not (Is (shut q) n) f = never cc
open_not (Is (start q) n) f = never cc
open_not (Not g) {f} e = let a : g ≡ f = cc in ap Not a

-- a start tag lies within the file
pub start_in : (d : List ℕ) (at : ℕ) (x : Open) {p e : ℕ} → Within d at x → x ≡ opened.Start p e → (p + 1 ≤ e) × (e ≤ length d)
start_in d at (opened.Start q n) {p} {e} w s = let a : q ≡ p = cc in let b : n ≡ e = cc in (omega (arith, w.1), omega (arith, w.2))
start_in d at (opened.Shut q n) w s = never cc
start_in d at (opened.Not f) w s = never cc

pub some_rows : (n : ℕ) → (n ≡ 0 → ⊥) → 1 ≤ n
some_rows zero h = absurd (h refl)
some_rows (suc n) h = omega arith

pub another_more : (bad : Bool) (d : List ℕ) (m : Manner) (l : List XmlEntry) (at : ℕ) (v : XmlEntry) (n : ℕ) → Added bad d m l at v n
    → another_element bad d m l at ≡ Is (Again (l ++ v ∷ [])) n
unfolding another_element
another_more bad d m l at v n a =
    rw a.open_is
    (due_bind bad d VARIABLE a.place a.end (variable bad d m l) (λ v k. Is (Again (l ++ v ∷ [])) k)
    ∙ ap (λ (r : Result XmlEntry). bind r (λ v k. Is (Again (l ++ v ∷ [])) k)) a.read)

pub another_over : (bad : Bool) (d : List ℕ) (m : Manner) (l : List XmlEntry) (at n : ℕ) → Over bad d at n → another_element bad d m l at
    ≡ Is (Done l) n
unfolding another_element
another_over bad d m l at n o = rw o.open_is

module _ (bad : Bool) (d : List ℕ) (m : Manner) (at : ℕ) where
  start_fails : (p e : ℕ) (f : Fault) (l : List XmlEntry) → within_element bad d RECORD at ≡ Is (start p) e → begun_at bad d m p e l ≡ Not f
      → Fails bad d m l at f
  unfolding another_element
  start_fails p e f [] o b = rw o b
  start_fails p e f (w ∷ l) o b =
      rw o
      (due_bind bad d VARIABLE p e (variable bad d m (w ∷ l)) (λ v k. Is (Again ((w ∷ l) ++ v ∷ [])) k)
      ∙ ap (λ (r : Result XmlEntry). bind r (λ v k. Is (Again ((w ∷ l) ++ v ∷ [])) k)) b)

  open_fails : (f : Fault) (l : List XmlEntry) → within_element bad d RECORD at ≡ Not f → Fails bad d m l at f
  unfolding another_element
  open_fails f [] o = rw o
  open_fails f (w ∷ l) o = rw o

  module _ (seen : List ℕ) (y : Tally) (rows rows' lines lines' : List ℤ) (x : Open) (found : x ≡ open_of (within_element bad d RECORD at))
    where
      module _ (p e : ℕ) (s : x ≡ opened.Start p e) (r : Entered) (j : Joined d seen y rows rows' lines lines' (begun_at bad d m p e) r)
        where
          one_more : (i : ℕ) (z : Tally) (n : ℕ) → r ≡ entered.Is i z n → (l : List XmlEntry) → Before d seen y rows l
              → OneMore bad d m seen y at rows rows' lines lines' l i z n
          one_more i z n q l b = by (begun_at bad d m p e l) refl (sym (j.is l b) ∙ q) where
            by : (k : Result XmlEntry) → begun_at bad d m p e l ≡ k → entered_of y k ≡ entered.Is i z n
                → OneMore bad d m seen y at rows rows' lines lines' l i z n
            by (Is v o) g h =
                let a : v.variable.ident.value ≡ i = cc in
                let c : tally_with y (columns_for y.lines v) (y.lines + length (lines_of v.variable)) ≡ z = cc in
                let t : o ≡ n = cc in
                record {
                  entry = v;
                  added = record {
                    place = p;
                    end = e;
                    open_is = open_start (within_element bad d RECORD at) (sym found ∙ s);
                    read = g
                        ∙ ap (λ (k : ℕ). Is v k) t;
                  };
                  ident_is = sym a;
                  tally_is = sym c;
                  row_is = j.row l b v o g;
                  line_is = j.line l b v o g;
                }
            by (Not f) g h = never cc

          pub turned_more : (i : ℕ) (z : Tally) (n : ℕ) → r ≡ entered.Is i z n
              → Turned bad d m seen y at rows rows' lines lines' (turns.More i z n)
          turned_more i z n q = record {
            more = λ {i = i₂} {z = z₂} {n = n₂} t l b.
                let u : i ≡ i₂ = cc in
                let v : z ≡ z₂ = cc in
                let w : n ≡ n₂ = cc in
                one_more i₂ z₂ n₂ (q ∙ rw (u, v, w)) l b;
            over = λ t. never cc;
            fails = λ t. never cc;
          }

          pub turned_fails : (f : Fault) → r ≡ entered.Not f → Turned bad d m seen y at rows rows' lines lines' (turns.Not f)
          turned_fails f q = record {
            more = λ t. never cc;
            over = λ t. never cc;
            fails = λ {f = g} t l b. let u : f ≡ g = cc in
                start_fails p e g l (open_start (within_element bad d RECORD at) (sym found ∙ s))
                (by l b (begun_at bad d m p e l) refl (sym (j.is l b) ∙ q) ∙ ap Not u);
          } where
            by : (l : List XmlEntry) → Before d seen y rows l → (k : Result XmlEntry) → begun_at bad d m p e l ≡ k → entered_of y k
                ≡ entered.Not f
                → begun_at bad d m p e l ≡ Not f
            by l b (Is v o) g h = never cc
            by l b (Not k) g h = let a : k ≡ f = cc in g ∙ ap Not a

      pub turned_over : (p n : ℕ) → x ≡ opened.Shut p n → 1 ≤ y.rows → rows' ≡ rows → lines' ≡ lines
          → Turned bad d m seen y at rows rows' lines lines' (turns.Over n)
      turned_over p n s h a b = record {
        more = λ t. never cc;
        over = λ {n = k} t. let u : n ≡ k = cc in (
          h,
          record { place = p; open_is = open_shut (within_element bad d RECORD at) (sym found ∙ s) ∙ ap (λ (k : ℕ). Is (shut p) k) u },
          a,
          b,
        );
        fails = λ t. never cc;
      }

      pub turned_none : (p n : ℕ) → x ≡ opened.Shut p n → y.rows ≡ 0
          → Turned bad d m seen y at rows rows' lines lines' (turns.Not (fault 2 p))
      unfolding tally_of
      turned_none p n s h = record {
        more = λ t. never cc;
        over = λ t. never cc;
        fails = λ {f = g} t l b. let u : fault 2 p ≡ g = cc in none l (sym (ap (λ (z : Tally). z.rows) b.tally) ∙ h) u;
      } where
        none : (l : List XmlEntry) {g : Fault} → length l ≡ 0 → fault 2 p ≡ g → Fails bad d m l at g
        none [] e u = rw (open_shut (within_element bad d RECORD at) (sym found ∙ s)) (ap Not u)
        none (w ∷ l) e u = absurd (omega arith)

      pub turned_not : (f : Fault) → x ≡ opened.Not f → Turned bad d m seen y at rows rows' lines lines' (turns.Not f)
      turned_not f s = record {
        more = λ t. never cc;
        over = λ t. never cc;
        fails = λ {f = g} t l b. let u : f ≡ g = cc in
            open_fails g l (open_not (within_element bad d RECORD at) (sym found ∙ s) ∙ ap Not u);
      }
