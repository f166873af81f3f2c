-- VARIABLE id and TYPE; and what stands behind the position, by type.
use Rattle.std.specs.Prelude.{◌≡◌, Bool, ◌||◌, List, ℕ, ◌<◌, leb, length, Ok, Err}
use Rattle.std.proofs.Math.Path.{refl}
use Rattle.std.proofs.Common.{◌∙◌, arith, le-leb, lt-ltb, le-ltb, ltb-false}
use Rattle.std.proofs.Math.Bool.{true, false, cond}
use Rattle.std.proofs.Math.Dec.{eqb, ltb}
use Rattle.scan.specs.Number.{capped}
use Rattle.scan.specs.rule.Word.{word_at}
use Rattle.scan.specs.declared.Word.{Word}
use Rattle.scan.specs.declared.Word.TheVariants as spelled
use Rattle.tokens.specs.declared.Fault.{Fault}
use Rattle.tokens.specs.rule.Gap.{fault, gap_at, OrFault}
use Rattle.tokens.specs.declared.Figures.{Figures}
use Rattle.tokens.specs.Gap.{gap_on}
use Rattle.tokens.specs.Token.{of_word, word_here, of_choice, choice_of, number_on}
use Rattle.statements.specs.rule.Words.{VARIABLE, TYPE, SINGLE, MULTIPLE, QUANTITY, CHARACTER, LOGICAL}
use Rattle.statements.specs.Kinds.{or, last, type_here, type_on}
use Rattle.statements.specs.declared.Typed.{Typed}
use Rattle.statements.specs.declared.Typed.TheVariants as typed
use Rattle.variables.specs.Ident.{wrong_ident, judge_ident, ident_on}
use Rattle.survey.specs.rule.Survey.{Figure, Variable}
use Rattle.survey.specs.rule.Width.{some_of}
use Rattle.reading.specs.rule.Result.{Result, Is, Not, Reader, bind, give, due}
use Rattle.reading.specs.rule.Least.{goes_before, judged}
use Rattle.reading.specs.rule.Token.{passed, on_word, gap, either, number}
use Rattle.reading.specs.rule.Statement.{statement}
use Rattle.reading.specs.rule.Variable.{ident_charges, Sort, Single, Multiple, Quantity, Character, Logical, ident, type}
use Rattle.bridge.specs.Lowest.{chain, rising, chain_least, clear, Judged, fine, faulty, judged_view}
use Rattle.bridge.specs.Facts.{Told, told, untold, number_told}
use Rattle.bridge.specs.Tokens.{to_reading, to_number, number_on_lem}
use Rattle.bridge.specs.Notes.{statement_on_lem}

-- ---- TYPE
abbrev pub kind_of : Sort → ℕ
kind_of Single = 1
kind_of Multiple = 2
kind_of Quantity = 3
kind_of Character = 4
kind_of Logical = 5

abbrev pub to_typed : Result Sort → Typed
to_typed (Is s n) = typed.Is (kind_of s) n
to_typed (Not f) = typed.Not f

module _ (d : List ℕ) where
  -- the five words, right here
  abbrev five : Reader Sort
  five = either d SINGLE (give Single)
      (either d MULTIPLE (give Multiple)
      (either d QUANTITY (give Quantity) (either d CHARACTER (give Character) (either d LOGICAL (give Logical) due))))

  or_word : (n : ℕ) (x : Word) (s : Sort) (z : Typed) (q : Reader Sort) → z ≡ to_typed (q n)
      → or (of_choice x) (kind_of s) z ≡ to_typed (on_word (λ m. Is s m) q n x)
  or_word n (spelled.Matched m) s z q e = refl
  or_word n spelled.Not s z q e = e

  last_word : (n : ℕ) (x : Word) → last (of_word n x) 5 ≡ to_typed (on_word (λ m. Is Logical m) (λ n. Not (fault 2 n)) n x)
  last_word n (spelled.Matched m) = refl
  last_word n spelled.Not = refl

  type_here_lem : (n : ℕ) → type_here d (Ok n) ≡ to_typed (five n)
  unfolding type_here choice_of word_here
  type_here_lem n =
      or_word n (word_at d n SINGLE) Single _
      (either d MULTIPLE (give Multiple)
      (either d QUANTITY (give Quantity) (either d CHARACTER (give Character) (either d LOGICAL (give Logical) due))))
      (or_word n (word_at d n MULTIPLE) Multiple _
      (either d QUANTITY (give Quantity) (either d CHARACTER (give Character) (either d LOGICAL (give Logical) due)))
      (or_word n (word_at d n QUANTITY) Quantity _ (either d CHARACTER (give Character) (either d LOGICAL (give Logical) due))
      (or_word n (word_at d n CHARACTER) Character _ (either d LOGICAL (give Logical) due)
      (last_word n (word_at d n LOGICAL)))))

  type_refused : (f : Fault) → type_here d (Err f) ≡ typed.Not f
  unfolding type_here choice_of word_here
  type_refused f = refl

  pub type_on_lem : {A : Type 0} (r : Result A) → type_on d (to_reading r) ≡ to_typed (bind r λ a. type d)
  unfolding type_on type gap_on
  type_on_lem (Is a n) = rw (statement_on_lem d (Is a n) TYPE) (by (statement d TYPE n)) where
    at : (t : OrFault ℕ) → type_here d t ≡ to_typed (bind (passed t) λ a. five)
    at (Ok m) = type_here_lem m
    at (Err f) = type_refused f

    by : (s : Result Unit) → type_here d (gap_on d (to_reading s)) ≡ to_typed (bind s λ a n. bind (gap d n) λ a. five)
    by (Is a k) = at (gap_at d k)
    by (Not f) = type_refused f
  type_on_lem (Not f) = rw (statement_on_lem d {A = ℕ} (Not f) TYPE) (type_refused f)

  -- ---- VARIABLE id, behind variables whose idents `met` knows
  module _ (met : ℕ → Bool) (earlier : List Variable) (knows : (n : ℕ) → met n ≡ some_of (λ v. eqb v.ident.value n) earlier) where
    small_value : (v : ℕ) → v < 10000 → capped v ≡ v
    small_value v h = rw (le-ltb 1000000000000000 v (omega arith))

    one_of : {A : Type 0} (p q : Bool) (a b : A) → cond (p || q) a b ≡ cond p a (cond q a b)
    one_of true q a b = refl
    one_of false true a b = refl
    one_of false false a b = refl

    ident_least : {k : ℕ} (r : Result Figure) → Told d k r
        → judge_ident met (length earlier) (to_number r) ≡ to_number (bind r λ n. judged (ident_charges earlier n) n)
    unfolding judge_ident wrong_ident chain ident_charges rising goes_before
    ident_least (Is x m) (told k) =
        by (ltb 4 x.digits) refl
        ∙ chain_least to_number x m (ident_charges earlier x) (rw (le-leb x.place x.place (omega arith))) where
          by : (q : Bool) → ltb 4 x.digits ≡ q
              → judge_ident met (length earlier) (to_number (Is x m)) ≡ chain Err (to_number (Is x m)) (ident_charges earlier x)
          by true e = rw e (over (eqb x.value 0)) where
            over : (z : Bool) → ◌≡◌ {A = OrFault Figures} (Err (fault 5 x.place)) (cond z (Err (fault 5 x.place)) (Err (fault 5 x.place)))
            over true = refl
            over false = refl
          by false e =
              let s = k.few (ltb-false 4 x.digits e) in
              rw (e, small_value x.value s)
              (rw (lt-ltb x.value 10000 s, knows x.value)
              (one_of (eqb x.value 0) (some_of (λ v. eqb v.ident.value x.value) earlier) (Err (fault 5 x.place))
              (cond (leb 512 (length earlier)) (Err (fault 8 x.place))
              (Ok (record { size = x.value; count = x.digits; place = x.place; next = m })))))
    ident_least (Not f) untold = refl

    pub ident_on_lem : {A : Type 0} (r : Result A) → ident_on d (to_reading r) met (length earlier)
        ≡ to_number (bind r λ a. ident d earlier)
    unfolding ident_on ident
    ident_on_lem (Is a n) = rw (statement_on_lem d (Is a n) VARIABLE) (by (statement d VARIABLE n)) where
      by : (s : Result Unit) → judge_ident met (length earlier) (number_on d (to_reading s)) ≡ to_number
          (bind s λ a n. bind (number d n) λ n. judged (ident_charges earlier n) n)
      by (Is a k) = rw (number_on_lem d (Is a k)) (ident_least (number d k) (number_told d k))
      by (Not f) = rw (number_on_lem d {A = ℕ} (Not f)) (ident_least {k = 0} (Not f) untold)
    ident_on_lem (Not f) = rw (statement_on_lem d {A = ℕ} (Not f) VARIABLE)
        (rw (number_on_lem d {A = ℕ} (Not f)) (ident_least {k = 0} (Not f) untold))

-- ---- an ident that was read is below the cap
pub data Small : Result Figure → Type 0 where
  small : {x : Figure} {m : ℕ} → capped x.value ≡ x.value → Small (Is x m)
  unread : {f : Fault} → Small (Not f)

pub ident_small : (d : List ℕ) (earlier : List Variable) (n : ℕ) → Small (ident d earlier n)
unfolding ident ident_charges
ident_small d earlier n = by (statement d VARIABLE n) where
  judge : {k : ℕ} (r : Result Figure) → Told d k r → Small (bind r λ n. judged (ident_charges earlier n) n)
  judge (Is x m) (told k) = on (judged_view (ident_charges earlier x) x m) where
    on : {q : Result Figure} → Judged (ident_charges earlier x) x m q → Small q
    on (fine (clear a (clear b c))) = let h =
        k.few (ltb-false 4 x.digits b) in small {x = x} {m = m} (rw (le-ltb 1000000000000000 x.value (omega arith)))
    on faulty = unread
  judge (Not f) untold = unread

  by : (s : Result Unit) → Small (bind s λ a n. bind (number d n) λ n. judged (ident_charges earlier n) n)
  by (Is a k) = judge (number d k) (number_told d k)
  by (Not f) = unread
