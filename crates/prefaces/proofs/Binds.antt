-- Readers one behind another, and the code's answers as the rule's: nothing is lost between them.
use Rattle.std.specs.Prelude.{Ok, Err}
use mathlib.Core.Path.{◌≡◌, refl, sym, ap, ◌∙◌}
use mathlib.Core.Bool.{Bool, true, false, cond}
use mathlib.Core.List.{List}
use Prim.Native.Nat.{ℕ, ◌+◌, ◌≤◌}
use native.Mathlib.Omega.{arith}
use lib.ListN.{length}
use Rattle.tags.specs.rule.Tag.{is_named}
use Rattle.tags.specs.declared.Tag.{Tag}
use Rattle.tags.specs.declared.Tag.TheVariants as tag
use Rattle.pairs.specs.rule.Stand.{bare_of}
use Rattle.survey.specs.rule.Survey.{KeptText}
use Rattle.reading.specs.rule.Result.{Result, Is, Not, Reader, give, bind}
use Rattle.reading.specs.rule.Token.{passed}
use Rattle.xml_reading.specs.rule.Word.{SSS, SURVEY, RECORD}
use Rattle.xml_reading.specs.rule.Open as rule
use Rattle.xml_reading.specs.rule.Variable as variable
use Rattle.xml_reading.specs.rule.Sheet.{root, manner, heading, survey, titles, record_tag, preface, sheet_closed}
use Rattle.elements.specs.declared.Open.{Open}
use Rattle.elements.specs.declared.Open.TheVariants as opened
use Rattle.elements.specs.declared.Due.TheVariants as dues
use Rattle.elements.specs.Code.{open_of, read_of, due_of, phrase_of, Within}
use Rattle.elements.proofs.Dues.{read_open}
use Rattle.prefaces.specs.declared.Prefaced.{Prefaced}
use Rattle.prefaces.specs.declared.Prefaced.TheVariants as prefaced
use Rattle.prefaces.specs.Code.{rule_of, prefaced_of, reading_of, titled_of, inner_of, outer_of, end_of, cleared_of}
use Rattle.tokens.specs.rule.Gap.{OrFault}
use Rattle.tokens.specs.declared.Quoted.{Quoted}

-- ---- answers
pub opened_is : {o : Open} (x : Result rule.Open) → o ≡ open_of x → read_of o ≡ x
opened_is x e = ap read_of e ∙ read_open x

pub passed_is : {r : OrFault ℕ} (x : Result Unit) → r ≡ reading_of x → passed r ≡ x
passed_is (Is u n) e = ap passed e
passed_is (Not f) e = ap passed e

abbrev pub phrase_read : OrFault Quoted → Result KeptText
phrase_read (Ok q) = Is (record { place = q.place; length = q.length }) q.next
phrase_read (Err f) = Not f

pub phrase_is : {r : OrFault Quoted} (x : Result KeptText) → r ≡ phrase_of x → phrase_read r ≡ x
phrase_is (Is t n) e = ap phrase_read e
phrase_is (Not f) e = ap phrase_read e

abbrev pub preface_read : Prefaced → Result variable.Manner
preface_read (prefaced.Is m n) = Is (rule_of m) n
preface_read (prefaced.Not f) = Not f

pub prefaced_is : {r : Prefaced} (x : Result variable.Manner) → r ≡ prefaced_of x → preface_read r ≡ x
prefaced_is (Is m n) e = ap preface_read e
prefaced_is (Not f) e = ap preface_read e

pub within_first : (d : List ℕ) (at : ℕ) (o : Open) → Within d at o → Within d 0 o
within_first d at (opened.Start p e) w = (omega arith, w.1, w.2)
within_first d at (opened.Shut p n) w = (omega arith, w.1, w.2)
within_first d at (opened.Not f) w = tt

pub due_in : (bad : Bool) (d w : List ℕ) (o : Open) (p e : ℕ) → Within d 0 o → due_of (bind (read_of o) (λ x. rule.due bad d w x give))
    ≡ dues.At p e
    → e ≤ length d
due_in bad d w (opened.Start q m) p e l f = by (is_named d (q + 1) m w) (bare_of bad d q m) f where
  by : (x : Bool) (t : Tag) → due_of (cond x (give q m) (rule.on_bare bad d {A = ℕ} q t)) ≡ dues.At p e → e ≤ length d
  by true t f = let j : m ≡ e = cc in omega (arith, l.2)
  by false (tag.Read h em r n) f = let z : ◌≡◌ {A = ℕ} 0 1 = cc in absurd (omega arith)
  by false (tag.Fault j r) f = let z : ◌≡◌ {A = ℕ} 0 1 = cc in absurd (omega arith)
due_in bad d w (opened.Shut q m) p e l f = let z : ◌≡◌ {A = ℕ} 0 1 = cc in absurd (omega arith)
due_in bad d w (opened.Not g) p e l f = let z : ◌≡◌ {A = ℕ} 0 1 = cc in absurd (omega arith)

-- ---- one behind another
pub bind_bind : {A B C : Type 0} (x : Result A) (k : A → Reader B) (l : B → Reader C) → bind (bind x k) l ≡ bind x (λ a n. bind (k a n) l)
bind_bind (Is a n) k l = refl
bind_bind (Not f) k l = refl

pub three : {A B C D : Type 0} (x : Result A) (k : A → Reader B) (l : B → Reader C) (m : C → Reader D)
    → bind (bind (bind x k) l) m ≡ bind x (λ a n. bind (k a n) (λ b n. bind (l b n) m))
three x k l m = bind_bind (bind x k) l m ∙ bind_bind x k (λ b n. bind (l b n) m)

pub four : {A B C D E : Type 0} (x : Result A) (k : A → Reader B) (l : B → Reader C) (m : C → Reader D) (o : D → Reader E)
    → bind (bind (bind (bind x k) l) m) o ≡ bind x (λ a n. bind (k a n) (λ b n. bind (l b n) (λ c n. bind (m c n) o)))
four x k l m o = bind_bind (bind (bind x k) l) m o ∙ three x k l (λ c n. bind (m c n) o)

behind : {A B C D : Type 0} (x : Result A) (k : A → Reader B) (l : B → Reader C) (m : C → Reader D)
    → bind (bind x (λ a n. bind (k a n) l)) m ≡ bind x (λ a n. bind (k a n) (λ b n. bind (l b n) m))
behind (Is a n) k l m = bind_bind (k a n) l m
behind (Not f) k l m = refl

inside : {A B C D E : Type 0} (x : Result A) (k : A → Reader B) (l : B → Reader C) (m : C → Reader D) (o : D → Reader E)
    → bind (bind x (λ a n. bind (k a n) (λ b n. bind (l b n) m))) o
    ≡ bind x (λ a n. bind (k a n) (λ b n. bind (l b n) (λ c n. bind (m c n) o)))
inside (Is a n) k l m o = behind (k a n) l m o
inside (Not f) k l m o = refl

-- ---- the whole, by its parts
pub old_names : (bad : Bool) (d : List ℕ) (o : Open) → o ≡ open_of (bind (read_of o) (titled_of bad d true))
unfolding titled_of
old_names bad d (opened.Start p e) = refl
old_names bad d (opened.Shut p n) = refl
old_names bad d (opened.Not f) = refl

module _ (bad : Bool) (d : List ℕ) where
  pub preface_is : (latin : Bool) (at : ℕ) → preface bad d latin at ≡ bind (root bad d latin at) (outer_of bad d latin)
  unfolding preface outer_of inner_of
  preface_is latin at = by (root bad d latin at) where
    last : variable.Manner → Reader variable.Manner
    last m n =
        bind (heading bad d n) (λ o n. bind (rule.due bad d SURVEY o (survey bad d) n) (λ u n. bind (titles bad d m n)
        (λ o n. bind (rule.due bad d RECORD o (record_tag bad d m) n) (λ u. give m))))

    on : (y : Result variable.Manner) → bind y last ≡ bind y (λ m n. bind (inner_of bad d m n) (λ u. give m))
    on (Is m n) =
        sym (inside (heading bad d n) (λ o. rule.due bad d SURVEY o (survey bad d)) (λ u. titles bad d m)
        (λ o. rule.due bad d RECORD o (record_tag bad d m)) (λ u. give m))
    on (Not f) = refl

    by : (x : Result ℕ) → bind x (λ p n. bind (manner bad d latin p n) last) ≡ bind x (outer_of bad d latin)
    by (Is p n) = on (manner bad d latin p n)
    by (Not f) = refl

  pub closing_is : (at : ℕ) → sheet_closed bad d at
      ≡ bind (end_of bad d SURVEY at) (λ u n. bind (end_of bad d SSS n) (λ u. cleared_of bad d))
  unfolding sheet_closed end_of cleared_of
  closing_is at = sym (bind_bind (rule.within_element bad d SURVEY at) (rule.over bad d) last)
      ∙ on (bind (rule.within_element bad d SURVEY at) (rule.over bad d)) where
        last : Unit {0} → Reader (Unit {0})
        last u n = bind (rule.within_element bad d SSS n) (λ o n. bind (rule.over bad d o n) (λ u. cleared_of bad d))

        on : (y : Result (Unit {0})) → bind y last ≡ bind y (λ u n. bind (end_of bad d SSS n) (λ u. cleared_of bad d))
        on (Is u n) = sym (bind_bind (rule.within_element bad d SSS n) (rule.over bad d) (λ u. cleared_of bad d))
        on (Not f) = refl
