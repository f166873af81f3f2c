-- `<name>` and `<filter>`: the text, then 52.
use Rattle.std.specs.Prelude.{Ok, Err}
use mathlib.Core.Path.{◌≡◌, refl, ◌∙◌, sym, ap}
use mathlib.Core.Bool.{Bool, true, false, cond}
use mathlib.Core.List.{List, [], ◌∷◌}
use Prim.Native.Nat.{ℕ}
use native.Mathlib.Omega.{arith}
use lib.Dec.{eqb}
use lib.IntN.{ℤ}
use borrow.Author.Tests.{eq-eqb, ne_eqb}
use Rattle.tokens.specs.rule.Gap.{fault}
use Rattle.tokens.specs.declared.Fault.{Fault}
use Rattle.tokens.specs.declared.Quoted.{Quoted}
use Rattle.survey.specs.rule.Survey.{KeptText}
use Rattle.reading.specs.rule.Result.{Is, Not}
use Rattle.reading.specs.rule.Least.{◌when◌, named, lower, least, judged}
use Rattle.xml_reading.specs.rule.Word.{NAME, FILTER}
use Rattle.xml_reading.specs.rule.Element.{text}
use Rattle.xml_reading.specs.rule.Role.{XmlEntry, naming, filter, filter_of}
use Rattle.elements.specs.Code.{phrase_of}
use Rattle.filters.specs.Code.{text_at, ServedSaid, FilterSaid, filtered_of, NamingSaid, FilteringSaid}
use Rattle.filters.specs.declared.Filtered.TheVariants as filtered
use Rattle.filters.proofs.Texts.{TextIs}

judged_one : {A : Type 0} (f : Fault) (q : Bool) (a : A) (n : ℕ) → judged (f when q ∷ []) a n ≡ cond q (Not f) (Is a n)
unfolding judged named least lower
judged_one f true a n = refl
judged_one f false a n = refl

module _ (bad latin standard : Bool) (d : List ℕ) (rows : List ℤ) (count p e : ℕ) where
  pub naming_not : (f : Fault) → text bad d NAME 0 p e ≡ Not f → NamingSaid bad latin standard d rows count p e (Err f)
  unfolding naming
  naming_not f g = record { is = λ l r. rw g; inside = omega arith; next = omega arith }

  module _ (q : Quoted) (t : TextIs bad d NAME 0 p e q) where
    pub naming_served : ServedSaid latin standard d rows count (text_at q.place q.length) true
        → NamingSaid bad latin standard d rows count p e (Err (fault 52 q.place))
    unfolding naming
    naming_served s = record {
      is = λ l r. rw (t.reads, ← s.is l r) (ap phrase_of
          (sym (judged_one (fault 52 q.place) true (text_at q.place q.length) q.next)));
      inside = omega arith;
      next = omega arith;
    }

    pub naming_good : ServedSaid latin standard d rows count (text_at q.place q.length) false
        → NamingSaid bad latin standard d rows count p e (Ok q)
    unfolding naming
    naming_good s = record {
      is = λ l r. rw (t.reads, ← s.is l r) (ap phrase_of
          (sym (judged_one (fault 52 q.place) false (text_at q.place q.length) q.next)));
      inside = t.inside;
      next = t.next;
    }

  module _ (name : KeptText) (usage : ℕ) where
    pub filter_not : (f : Fault) → text bad d FILTER 0 p e ≡ Not f
        → FilteringSaid bad latin standard d rows count name usage p e (filtered.Not f)
    unfolding filter
    filter_not f g = record { is = λ l r. rw g; next = omega arith }

    module _ (q : Quoted) (t : TextIs bad d FILTER 0 p e q) where
      judge : (l : List XmlEntry) (f : ℕ) → f ≡ filter_of latin standard d l name usage (text_at q.place q.length) → (b : Bool)
          → eqb f 0
          ≡ b
          → cond b (filtered.Not (fault 52 q.place)) (filtered.Is f q.next)
          ≡ filtered_of (filter bad d latin standard l name usage p e)
      unfolding filter
      judge l f k b h = rw (t.reads, ← k, h) (by b ∙ ap filtered_of (sym (judged_one (fault 52 q.place) b f q.next))) where
        by : (b : Bool) → cond b (filtered.Not (fault 52 q.place)) (filtered.Is f q.next)
            ≡ filtered_of (cond b (Not (fault 52 q.place)) (Is f q.next))
        by true = refl
        by false = refl

      pub filter_wrong : (f : ℕ) → f ≡ 0 → FilterSaid latin standard d rows count name usage (text_at q.place q.length) f
          → FilteringSaid bad latin standard d rows count name usage p e (filtered.Not (fault 52 q.place))
      filter_wrong f z s = record { is = λ l r. judge l f (s.is l r) true (eq-eqb f 0 z); next = omega arith }

      pub filter_right : (f : ℕ) → (f ≡ 0 → ⊥) → FilterSaid latin standard d rows count name usage (text_at q.place q.length) f
          → FilteringSaid bad latin standard d rows count name usage p e (filtered.Is f q.next)
      filter_right f k s = record { is = λ l r. judge l f (s.is l r) false (ne_eqb f 0 k); next = t.next }
